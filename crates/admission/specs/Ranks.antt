-- The steps by which marks are written and read, and tasks judged. Assumes nothing.
use Rattle.std.specs.Prelude.{◌≡◌, ℕ, suc, ◌<◌, ◌≤◌, Bool, cond, ◌&&◌, List, length, drop, Option, ◌==◌, slice_index}
use Rattle.std.specs.Option.{option_map}
use Rattle.denial.specs.declared.Denial.{Denial}
use Rattle.denial.specs.declared.Rule.TheVariants.{Unbounded}
use Rattle.denial.specs.Numbers.{denied}
use Rattle.find.specs.First.{first}
use Rattle.group.specs.declared.meaning.Terms.{Terms}
use Rattle.group.specs.Task.{Task, at}
use Rattle.admission.specs.Start.{uses, mark, lacking}

-- a byte once a task with this mark has used its rank, or not: the first mark stays
abbrev pub marked_byte : Bool → (mark old : ℕ) → ℕ
marked_byte used mark old = cond (used && old == 0) mark old

-- the scratch once a task of these classes was marked
pub record MarkedBy (cs : List Terms) (mark : ℕ) (before after : List ℕ) : Type 0 where
  pub bytes : (r : ℕ) → r < 256 → slice_index after r ≡ marked_byte (uses cs r) mark (slice_index before r)
  pub rest : drop 256 after ≡ drop 256 before

-- the first 256 bytes are the marks
pub record HoldsMarks (ts : List Task) (scratch : List ℕ) : Type 0 where
  pub room : 256 ≤ length scratch
  pub bytes : (r : ℕ) → r < 256 → slice_index scratch r ≡ mark ts r

-- why a task cannot be started: its lowest class that must have a bound and has none
abbrev pub classes_fault : List Task → ℕ → Option Denial
classes_fault ts k =
    option_map (λ j. denied Unbounded k (suc j)) (first (λ j. lacking ts k (suc j)) (length (at ts k).classes))
