-- The start: which ranks are in use, and why a group is not started. Assumes nothing.
use Rattle.std.specs.Prelude.{◌≡◌, ℕ, suc, ◌<◌, ◌≤◌, Bool, false, not, ◌&&◌, ◌||◌, ◌⊎◌, List, [], ◌∷◌, ◌++◌, map, length, drop, is_some, Some, None, Ok, Err, Option, Result, ◌==◌, nat_lt}
use Rattle.std.specs.Option.{option_or, option_map}
use Rattle.std.specs.List.{range_with_len}
use Rattle.denial.specs.declared.Denial.{Denial}
use Rattle.denial.specs.declared.Rule.TheVariants.{Started, Scratch, SharedRank, Unbounded}
use Rattle.denial.specs.Numbers.{denied}
use Rattle.denial.specs.Checks.{when}
use Rattle.find.specs.First.{first, first_pair}
use Rattle.group.specs.declared.meaning.Terms.{Terms}
use Rattle.group.specs.Task.{Task, Class, terms_of, at}
use Rattle.bounds.specs.Bound.{bound, Bounded, count_fault}

-- is a rank used by one of these classes?
abbrev pub uses : List Terms → ℕ → Bool
uses [] r = false
uses (c ∷ cs) r = c.rank == r || uses cs r

-- is one rank used by classes of both lists?
abbrev pub share : List Terms → List Terms → Bool
share cs [] = false
share cs (d ∷ ds) = uses cs d.rank || share cs ds

-- the mark of a rank: 1 plus the lowest task that uses it, or 0
abbrev pub mark_of : Option ℕ → ℕ
mark_of None = 0
mark_of (Some i) = suc i

abbrev pub mark : List Task → ℕ → ℕ
mark ts r = mark_of (first (λ i. uses (at ts i).classes r) (length ts))

-- the marks of all ranks
abbrev pub marks : List Task → List ℕ
marks ts = map (mark ts) (range_with_len 0 256)

-- two tasks that share a rank, the lower first
abbrev pub sharing : List Task → (i j : ℕ) → Bool
sharing ts i j = nat_lt i j && share (at ts i).classes (at ts j).classes

abbrev pub shared_fault : List Task → Option Denial
shared_fault ts = option_map (λ p. denied SharedRank p.0 p.1) (first_pair (sharing ts) (length ts) (λ _. length ts))

-- a class whose miss is not tolerated and that has no bound
abbrev pub lacking : List Task → (k c : ℕ) → Bool
lacking ts k c = not (terms_of (at ts k) c).tolerated && not (is_some (bound ts k c))

abbrev pub unbounded_fault : List Task → Option Denial
unbounded_fault ts =
    option_map (λ p. denied Unbounded p.0 (suc p.1)) (first_pair (λ k j. lacking ts k (suc j)) (length ts) (λ k. length (at ts k).classes))

-- why a start is refused before it looks at ranks and bounds; the scratch is untouched then
abbrev pub early_fault : Bool → (room : ℕ) → List Task → Option Denial
early_fault started room ts = option_or (when started (denied Started 0 0)) (option_or (when (nat_lt room 256) (denied Scratch 0 0)) (count_fault ts))

-- why a group of tasks cannot be started: a rank that two tasks share, or a class whose miss is not tolerated without a bound
abbrev pub plan_fault : List Task → Option Denial
plan_fault ts = option_or (shared_fault ts) (unbounded_fault ts)

-- why a start is refused
abbrev pub start_fault : Bool → (room : ℕ) → List Task → Option Denial
start_fault started room ts = option_or (early_fault started room ts) (plan_fault ts)

-- what the scratch holds after a start
abbrev pub scratch_after : Option Denial → List Task → List ℕ → List ℕ
scratch_after None ts scratch = marks ts ++ drop 256 scratch
scratch_after (Some d) ts scratch = scratch

-- two tasks use one rank, the lower first
pub record Shares (ts : List Task) (i j : ℕ) : Type 0 where
  pub order : i < j
  pub task : j < length ts
  pub class : ℕ
  pub other : ℕ
  pub classes : Class (at ts i) class × Class (at ts j) other
  pub same : (terms_of (at ts i) class).rank ≡ (terms_of (at ts j) other).rank

-- a class whose miss is not tolerated and for which no number of ticks is enough
pub record Lacks (ts : List Task) (k c : ℕ) : Type 0 where
  pub task : k < length ts
  pub class : Class (at ts k) c
  pub strict : (terms_of (at ts k) c).tolerated ≡ false
  pub never : (R : ℕ) → Bounded ts k c R → ⊥

-- The group may be started: it has 1 to 64 tasks, no two of them share a rank, and each class whose miss is not tolerated has a bound.
pub record Startable (ts : List Task) : Type 0 where
  pub some_task : 1 ≤ length ts
  pub few : length ts ≤ 64
  pub apart : (i j : ℕ) → Shares ts i j → ⊥
  pub strict : (k c : ℕ) → k < length ts → Class (at ts k) c → (terms_of (at ts k) c).tolerated ≡ false → (R : ℕ) × (bound ts k c ≡ Some R)

-- What a start's answer means: it accepts exactly a group that may be started, once and with room; a shared rank and a class
-- without a bound are named truly, and none comes before them.
pub record StartLaw (started : Bool) (room : ℕ) (ts : List Task) (r : Result (Unit {0}) Denial) : Type 0 where
  pub accepts : started ≡ false → 256 ≤ room → Startable ts → r ≡ Ok tt
  pub only : r ≡ Ok tt → (started ≡ false) × (256 ≤ room) × Startable ts
  pub shared : (i j : ℕ) → r ≡ Err (denied SharedRank i j) → Shares ts i j × ((a b : ℕ) → Shares ts a b → (i < a) ⊎ ((i ≡ a) × (j ≤ b)))
  pub unbounded : (k c : ℕ) → r ≡ Err (denied Unbounded k c) → Lacks ts k c × ((a b : ℕ) → Lacks ts a b → (k < a) ⊎ ((k ≡ a) × (c ≤ b)))
