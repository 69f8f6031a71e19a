-- Kinds of rows, and what a table of rows of one kind tells. Assumes nothing.
use Rattle.std.specs.Prelude.{◌≡◌, ℕ, ◌<◌, ◌≤◌, List, [], ◌∷◌, ◌++◌, map, length, Option, nat_lt, slice_index, slice_index_or}
use Rattle.std.specs.Option.{option_or}
use Rattle.denial.specs.declared.Denial.{Denial}
use Rattle.denial.specs.declared.Rule.TheVariants.{RowCounts}
use Rattle.denial.specs.Numbers.{denied}
use Rattle.group.specs.Task.{Task, Position, Lawful, Attained, at, no_task}
use Rattle.denial.specs.Checks.{when}

-- A kind of row: what rows of a type R say, as a plate has it, the task that they mean, and how many classes it has; when a row is
-- good, so that it keeps the rules of its kind, and its first fault. Then what a good row owes its table.
pub record Kind (R : Type 0) : Type 1 where
  pub Said : Type 0
  pub says : R → Said
  pub task : Said → Task
  pub Sound : Said → Type 0
  pub Counts : R → Task → Type 0
  pub classes : R → ℕ
  pub good : R → Type 0
  pub fault : R → Option Denial
  pub one : (r : R) → IsProp (good r)
  pub some : (r : R) → good r → 1 ≤ classes r
  pub counted : (r : R) → good r → length (task (says r)).classes ≡ classes r
  pub classed : (s : Said) (x : ℕ) → (task s).class_at x ≡ x
  pub placed : (r : R) → good r → (x : ℕ) → 1 ≤ x → x ≤ classes r → Position (task (says r)) x
  pub lawful : (r : R) → good r → Lawful (task (says r))
  pub sound : (r : R) → good r → Sound (says r)
  pub counts : (r : R) → good r → Counts r (task (says r))
  pub attained : (r : R) → good r → Attained (task (says r))

-- each row is good: it keeps the rules of its kind
abbrev pub Keeps : {R : Type 0} → (R → Type 0) → R → List R → ℕ → Type 0
Keeps good none rows len = (i : ℕ) → i < len → ∥ good (slice_index_or rows i none) ∥₁

-- each row is at one of its classes
abbrev pub Placed : {R : Type 0} → (R → ℕ) → R → List R → List ℕ → ℕ → Type 0
Placed classes none rows places len = (i : ℕ) → i < len → (1 ≤ slice_index places i) × (slice_index places i ≤ classes (slice_index_or rows i none))

-- a good row that stands at place i of the rows, and so means task i
pub record RowAt {R X : Type 0} (good : R → Type 0) (classes : R → ℕ) (says : R → X) (task : X → Task) (rows : List X) (i : ℕ) (r : R) : Type 0 where
  pub here : i < length rows
  pub stands : (d : X) → slice_index_or rows i d ≡ says r
  pub keeps : good r
  pub means : at (map task rows) i ≡ task (says r)
  pub count : length (at (map task rows) i).classes ≡ classes r

-- no row stands at place i
pub record NoRowAt {X : Type 0} (task : X → Task) (rows : List X) (i : ℕ) : Type 0 where
  pub past : length rows ≤ i
  pub none : length (map task rows) ≤ i
  pub means : at (map task rows) i ≡ no_task

-- why a row is refused: there are 16 already, or it has a fault; the place is that of the number of rows on a plate
abbrev pub add_fault : {X : Type 0} → List X → (place : ℕ) → Option Denial → Option Denial
add_fault rows place fault = option_or (when (nat_lt 15 (length rows)) (denied RowCounts 255 place)) fault

-- one row more, at its first position; all else as before
pub record Grown {X : Type 0} (task : X → Task) (x : X) (rows rows' : List X) (places places' : List ℕ) : Type 0 where
  pub listed : rows' ≡ rows ++ (x ∷ [])
  pub tasks : map task rows' ≡ map task rows ++ (task x ∷ [])
  pub placed : places' ≡ places ++ (1 ∷ [])
