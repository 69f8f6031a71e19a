-- Two groups as one: the first list and then the second, ended at 65,535. Assumes nothing.
use Rattle.std.specs.Prelude.{◌≡◌, ⊤, ℕ, ◌-◌, cond, List, ◌++◌, take, nat_lt, slice_index_or}
use Rattle.group.specs.declared.part.Part.{Part}
use Rattle.group.specs.declared.part.Part.TheVariants.{First, Second, Absent}
use Rattle.group.specs.declared.meaning.Outcome.{Outcome}
use Rattle.group.specs.Task.{Task, at, place, no_task, settled}

-- two lists as one
abbrev pub joint : {X : Type 0} → List X → List X → List X
joint xs ys = take 65535 (xs ++ ys)

-- where a task stands, if the first list has so many
abbrev pub part_of : (before task : ℕ) → Part
part_of before task = cond (nat_lt task before) (First task) (cond (nat_lt task 65535) (Second (task - before)) Absent)

-- what stands in a part
abbrev pub picked : {X : Type 0} → Part → List X → List X → X → X
picked (First i) xs ys d = slice_index_or xs i d
picked (Second i) xs ys d = slice_index_or ys i d
picked Absent xs ys d = d

-- the positions of the first group once the task of a part has ended a job
abbrev pub settled_first : Part → List Task → List ℕ → Outcome → List ℕ
settled_first (First i) ts ps o = settled ts ps i o
settled_first (Second i) ts ps o = ps
settled_first Absent ts ps o = ps

-- and those of the second
abbrev pub settled_second : Part → List Task → List ℕ → Outcome → List ℕ
settled_second (First i) ts ps o = ps
settled_second (Second i) ts ps o = settled ts ps i o
settled_second Absent ts ps o = ps

-- the task so numbered in the joint list is the one of this part
pub record Stands (ta tb : List Task) (pa pb : List ℕ) (task : ℕ) (r : Part) : Type 0 where
  pub tasks : at (joint ta tb) task ≡ picked r ta tb no_task
  pub places : place (joint pa pb) task ≡ picked r pa pb 0
  pub moves : (o : Outcome) → joint (settled_first r ta pa o) (settled_second r tb pb o) ≡ settled (joint ta tb) (joint pa pb) task o

-- what may be asked of the group of a part
abbrev pub MayAsk : Part → (ℕ → Type 0) → (ℕ → Type 0) → Type 0
MayAsk (First i) first second = first i
MayAsk (Second i) first second = second i
MayAsk Absent first second = ⊤

-- what it answers
abbrev pub Answers : {T : Type 0} → Part → T → (ℕ → T → Type 0) → (ℕ → T → Type 0) → T → Type 0
Answers (First i) none first second r = first i r
Answers (Second i) none first second r = second i r
Answers Absent none first second r = r ≡ none
