-- Why a bound takes the largest budget among all classes of the task that rank as high: with the class's own budget alone, a class
-- would have a bound that a run breaks. Assumes nothing.
use Rattle.std.specs.Prelude.{◌≡◌, ℕ, ◌+◌, ◌≤◌, Bool, true, false, List, [], ◌∷◌, length, None}
use Rattle.group.specs.Task.{Task, at, terms_of}
use Rattle.plate.specs.Rows.{Framed}
use Rattle.kinds.specs.Frames.{framed_task}
use Rattle.bounds.specs.Bound.{sum, request, bound}
use Rattle.dispatcher.specs.declared.end.Way.TheVariants.{Finished, Late}
use Rattle.dispatcher.specs.State.{State, new, started_state}
use Rattle.dispatcher.specs.Refusals.{release_state}
use Rattle.dispatcher.specs.Records.{tick_state, tick_ends}

-- frames with gap 3: budget 1 at rank 4
abbrev pub steady : Framed
steady = record { gap = 3; frames = record { budget = 1; rank = 4 } ∷ [] }

-- frames with gap 2: budget 2 at rank 5, then budget 1 at rank 2
abbrev pub two_faced : Framed
two_faced = record { gap = 2; frames = record { budget = 2; rank = 5 } ∷ (record { budget = 1; rank = 2 } ∷ []) }

-- the two tasks
abbrev pub pair : List Task
pair = framed_task steady ∷ (framed_task two_faced ∷ [])

-- what would be asked for within R ticks with the class's own budget alone
abbrev pub own_workload : List Task → (k c R : ℕ) → ℕ
own_workload ts k c R = (terms_of (at ts k) c).budget + sum (length ts) (request ts k R (terms_of (at ts k) c).rank)

-- one tick, with room for all records
abbrev pub tick_once : (mark : Bool) → State → State
tick_once mark s = tick_state pair s mark 64

-- both released at 0; the job of rank 5 runs for two ticks and finishes
abbrev pub at_two : State
at_two = tick_once true (tick_once false (release_state pair (release_state pair (started_state (new (1 ∷ (1 ∷ [])))) 0) 1))

-- task 1 released again, now in class 2; task 0 runs and finishes, and is released again at 3
abbrev pub at_three : State
at_three = release_state pair (tick_once true (release_state pair at_two 1)) 0

-- With its own budget alone, 2 ticks would be enough for class 2 of task 1; it has no bound; and in the run, if such a plan were
-- started, task 0 runs once more in the next tick, and the job of class 2 is late.
pub record OwnBudgetFails : Type 0 where
  pub would_fit : own_workload pair 1 2 2 ≤ 2
  pub no_bound : bound pair 1 2 ≡ None
  pub late : tick_ends pair at_three true ≡ record { task = 0; class = 1; way = Finished; age = 1 } ∷ (record { task = 1; class = 2; way = Late; age = 2 } ∷ [])
