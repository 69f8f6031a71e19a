-- What is promised of every trace of a new dispatcher over any lawful group. Assumes nothing.
use Rattle.std.specs.Prelude.{◌≡◌, ℕ, ◌+◌, ◌<◌, ◌≤◌, Bool, true, false, List, [], ◌∷◌, length, Some, Ok, Option, nat_le}
use Rattle.std.specs.List.{AllByRecursion}
use Rattle.denial.specs.Checks.{unless}
use Rattle.group.specs.Task.{Task, Lawful, Position, Class, at, place, terms_of}
use Rattle.kinds.specs.MissCounted.{IsMissCounted}
use Rattle.bounds.specs.Bound.{bound_answer, task_fault, bound, LeastBound, Bounded}
use Rattle.dispatcher.specs.declared.end.Way.{Way}
use Rattle.dispatcher.specs.declared.end.Way.TheVariants.{Finished, Cut, Late}
use Rattle.dispatcher.specs.declared.end.End.{End}
use Rattle.dispatcher.specs.declared.view.View.TheVariants.{Pending, Halted}
use Rattle.choose.specs.Foremost.{IsForemost}
use Rattle.dispatcher.specs.State.{State, waits, outranks, runner}
use Rattle.dispatcher.specs.Questions.{slot_answer}
use Rattle.promise.specs.Trace.{Call, Trace, records, records_of, state_after}
use Rattle.promise.specs.Reading.{Reading, Ending, reading}

-- the question for the bound of class c of task k answers R
abbrev pub HasBound : List Task → (k c R : ℕ) → Type 0
HasBound ts k c R = bound_answer ts k c ≡ Ok (Some R)

-- does an end keep the bound R: finished or cut, at an age of at most R?
abbrev pub in_time : (R : ℕ) → Way → (age : ℕ) → Bool
in_time R Finished age = nat_le age R
in_time R Cut age = nat_le age R
in_time R Late age = false

-- an end of a job of task k was in time, if its class has a bound
abbrev pub Timely : List Task → (k class : ℕ) → Way → (age : ℕ) → Type 0
Timely ts k class way age = (R : ℕ) → HasBound ts k class R → in_time R way age ≡ true

-- (a) every job of task k that has ended was in time if its class has a bound; a pending one is younger than the bound
pub record EndsInTime (ts : List Task) (k : ℕ) (q : Reading) : Type 0 where
  pub ended : AllByRecursion (λ x. Timely ts k x.class x.way x.age) q.ended
  pub pending : (c age used R : ℕ) → q.slot ≡ Pending c age used → HasBound ts k c R → age < R

-- of these ends, the newest first, the last was a cut: the miss was not tolerated, and the job ran for the whole budget of its class
pub record CutAtBudget (t : Task) (ended : List Ending) : Type 0 where
  pub end : Ending
  pub earlier : List Ending
  pub the_last : ended ≡ end ∷ earlier
  pub by_cut : end.way ≡ Cut
  pub at_budget : end.ran ≡ (terms_of t end.class).budget
  pub not_tolerated : (terms_of t end.class).tolerated ≡ false

-- (b) a halted task was halted by a job that was cut at its own budget
abbrev pub HaltsByCut : Task → Reading → Type 0
HaltsByCut t q = q.slot ≡ Halted → CutAtBudget t q.ended

-- (c) a miss-counted task has fewer late ends in a row than the number of any bounded class, and so of the first
abbrev pub FewLate : List Task → (k : ℕ) → Reading → Type 0
FewLate ts k q = IsMissCounted (at ts k) → (f R : ℕ) → HasBound ts k f R → q.lates < f

-- (d) the question for a slot answers as the trace reads
abbrev pub SlotAsRead : List Task → State → (k : ℕ) → Reading → Type 0
SlotAsRead ts s k q = slot_answer ts s k ≡ unless (task_fault ts k) q.slot

-- what is promised of task k, by its reading q, in the dispatcher's state s
pub record Promised (ts : List Task) (s : State) (k : ℕ) (q : Reading) : Type 0 where
  pub ends : EndsInTime ts k q
  pub halts : HaltsByCut (at ts k) q
  pub streak : FewLate ts k q
  pub slot : SlotAsRead ts s k q

-- A record tells of the job that was pending by the reading of the calls before: of its class, and of its age one tick later.
pub record TellsOfJob (ts : List Task) (places : List ℕ) (before : List Call) (e : End) : Type 0 where
  pub task : e.task < length ts
  pub age_before : ℕ
  pub used_before : ℕ
  pub pending : (reading ts places before e.task).slot ≡ Pending e.class age_before used_before
  pub age : e.age ≡ age_before + 1

-- every record in a trace does
abbrev pub RecordsTrue : List Task → (places : List ℕ) → List Call → Type 0
RecordsTrue ts places [] = Unit {0}
RecordsTrue ts places (c ∷ cs) = AllByRecursion (TellsOfJob ts places cs) (records_of c) × RecordsTrue ts places cs

-- what is promised of a trace: (a) to (d) of every task by its reading; (a) of every record by its own class, way and age; and that
-- the records tell of the jobs that the reading has
pub record Kept (ts : List Task) (places : List ℕ) (cs : List Call) : Type 0 where
  pub tasks : (k : ℕ) → k < length ts → Promised ts (state_after ts places cs) k (reading ts places cs k)
  pub ends : AllByRecursion (λ e. Timely ts e.task e.class e.way e.age) (records cs)
  pub told : RecordsTrue ts places cs

-- a lawful group, each task at a position of its own
pub record SoundGroup (ts : List Task) (places : List ℕ) : Type 0 where
  pub lawful : (i : ℕ) → i < length ts → Lawful (at ts i)
  pub as_many : length places ≡ length ts
  pub placed : (i : ℕ) → i < length ts → Position (at ts i) (place places i)

-- The promise: over every lawful group, every positions at the making, and every succession of calls on the new dispatcher.
abbrev pub Promise : Type 0
Promise = (ts : List Task) (places : List ℕ) → SoundGroup ts places → (cs : List Call) → Trace ts places cs → Kept ts places cs

-- The bound that is answered is the least number of ticks that is enough, and it is answered wherever there is one.
abbrev pub BoundIsLeast : Type 0
BoundIsLeast = (ts : List Task) (k c : ℕ) → k < length ts → Class (at ts k) c →
    ((R : ℕ) → bound ts k c ≡ Some R → LeastBound ts k c R) × ((R : ℕ) → Bounded ts k c R → (Q : ℕ) × (bound ts k c ≡ Some Q) × (Q ≤ R))

-- Who runs is not left to choice: in every state that a trace leads to, the one that runs is a pending job of the highest rank
-- (none only where none is pending), and no other task is.
abbrev pub NoChoice : Type 0
NoChoice = (ts : List Task) (places : List ℕ) → SoundGroup ts places → (cs : List Call) → Trace ts places cs →
    IsForemost (waits (state_after ts places cs)) (outranks ts (state_after ts places cs)) (length ts) (runner ts (state_after ts places cs))
    × ((ran : Option ℕ) → IsForemost (waits (state_after ts places cs)) (outranks ts (state_after ts places cs)) (length ts) ran →
    ran ≡ runner ts (state_after ts places cs))
