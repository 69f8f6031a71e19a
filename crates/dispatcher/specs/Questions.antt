-- The questions: the clock is the state's own; a slot, the next to run, the next expiry; a bound is that of the group. Assumes nothing.
use Rattle.std.specs.Prelude.{ℕ, ◌-◌, Bool, List, length, Option, Result, nat_lt}
use Rattle.denial.specs.declared.Denial.{Denial}
use Rattle.denial.specs.Checks.{unless}
use Rattle.group.specs.Task.{Task, at}
use Rattle.bounds.specs.Bound.{task_fault}
use Rattle.dispatcher.specs.declared.slot.Slot.{Slot}
use Rattle.dispatcher.specs.declared.slot.Slot.TheVariants.{Empty, Pending, Halted}
use Rattle.dispatcher.specs.declared.view.View.{View}
use Rattle.dispatcher.specs.declared.view.View.TheVariants.{Empty as Vacant, Pending as Waiting, Halted as Stopped}
use Rattle.choose.specs.Foremost.{foremost}
use Rattle.dispatcher.specs.Slots.{age_of}
use Rattle.dispatcher.specs.State.{State, slot_of, waits, runner}

-- a slot as it is seen at a clock: a pending job with its class, age and used ticks
abbrev pub view_of : (clock : ℕ) → Slot → View
view_of clock Empty = Vacant
view_of clock (Pending class since used) = Waiting class (clock - since) used
view_of clock Halted = Stopped

-- the answer to the question for a slot; refused by 11, 15
abbrev pub slot_answer : List Task → State → (k : ℕ) → Result View Denial
slot_answer ts s k = unless (task_fault ts k) (view_of s.clock (slot_of s k))

-- the answer to the question for the task that would run next
abbrev pub next_answer : List Task → State → Option ℕ
next_answer ts s = runner ts s

-- how many ticks the pending job of task i has left: its gap less its age
abbrev pub ticks_left : List Task → State → (i : ℕ) → ℕ
ticks_left ts s i = (at ts i).gap - age_of s.clock (slot_of s i)

-- has task i's job fewer ticks left than that of task j?
abbrev pub expires_sooner : List Task → State → (i j : ℕ) → Bool
expires_sooner ts s i j = nat_lt (ticks_left ts s i) (ticks_left ts s j)

-- the answer to the question for the next expiry: the task whose pending job has the fewest ticks left, of several the lowest
abbrev pub expiry_answer : List Task → State → Option ℕ
expiry_answer ts s = foremost (waits s) (expires_sooner ts s) (length ts)
