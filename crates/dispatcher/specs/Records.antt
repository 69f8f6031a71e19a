-- What a tick answers, and the records that it leaves: each end once, in any order. Assumes nothing.
use Rattle.std.specs.Prelude.{◌≡◌, ℕ, zero, suc, Bool, List, [], ◌++◌, length, take, drop, Some, None, Option, Result}
use Rattle.std.specs.List.Sorted.{IsPermutation}
use Rattle.denial.specs.declared.Denial.{Denial}
use Rattle.denial.specs.Checks.{unless}
use Rattle.group.specs.Task.{Task, at}
use Rattle.dispatcher.specs.declared.end.End.{End}
use Rattle.dispatcher.specs.Slots.{way_of, end_record}
use Rattle.dispatcher.specs.State.{State, slot_of, runner, is_running, ticked}
use Rattle.dispatcher.specs.Refusals.{tick_fault, kept_if}

-- the record of task i's end in a tick in which `ran` runs, if it ends a job
abbrev pub ends_at : List Task → State → (mark : Bool) (ran : Option ℕ) → (i : ℕ) → List End
ends_at ts s mark ran i = end_record i s.clock (slot_of s i) (way_of (at ts i) s.clock (is_running ran i) mark (slot_of s i))

-- the records of the first n tasks, in the order of their numbers
unfoldable pub ends_upto : List Task → State → (mark : Bool) (ran : Option ℕ) → (n : ℕ) → List End
ends_upto ts s mark ran zero = []
ends_upto ts s mark ran (suc n) = ends_upto ts s mark ran n ++ ends_at ts s mark ran n

-- the ends of a tick with this mark
abbrev pub tick_ends : List Task → State → (mark : Bool) → List End
tick_ends ts s mark = ends_upto ts s mark (runner ts s) (length ts)

-- What a list holds after `ends` were put into it: each of them stands once in its front, in any order, and the rest is untouched.
pub record Recorded (ends before after : List End) : Type 0 where
  pub front : IsPermutation ends (take (length ends) after)
  pub rest : drop (length ends) after ≡ drop (length ends) before

-- the answer to a tick: the task that ran, and the number of ends
abbrev pub tick_answer : List Task → State → (mark : Bool) (room : ℕ) → Result (Option ℕ × ℕ) Denial
tick_answer ts s mark room = unless (tick_fault ts s mark room) (runner ts s, length (tick_ends ts s mark))

-- the state after a tick
abbrev pub tick_state : List Task → State → (mark : Bool) (room : ℕ) → State
tick_state ts s mark room = kept_if (tick_fault ts s mark room) s (ticked ts mark (runner ts s) s)

-- what the list holds after a tick: the ends, or all as before where it is refused
abbrev pub Listed : Option Denial → (ends before after : List End) → Type 0
Listed None ends before after = Recorded ends before after
Listed (Some d) ends before after = after ≡ before
