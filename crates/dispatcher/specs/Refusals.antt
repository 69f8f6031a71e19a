-- Why a release, a tick or a resume is refused, in the order of checking, and what each call answers. Assumes nothing.
use Rattle.std.specs.Prelude.{ℕ, ◌-◌, Bool, false, not, ◌&&◌, List, length, Some, None, Option, Result, ◌==◌, nat_le, nat_lt}
use Rattle.std.specs.Option.{option_or}
use Rattle.denial.specs.declared.Denial.{Denial}
use Rattle.denial.specs.declared.Rule.TheVariants.{NotStarted, NoTask, Halted, TooSoon, NotHalted, ClockEnd, NothingPending, ListRoom}
use Rattle.denial.specs.Numbers.{denied}
use Rattle.denial.specs.Checks.{when, unless}
use Rattle.group.specs.Task.{Task, at}
use Rattle.dispatcher.specs.declared.slot.Seat.{Seat}
use Rattle.dispatcher.specs.Slots.{is_halted}
use Rattle.dispatcher.specs.State.{State, standing, slot_of, pending_count, released, resumed}

-- 14: no start was accepted; a group of more than 64 tasks, which has no seat for each, never was started
abbrev pub unstarted_fault : (started : Bool) (count : ℕ) → Option Denial
unstarted_fault started count = when (not (started && nat_le count 64)) (denied NotStarted 0 0)

-- 15: there is no task of that number
abbrev pub no_task_fault : (count k : ℕ) → Option Denial
no_task_fault count k = when (nat_le count k) (denied NoTask 0 0)

-- the seat of a task, once a start was accepted: refused by 14, 15
abbrev pub known_answer : List Task → State → (k : ℕ) → Result Seat Denial
known_answer ts s k = unless (option_or (unstarted_fault s.started (length ts)) (no_task_fault (length ts) k)) (standing s k).seat

-- have fewer than gap ticks passed since the last accepted release?
abbrev pub too_soon : (gap clock : ℕ) → Option ℕ → Bool
too_soon gap clock None = false
too_soon gap clock (Some last) = nat_lt (clock - last) gap

-- 17 and 18: the task is halted; it was released too shortly before
abbrev pub seat_fault : (gap clock : ℕ) → Seat → Option Denial
seat_fault gap clock seat =
    option_or (when (is_halted seat.slot) (denied Halted 0 0)) (when (too_soon gap clock seat.last) (denied TooSoon 0 0))

-- why a release is refused: 14, 15, 17, 18
abbrev pub release_fault : List Task → State → (k : ℕ) → Option Denial
release_fault ts s k =
    option_or (unstarted_fault s.started (length ts)) (option_or (no_task_fault (length ts) k) (seat_fault (at ts k).gap s.clock (standing s k).seat))

-- why a resume is refused: 14, 15, 19
abbrev pub resume_fault : List Task → State → (k : ℕ) → Option Denial
resume_fault ts s k =
    option_or (unstarted_fault s.started (length ts)) (option_or (no_task_fault (length ts) k) (when (not (is_halted (slot_of s k))) (denied NotHalted 0 0)))

-- 20, 21 and 22: the clock is at its last value; a finish is marked while no job is pending; the list is too short
abbrev pub room_fault : (clock : ℕ) (mark : Bool) (pending room : ℕ) → Option Denial
room_fault clock mark pending room =
    option_or (when (clock == 4294967295) (denied ClockEnd 0 0))
    (option_or (when (mark && pending == 0) (denied NothingPending 0 0)) (when (nat_lt room pending) (denied ListRoom 0 0)))

-- why a tick is refused, with this mark and a list of so many records: 14, 20, 21, 22
abbrev pub tick_fault : List Task → State → (mark : Bool) (room : ℕ) → Option Denial
tick_fault ts s mark room = option_or (unstarted_fault s.started (length ts)) (room_fault s.clock mark (pending_count ts s) room)

-- what a call leaves: all as before where it is refused
abbrev pub kept_if : {A : Type 0} → Option Denial → (before after : A) → A
kept_if None before after = after
kept_if (Some d) before after = before

-- the state after a release
abbrev pub release_state : List Task → State → (k : ℕ) → State
release_state ts s k = kept_if (release_fault ts s k) s (released ts k s)

-- the state after a resume
abbrev pub resume_state : List Task → State → (k : ℕ) → State
resume_state ts s k = kept_if (resume_fault ts s k) s (resumed k s)

-- the answer to a release
abbrev pub release_answer : List Task → State → (k : ℕ) → Result (Unit {0}) Denial
release_answer ts s k = unless (release_fault ts s k) tt

-- the answer to a resume
abbrev pub resume_answer : List Task → State → (k : ℕ) → Result (Unit {0}) Denial
resume_answer ts s k = unless (resume_fault ts s k) tt
