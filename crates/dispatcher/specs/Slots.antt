-- One task's slot: the events that it meets, and what a tick makes of its job. Assumes nothing.
use Rattle.std.specs.Prelude.{ℕ, ◌+◌, ◌-◌, Bool, true, false, cond, List, [], ◌∷◌, Some, None, Option, ◌==◌}
use Rattle.group.specs.declared.meaning.Outcome.{Outcome}
use Rattle.group.specs.declared.meaning.Outcome.TheVariants.{Finish as finish, Miss as miss}
use Rattle.group.specs.Task.{Task, terms_of}
use Rattle.dispatcher.specs.declared.slot.Slot.{Slot}
use Rattle.dispatcher.specs.declared.slot.Slot.TheVariants.{Empty, Pending, Halted}
use Rattle.dispatcher.specs.declared.event.Event.{Event}
use Rattle.dispatcher.specs.declared.event.Event.TheVariants.{Release, Run, Finish, Expiry, Resume}
use Rattle.dispatcher.specs.declared.end.Way.{Way}
use Rattle.dispatcher.specs.declared.end.Way.TheVariants.{Finished, Cut, Late}
use Rattle.dispatcher.specs.declared.end.End.{End}

-- The slot machine: what a slot is after an event. An event that has no place in a state leaves it as it is.
abbrev pub meets : Slot → Event → Slot
meets Empty (Release class clock) = Pending class clock 0
meets Empty Run = Empty
meets Empty Finish = Empty
meets Empty (Expiry tolerated) = Empty
meets Empty Resume = Empty
meets (Pending c r u) (Release class clock) = Pending c r u
meets (Pending c r u) Run = Pending c r (u + 1)
meets (Pending c r u) Finish = Empty
meets (Pending c r u) (Expiry tolerated) = cond tolerated Empty Halted
meets (Pending c r u) Resume = Pending c r u
meets Halted (Release class clock) = Halted
meets Halted Run = Halted
meets Halted Finish = Halted
meets Halted (Expiry tolerated) = Halted
meets Halted Resume = Empty

-- is a job pending?
abbrev pub is_pending : Slot → Bool
is_pending Empty = false
is_pending (Pending c r u) = true
is_pending Halted = false

-- is the task halted?
abbrev pub is_halted : Slot → Bool
is_halted Empty = false
is_halted (Pending c r u) = false
is_halted Halted = true

-- the class of the pending job, else 0, which is no class
abbrev pub class_of : Slot → ℕ
class_of Empty = 0
class_of (Pending c r u) = c
class_of Halted = 0

-- the age of the pending job at a clock, else 0
abbrev pub age_of : (clock : ℕ) → Slot → ℕ
age_of clock Empty = 0
age_of clock (Pending c r u) = clock - r
age_of clock Halted = 0

-- the rank of the pending job, else 0, which is no rank
abbrev pub rank_of : Task → Slot → ℕ
rank_of t Empty = 0
rank_of t (Pending c r u) = (terms_of t c).rank
rank_of t Halted = 0

-- a job that was neither finished nor cut is late if its age has come to its gap
abbrev pub overdue : (gap age : ℕ) → Option Way
overdue gap age = cond (age == gap) (Some Late) None

-- How a pending job ends in a tick, if it does. `runs`: it is the one that runs; `mark`: the finish mark; `age`: its age once
-- the clock has grown; `used`: the ticks in which it ran, this one included.
abbrev pub ending : (runs mark : Bool) (budget gap age used : ℕ) → Option Way
ending true true budget gap age used = Some Finished
ending true false budget gap age used = cond (used == budget) (Some Cut) (overdue gap age)
ending false mark budget gap age used = overdue gap age

-- the ticks used by a job after a tick
abbrev pub used_after : (runs : Bool) → ℕ → ℕ
used_after true used = used + 1
used_after false used = used

-- how the job of a slot ends in the tick after `clock`, if there is one and it does
abbrev pub way_of : Task → (clock : ℕ) (runs mark : Bool) → Slot → Option Way
way_of t clock runs mark Empty = None
way_of t clock runs mark (Pending c r u) = ending runs mark (terms_of t c).budget t.gap (clock + 1 - r) (used_after runs u)
way_of t clock runs mark Halted = None

-- what a way of ending is to the slot: a miss counts as an expiry
abbrev pub event_of : Way → (tolerated : Bool) → Event
event_of Finished tolerated = Finish
event_of Cut tolerated = Expiry tolerated
event_of Late tolerated = Expiry tolerated

-- and to the group
abbrev pub outcome_of : Way → Outcome
outcome_of Finished = finish
outcome_of Cut = miss
outcome_of Late = miss

-- the slot once its job has run, if it is the one that runs
abbrev pub run_slot : (runs : Bool) → Slot → Slot
run_slot true slot = meets slot Run
run_slot false slot = slot

-- the slot once its job has ended so, if it has
abbrev pub end_slot : Slot → Option Way → (tolerated : Bool) → Slot
end_slot slot None tolerated = slot
end_slot slot (Some way) tolerated = meets slot (event_of way tolerated)

-- the slot after a tick
abbrev pub tick_slot : Task → (clock : ℕ) (runs mark : Bool) → Slot → Slot
tick_slot t clock runs mark slot = end_slot (run_slot runs slot) (way_of t clock runs mark slot) (terms_of t (class_of slot)).tolerated

-- the record of the end of task i's job, if it ended so
abbrev pub end_record : (i clock : ℕ) → Slot → Option Way → List End
end_record i clock slot None = []
end_record i clock slot (Some way) = record { task = i; class = class_of slot; way = way; age = age_of (clock + 1) slot } ∷ []

-- How the job of a slot ends in the tick after `clock`, if there is one and it does, by the budget of its class and its gap.
abbrev pub way_with : (budget gap clock : ℕ) (runs mark : Bool) → Slot → Option Way
way_with budget gap clock runs mark Empty = None
way_with budget gap clock runs mark (Pending c r u) = ending runs mark budget gap (clock + 1 - r) (used_after runs u)
way_with budget gap clock runs mark Halted = None

-- The same of a slot whose job has run in the tick, if it is the one that runs.
abbrev pub way_ran : (budget gap clock : ℕ) (runs mark : Bool) → Slot → Option Way
way_ran budget gap clock runs mark Empty = None
way_ran budget gap clock runs mark (Pending c r u) = ending runs mark budget gap (clock + 1 - r) u
way_ran budget gap clock runs mark Halted = None

-- the ticks used by the pending job, else 0
abbrev pub used_of : Slot → ℕ
used_of Empty = 0
used_of (Pending c r u) = u
used_of Halted = 0

-- the clock at the release of the pending job and the ticks that it used, together; else 0. It never passes the clock.
abbrev pub spent : Slot → ℕ
spent Empty = 0
spent (Pending c r u) = r + u
spent Halted = 0

-- the number that an event makes of the ticks used, if it changes them
abbrev pub counted_to : Event → Slot → ℕ
counted_to (Release class clock) slot = 0
counted_to Run slot = used_of slot + 1
counted_to Finish slot = 0
counted_to (Expiry tolerated) slot = 0
counted_to Resume slot = 0
