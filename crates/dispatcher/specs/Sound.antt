-- What holds of every task in every state that accepted calls reach. Assumes nothing.
use Rattle.std.specs.Prelude.{◌≡◌, ℕ, ◌+◌, ◌<◌, ◌≤◌, Some, None, Option}
use Rattle.group.specs.Task.{Task, Position, terms_of}
use Rattle.dispatcher.specs.declared.slot.Slot.{Slot}
use Rattle.dispatcher.specs.declared.slot.Slot.TheVariants.{Empty, Pending, Halted}
use Rattle.dispatcher.specs.State.{Standing}

-- the clock from which on a release is accepted: the last release plus the gap
abbrev pub ready_of : (gap : ℕ) → Option ℕ → ℕ
ready_of gap None = 0
ready_of gap (Some last) = last + gap

-- the same of a task that stands so
abbrev pub ready_at : Task → Standing → ℕ
ready_at t l = ready_of t.gap l.seat.last

-- a pending job has the class of the present position, has used less than its budget, is younger than its gap, and is the last one released
pub record Job (t : Task) (clock ready x c r u : ℕ) : Type 0 where
  pub class : c ≡ t.class_at x
  pub under : u < (terms_of t c).budget
  pub past : r ≤ clock
  pub alive : clock < r + t.gap
  pub gate : ready ≡ r + t.gap

-- what holds of a slot
abbrev pub SlotSound : Task → (clock ready x : ℕ) → Slot → Type 0
SlotSound t clock ready x Empty = Unit {0}
SlotSound t clock ready x (Pending c r u) = Job t clock ready x c r u
SlotSound t clock ready x Halted = Unit {0}

-- what holds of a task: it is at a position of its own, its last release is not after the clock, and its slot is sound
pub record Sound (t : Task) (clock : ℕ) (l : Standing) : Type 0 where
  pub placed : Position t l.position
  pub soon : ready_at t l ≤ clock + t.gap
  pub job : SlotSound t clock (ready_at t l) l.position l.seat.slot
