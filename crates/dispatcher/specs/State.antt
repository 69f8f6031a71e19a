-- The dispatcher's state, one entry for each task, and what a release, a tick and a resume make of it. Assumes nothing.
use Rattle.std.specs.Prelude.{ℕ, ◌+◌, Bool, true, false, cond, List, [], ◌∷◌, map, length, Some, None, Option, ◌==◌, nat_lt, slice_index_or, slice_set}
use Rattle.std.specs.List.{range_with_len}
use Rattle.group.specs.Task.{Task, at, after}
use Rattle.bounds.specs.Bound.{sum}
use Rattle.dispatcher.specs.declared.slot.Slot.{Slot}
use Rattle.dispatcher.specs.declared.slot.Slot.TheVariants.{Empty}
use Rattle.dispatcher.specs.declared.slot.Seat.{Seat}
use Rattle.dispatcher.specs.declared.event.Event.{Event}
use Rattle.dispatcher.specs.declared.event.Event.TheVariants.{Release, Run, Finish, Expiry, Resume}
use Rattle.dispatcher.specs.declared.end.Way.{Way}
use Rattle.choose.specs.Foremost.{foremost}
use Rattle.dispatcher.specs.Slots.{meets, is_pending, rank_of, outcome_of, way_of, tick_slot}

-- where one task stands: its present position, and its seat with the slot and the clock of its last accepted release
pub record Standing : Type 0 where
  pub position : ℕ
  pub seat : Seat

-- the whole: the clock, whether a start was accepted, and where each task stands
pub record State : Type 0 where
  pub clock : ℕ
  pub started : Bool
  pub standings : List Standing

-- a seat that nothing has happened to
abbrev pub new_seat : Seat
new_seat = record { slot = Empty; last = None }

-- a task at this position, with this seat
abbrev pub stands : ℕ → Seat → Standing
stands x seat = record { position = x; seat = seat }

-- tasks at these positions, with these seats, and with new ones where there are no more
abbrev pub seated : List ℕ → List Seat → List Standing
seated [] seats = []
seated (x ∷ xs) [] = stands x new_seat ∷ seated xs []
seated (x ∷ xs) (seat ∷ seats) = stands x seat ∷ seated xs seats

-- a dispatcher's state, from what it holds: the clock, whether it is started, its group's positions, and its seats
abbrev pub state_of : (clock : ℕ) (started : Bool) → List ℕ → List Seat → State
state_of clock started places seats = record { clock = clock; started = started; standings = seated places seats }

-- a new dispatcher over a group at these positions
abbrev pub new : List ℕ → State
new places = state_of 0 false places []

-- where task i stands; past the last task there is an empty slot
abbrev pub standing : State → ℕ → Standing
standing s i = slice_index_or s.standings i (stands 0 new_seat)

-- its slot
abbrev pub slot_of : State → ℕ → Slot
slot_of s i = (standing s i).seat.slot

-- how many jobs are pending
abbrev pub pending_count : List Task → State → ℕ
pending_count ts s = sum (length ts) (λ i. cond (is_pending (slot_of s i)) 1 0)

-- The rule of who runs: the pending job of the highest rank ---------------------------------------------------------------

-- is there a pending job of task i?
abbrev pub waits : State → ℕ → Bool
waits s i = is_pending (slot_of s i)

-- does task i's job rank above that of task j?
abbrev pub outranks : List Task → State → (i j : ℕ) → Bool
outranks ts s i j = nat_lt (rank_of (at ts j) (slot_of s j)) (rank_of (at ts i) (slot_of s i))

-- the task that runs, absent when no job is pending
abbrev pub runner : List Task → State → Option ℕ
runner ts s = foremost (waits s) (outranks ts s) (length ts)

-- is task i the one that runs?
abbrev pub is_running : Option ℕ → ℕ → Bool
is_running None i = false
is_running (Some r) i = i == r

-- One task's steps --------------------------------------------------------------------------------------------------------

-- a release: a job of the present class, with nothing used
abbrev pub release_seat : (class clock : ℕ) → Seat → Seat
release_seat class clock seat = record { slot = meets seat.slot (Release class clock); last = Some clock }

-- a resume: the slot is empty again, and the gap still counts from the last release
abbrev pub resume_seat : Seat → Seat
resume_seat seat = record { slot = meets seat.slot Resume; last = seat.last }

-- the clock of the last release, once the task met an event
abbrev pub last_after : Event → Option ℕ → Option ℕ
last_after (Release class clock) last = Some clock
last_after Run last = last
last_after Finish last = last
last_after (Expiry tolerated) last = last
last_after Resume last = last

-- the seat, once its task met an event
abbrev pub meets_seat : Event → Seat → Seat
meets_seat event seat = record { slot = meets seat.slot event; last = last_after event seat.last }

-- a tick
abbrev pub tick_seat : Task → (clock : ℕ) (runs mark : Bool) → Seat → Seat
tick_seat t clock runs mark seat = record { slot = tick_slot t clock runs mark seat.slot; last = seat.last }

-- the position once a job has ended so, if one has
abbrev pub settled_place : Task → Option Way → ℕ → ℕ
settled_place t None x = x
settled_place t (Some way) x = after t (outcome_of way) x

-- where a task stands after a release
abbrev pub release_one : Task → (clock : ℕ) → Standing → Standing
release_one t clock x = stands x.position (release_seat (t.class_at x.position) clock x.seat)

-- after a resume
abbrev pub resume_one : Standing → Standing
resume_one x = stands x.position (resume_seat x.seat)

-- and after a tick
abbrev pub tick_one : Task → (clock : ℕ) (runs mark : Bool) → Standing → Standing
tick_one t clock runs mark x =
    stands (settled_place t (way_of t clock runs mark x.seat.slot) x.position) (tick_seat t clock runs mark x.seat)

-- The whole's steps, once they are accepted -------------------------------------------------------------------------------

-- an accepted start
abbrev pub started_state : State → State
started_state s = record { clock = s.clock; started = true; standings = s.standings }

-- an accepted release of task k
abbrev pub released : List Task → (k : ℕ) → State → State
released ts k s =
    record { clock = s.clock; started = s.started; standings = slice_set s.standings k (release_one (at ts k) s.clock (standing s k)) }

-- an accepted resume of task k
abbrev pub resumed : (k : ℕ) → State → State
resumed k s = record { clock = s.clock; started = s.started; standings = slice_set s.standings k (resume_one (standing s k)) }

-- an accepted tick with this mark, in which `ran` runs
abbrev pub ticked : List Task → (mark : Bool) (ran : Option ℕ) → State → State
ticked ts mark ran s = record {
  clock = s.clock + 1;
  started = s.started;
  standings = map (λ i. tick_one (at ts i) s.clock (is_running ran i) mark (standing s i)) (range_with_len 0 (length ts));
}
