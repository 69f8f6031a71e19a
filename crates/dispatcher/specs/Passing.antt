-- A tick, task by task. Assumes nothing.
use Rattle.std.specs.Prelude.{◌≡◌, ℕ, ◌<◌, ◌≤◌, Bool, List, [], ◌∷◌, length, Some, None, Option, slice_index_or}
use Rattle.group.specs.Task.{Task, at, place}
use Rattle.dispatcher.specs.declared.slot.Seat.{Seat}
use Rattle.dispatcher.specs.Slots.{way_of}
use Rattle.dispatcher.specs.State.{new_seat, is_running, tick_seat, settled_place}

-- what there is, as a list
abbrev pub listed : {A : Type 0} → Option A → List A
listed None = []
listed (Some x) = x ∷ []

-- The seats and positions once a tick has passed for the tasks below n: theirs are as the tick leaves them, the others as before.
pub record Passed (ts : List Task) (clock : ℕ) (mark : Bool) (ran : Option ℕ) (n : ℕ) (seats seats' : List Seat) (places places' : List ℕ) : Type 0 where
  pub seats_long : length seats' ≡ length seats
  pub seat : (i : ℕ) → i < n → slice_index_or seats' i new_seat ≡ tick_seat (at ts i) clock (is_running ran i) mark (slice_index_or seats i new_seat)
  pub seat_left : (i : ℕ) → n ≤ i → slice_index_or seats' i new_seat ≡ slice_index_or seats i new_seat
  pub places_long : length places' ≡ length places
  pub moved : (i : ℕ) → i < n → place places' i ≡ settled_place (at ts i) (way_of (at ts i) clock (is_running ran i) mark (slice_index_or seats i new_seat).slot) (place places i)
  pub left : (i : ℕ) → n ≤ i → place places' i ≡ place places i
