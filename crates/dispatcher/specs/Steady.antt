-- What always holds of a table of seats. Assumes nothing.
use Rattle.std.specs.Prelude.{◌≡◌, ℕ, ◌≤◌, List, length, slice_index_or}
use Rattle.dispatcher.specs.declared.slot.Seat.{Seat}
use Rattle.dispatcher.specs.Slots.{spent}
use Rattle.dispatcher.specs.State.{new_seat}

-- no job was released after the clock, or ran for more ticks than have passed since
abbrev pub Steady : List Seat → (clock : ℕ) → Type 0
Steady seats clock = (i : ℕ) → spent (slice_index_or seats i new_seat).slot ≤ clock

-- there are 64 seats
abbrev pub Sized : List Seat → Type 0
Sized seats = length seats ≡ 64
