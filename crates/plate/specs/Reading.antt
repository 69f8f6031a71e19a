-- Reading row by row. Assumes nothing.
use Rattle.std.specs.Prelude.{◌≡◌, ℕ, ◌+◌, ◌-◌, ◌*◌, ◌%◌, ◌≤◌, cond, List, Some, None, Ok, Err, Option, Result, ◌==◌, nat_lt}
use Rattle.std.specs.Option.{option_or, option_map}
use Rattle.denial.specs.declared.Denial.{Denial}
use Rattle.plate.specs.declared.row.Row.{Row}
use Rattle.plate.specs.declared.row.Row.TheVariants.{MissCounted, Frames}
use Rattle.plate.specs.Bits.{field}
use Rattle.plate.specs.Rows.{frames_of, rank_bytes, counted_denial, counted_bits, frame_bytes, framed_denial, framed_bits}
use Rattle.plate.specs.Plans.{Plan, SoundCounted, SoundFramed, header_denial, extra_fault, counted_from}

-- a row as it is handed out: its numbers, its rank or frame bytes, and their bit place
pub data Handed : Type 0 where
  counted : (gap budget : ℕ) → (ranks : List ℕ) → (place : ℕ) → Handed
  framed : (gap : ℕ) → (frames : List ℕ) → (place : ℕ) → Handed

abbrev pub handed : Row → Handed
handed (MissCounted gap budget ranks place) = counted gap budget ranks.now place
handed (Frames gap frames place) = framed gap frames.now place

abbrev pub told : Result Row Denial → Result Handed Denial
told (Ok row) = Ok (handed row)
told (Err d) = Err d

abbrev pub told_next : Result (Option Row) Denial → Result (Option Handed) Denial
told_next (Ok row) = Ok (option_map handed row)
told_next (Err d) = Err d

abbrev pub counted_here : List ℕ → ℕ → Handed
counted_here bs p = counted (field bs p 12) (field bs (p + 12) 12) (rank_bytes bs p) (p + 32)

abbrev pub framed_here : List ℕ → ℕ → Handed
framed_here bs p = framed (field bs p 12) (frame_bytes bs p) (p + 16)

-- how far a reader has come: its bit place, 0 before the header was read; the number of the next row; the rows of each kind to come
pub record State : Type 0 where
  pub place : ℕ
  pub row : ℕ
  pub counted : ℕ
  pub framed : ℕ

-- what every reader keeps: rows begin at a byte, take at most 96 or 208 bits each, and are at most 16 of each kind
pub record Kept (s : State) : Type 0 where
  pub aligned : s.place % 8 ≡ 0
  pub within : s.place + (96 * s.counted + 208 * s.framed) ≤ 4880
  pub few : s.row + (s.counted + s.framed) ≤ 32
  pub counts : (s.counted ≤ 16) × (s.framed ≤ 16)

-- right after the header
abbrev pub first_state : List ℕ → State
first_state bs = record { place = 16; row = 0; counted = field bs 4 6; framed = field bs 10 6 }

-- past the header
abbrev pub opened : List ℕ → State → State
opened bs s = cond (s.place == 0) (first_state bs) s

abbrev pub open_denial : List ℕ → State → Option Denial
open_denial bs s = cond (s.place == 0) (header_denial bs) None

-- Past the header: the next row's first fault, or bytes after the last row; the next row; and the state after it.
abbrev pub row_denial : List ℕ → State → Option Denial
row_denial bs s =
    cond (nat_lt 0 s.counted) (counted_denial bs s.place s.row)
    (cond (nat_lt 0 s.framed) (framed_denial bs s.place s.row) (extra_fault bs s.place))

abbrev pub next_row : List ℕ → State → Option Handed
next_row bs s =
    cond (nat_lt 0 s.counted) (Some (counted_here bs s.place))
    (cond (nat_lt 0 s.framed) (Some (framed_here bs s.place)) None)

abbrev pub after_row : List ℕ → State → State
after_row bs s =
    cond (nat_lt 0 s.counted)
    (record { place = s.place + counted_bits bs s.place; row = s.row + 1; counted = s.counted - 1; framed = s.framed })
    (cond (nat_lt 0 s.framed)
    (record { place = s.place + framed_bits bs s.place; row = s.row + 1; counted = s.counted; framed = s.framed - 1 })
    s)

-- From any state: the first fault of what is read next.
abbrev pub next_denial : List ℕ → State → Option Denial
next_denial bs s = option_or (open_denial bs s) (row_denial bs (opened bs s))

-- the rows to come, past the header
abbrev pub rest_of : List ℕ → State → Result Plan Denial
rest_of bs s = counted_from bs s.counted s.framed s.place s.row

-- what is at fault, if anything
abbrev pub fault_of : {A : Type 0} → Result A Denial → Option Denial
fault_of (Ok x) = None
fault_of (Err d) = Some d

-- a row that is handed out keeps the rules of its kind
abbrev pub SoundRow : Handed → Type 0
SoundRow (counted gap budget ranks place) = SoundCounted (record { gap = gap; budget = budget; ranks = ranks })
SoundRow (framed gap bytes place) = SoundFramed (record { gap = gap; frames = frames_of bytes })

abbrev pub SoundNext : Result (Option Handed) Denial → Type 0
SoundNext (Ok None) = Unit {0}
SoundNext (Ok (Some row)) = SoundRow row
SoundNext (Err d) = Unit {0}
