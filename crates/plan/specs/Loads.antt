-- What two tables hold as a plan, and what it means that a plate was loaded into them. Assumes nothing.
use Rattle.std.specs.Prelude.{◌≡◌, ℕ, ◌+◌, ◌<◌, ◌≤◌, List, [], ◌∷◌, ◌++◌, length, Ok}
use Rattle.plate.specs.Rows.{Counted, Framed, frames_of}
use Rattle.plate.specs.Plans.{Plan, Sound, decode, encode}
use Rattle.plate.specs.Reading.{Handed, State}
use Rattle.plate.specs.Reading.Handed.{counted, framed}
use Rattle.kinds.specs.Listed.{MissCountedTable, FrameTable, counted_rows, counted_places, framed_rows, framed_places}
use Rattle.plan.specs.Rows.{firsts}

-- the rows of two tables
abbrev pub plan_of : MissCountedTable → FrameTable → Plan
plan_of c f = record { counted = counted_rows c; framed = framed_rows f }

-- every row of two tables is at its first position
abbrev pub AtFirst : MissCountedTable → FrameTable → Type 0
AtFirst c f = (counted_places c ≡ firsts (counted_rows c)) × (framed_places f ≡ firsts (framed_rows f))

-- the tables hold what the plate says, each row at its first position; saved, they give the same plate
pub record Loaded (bs : List ℕ) (c : MissCountedTable) (f : FrameTable) : Type 0 where
  pub decoded : decode bs ≡ Ok (plan_of c f)
  pub sound : Sound (plan_of c f)
  pub encoded : encode (plan_of c f) ≡ bs
  pub first : AtFirst c f

-- there is room for a row that is handed out, in tables of so many rows
abbrev pub RoomFor : Handed → (m n : ℕ) → Type 0
RoomFor (counted gap budget ranks place) m n = m < 16
RoomFor (framed gap bytes place) m n = n < 16

-- a row that is handed out was added to the rows of its kind, and the others are as before
abbrev pub Added : Handed → (cs cs' : List Counted) → (fs fs' : List Framed) → Type 0
Added (counted gap budget ranks place) cs cs' fs fs' = (cs' ≡ cs ++ (record { gap = gap; budget = budget; ranks = ranks } ∷ [])) × (fs' ≡ fs)
Added (framed gap bytes place) cs cs' fs fs' = (cs' ≡ cs) × (fs' ≡ fs ++ (record { gap = gap; frames = frames_of bytes } ∷ []))

-- the tables have room for the rows to come
abbrev pub Room : State → MissCountedTable → FrameTable → Type 0
Room s c f = (length (counted_rows c) + s.counted ≤ 16) × (length (framed_rows f) + s.framed ≤ 16)
