-- The rows of a plate: what each says, where its fields stand, and its first fault as it is read. Assumes nothing.
use Rattle.std.specs.Prelude.{ℕ, ◌+◌, ◌*◌, ◌/◌, ltb, List, [], ◌∷◌, ◌++◌, length, take, drop, replicate, Option, nat_lt}
use Rattle.std.specs.Option.{option_or, option_map}
use Rattle.denial.specs.declared.Denial.{Denial}
use Rattle.denial.specs.declared.Rule.TheVariants.{Short, Spare}
use Rattle.denial.specs.Numbers.{denied}
use Rattle.plate.specs.declared.frame.Frame.{Frame}
use Rattle.plate.specs.Bits.{field}
use Rattle.denial.specs.Checks.{when}
use Rattle.find.specs.First.{first}
use Rattle.plate.specs.Faults.{spare_fault, counted_fault, framed_fault}

-- a miss-counted row: one budget for all its classes, and the rank of each class
pub record Counted : Type 0 where
  pub gap : ℕ
  pub budget : ℕ
  pub ranks : List ℕ

-- a frame row: each class is a frame, with its own budget and rank
pub record Framed : Type 0 where
  pub gap : ℕ
  pub frames : List Frame

-- bytes that are wanted and are not there: the detail is the plate's length in bits
abbrev pub short_fault : List ℕ → (row need : ℕ) → Option Denial
short_fault bs row need = when (nat_lt (length bs) need) (denied Short row (8 * length bs))

-- Of a miss-counted row from bit p on: the number of its classes, its rank bytes, how many bits it takes, and what it says.
abbrev pub ranks_count : List ℕ → ℕ → ℕ
ranks_count bs p = field bs (p + 24) 3 + 1

abbrev pub rank_bytes : List ℕ → ℕ → List ℕ
rank_bytes bs p = take (ranks_count bs p) (drop ((p + 32) / 8) bs)

abbrev pub counted_bits : List ℕ → ℕ → ℕ
counted_bits bs p = 32 + 8 * ranks_count bs p

abbrev pub counted_at : List ℕ → ℕ → Counted
counted_at bs p = record { gap = field bs p 12; budget = field bs (p + 12) 12; ranks = rank_bytes bs p }

-- its first fault once it is complete: a spare field, and then the rules of its kind
abbrev pub counted_content : (row p gap budget spare : ℕ) → List ℕ → Option Denial
counted_content row p gap budget spare ranks =
    option_or (spare_fault row (p + 27) spare) (counted_fault row p gap budget ranks)

-- its first fault
unfoldable pub counted_denial : List ℕ → (p row : ℕ) → Option Denial
counted_denial bs p row =
    option_or (short_fault bs row (p / 8 + 4))
    (option_or (short_fault bs row ((p + 32) / 8 + ranks_count bs p))
    (counted_content row p (field bs p 12) (field bs (p + 12) 12) (field bs (p + 27) 5) (rank_bytes bs p)))

-- The frame that stands in front, and all the frames, three bytes each: budget 12 bits, rank 8, spare 4.
abbrev pub frame_of : List ℕ → Frame
frame_of bs = record { budget = field bs 0 12; rank = field bs 12 8 }

unfoldable pub frames_of : List ℕ → List Frame
frames_of [] = []
frames_of (a ∷ []) = []
frames_of (a ∷ (b ∷ [])) = []
frames_of (a ∷ (b ∷ (c ∷ bs))) = frame_of (a ∷ (b ∷ (c ∷ bs))) ∷ frames_of bs

-- the first eight of them, and zeros past the last
abbrev pub padded : List Frame → List Frame
padded frames = take 8 (frames ++ replicate 8 (record { budget = 0; rank = 0 }))

-- Of a frame row from bit p on: the number of its frames, its frame bytes, how many bits it takes, and what it says.
abbrev pub frames_count : List ℕ → ℕ → ℕ
frames_count bs p = field bs (p + 12) 3 + 1

abbrev pub frame_bytes : List ℕ → ℕ → List ℕ
frame_bytes bs p = take (3 * frames_count bs p) (drop ((p + 16) / 8) bs)

abbrev pub framed_bits : List ℕ → ℕ → ℕ
framed_bits bs p = 16 + 24 * frames_count bs p

abbrev pub framed_at : List ℕ → ℕ → Framed
framed_at bs p = record { gap = field bs p 12; frames = frames_of (frame_bytes bs p) }

-- the first frame, of so many, whose spare bits are not zero
abbrev pub spare_frame : List ℕ → ℕ → Option ℕ
spare_frame bytes n = first (λ i. ltb 0 (field bytes (24 * i + 20) 4)) n

-- its first fault once it is complete: a spare field, and then the rules of its kind
abbrev pub framed_content : (row p gap spare : ℕ) → List ℕ → Option Denial
framed_content row p gap spare bytes =
    option_or (spare_fault row (p + 15) spare)
    (option_or (option_map (λ i. denied Spare row (p + 36 + 24 * i)) (spare_frame bytes (length bytes / 3)))
    (framed_fault row p gap (frames_of bytes)))

-- its first fault
unfoldable pub framed_denial : List ℕ → (p row : ℕ) → Option Denial
framed_denial bs p row =
    option_or (short_fault bs row (p / 8 + 2))
    (option_or (short_fault bs row ((p + 16) / 8 + 3 * frames_count bs p))
    (framed_content row p (field bs p 12) (field bs (p + 15) 1) (frame_bytes bs p)))
