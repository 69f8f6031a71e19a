-- The first fault of a row, by its rules. Assumes nothing.
use Rattle.std.specs.Prelude.{ℕ, ◌+◌, ◌-◌, ◌*◌, Bool, ◌||◌, List, length, Option, ◌==◌, nat_lt, slice_index, slice_index_or}
use Rattle.std.specs.Option.{option_or, option_map}
use Rattle.denial.specs.declared.Denial.{Denial}
use Rattle.denial.specs.declared.Rule.TheVariants.{Spare, Times, Ranks}
use Rattle.denial.specs.Numbers.{denied}
pub use Rattle.denial.specs.Checks.{when}
pub use Rattle.find.specs.First.{first}
use Rattle.plate.specs.declared.frame.Frame.{Frame}

-- what stands at i, and a frame of zeros past the end
abbrev pub frame_at : List Frame → ℕ → Frame
frame_at frames i = slice_index_or frames i (record { budget = 0; rank = 0 })

-- a spare field that is not zero, at a bit place
abbrev pub spare_fault : (row place spare : ℕ) → Option Denial
spare_fault row place spare = when (nat_lt 0 spare) (denied Spare row place)

-- a gap that is 0 or above 4,095
abbrev pub bad_gap : ℕ → Bool
bad_gap gap = gap == 0 || nat_lt 4095 gap

-- a budget that is 0 or above the gap
abbrev pub bad_budget : (gap budget : ℕ) → Bool
bad_budget gap budget = budget == 0 || nat_lt gap budget

-- a row of no class, or of more than eight
abbrev pub bad_classes : ℕ → Bool
bad_classes n = n == 0 || nat_lt 8 n

-- a rank that is 0, or no byte
abbrev pub no_rank : ℕ → Bool
no_rank rank = rank == 0 || nat_lt 255 rank

-- a rank that is none, or lower than the rank before it
abbrev pub bad_rank : List ℕ → ℕ → Bool
bad_rank ranks i = no_rank (slice_index ranks i) || nat_lt (slice_index ranks i) (slice_index ranks (i - 1))

-- A miss-counted row that stands from bit p on: its gap at p, its budget at p + 12, and class i's rank at p + 32 + 8 · i, i from 0.
abbrev pub counted_fault : (row p gap budget : ℕ) → List ℕ → Option Denial
counted_fault row p gap budget ranks =
    option_or (when (bad_classes (length ranks)) (denied Ranks row (p + 32)))
    (option_or (when (bad_gap gap) (denied Times row p))
    (option_or (when (bad_budget gap budget) (denied Times row (p + 12)))
    (option_map (λ i. denied Ranks row (p + 32 + 8 * i)) (first (bad_rank ranks) (length ranks)))))

-- A frame row that stands from bit p on: its gap at p, frame i's budget at p + 16 + 24 · i, and its rank 12 bits on.
abbrev pub framed_fault : (row p gap : ℕ) → List Frame → Option Denial
framed_fault row p gap frames =
    option_or (when (bad_classes (length frames)) (denied Ranks row (p + 28)))
    (option_or (when (bad_gap gap) (denied Times row p))
    (option_or (option_map (λ i. denied Times row (p + 16 + 24 * i)) (first (λ i. bad_budget gap (frame_at frames i).budget) (length frames)))
    (option_map (λ i. denied Ranks row (p + 28 + 24 * i)) (first (λ i. no_rank (frame_at frames i).rank) (length frames)))))
