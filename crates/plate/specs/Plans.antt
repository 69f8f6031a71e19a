-- A whole plate: the rows that it decodes to, or its first fault; and the bytes that rows encode to. Assumes nothing.
use Rattle.std.specs.Prelude.{◌≡◌, ℕ, zero, suc, ◌+◌, ◌-◌, ◌*◌, ◌/◌, ◌%◌, ◌<◌, ◌≤◌, not, ◌&&◌, ◌||◌, List, [], ◌∷◌, ◌++◌, length, Ok, Err, Option, Result, ◌==◌, ◌≢◌, nat_lt, slice_index}
use Rattle.std.specs.Option.{option_or}
use Rattle.std.specs.List.{flat_map, AllByRecursion}
use Rattle.denial.specs.declared.Denial.{Denial}
use Rattle.denial.specs.declared.Rule.TheVariants.{Edition, RowCounts, Extra}
use Rattle.denial.specs.Numbers.{denied}
use Rattle.plate.specs.declared.frame.Frame.{Frame}
use Rattle.plate.specs.Bits.{field}
use Rattle.denial.specs.Checks.{when}
pub use Rattle.denial.specs.Checks.{unless, past}
use Rattle.plate.specs.Rows.{Counted, Framed, short_fault, counted_denial, counted_at, counted_bits, framed_denial, framed_at, framed_bits}

-- the rows of a plate, in their order
pub record Plan : Type 0 where
  pub counted : List Counted
  pub framed : List Framed

-- one row more in front
abbrev pub with_counted : Counted → Result Plan Denial → Result Plan Denial
with_counted c (Ok plan) = Ok (record { counted = c ∷ plan.counted; framed = plan.framed })
with_counted c (Err d) = Err d

abbrev pub with_framed : Framed → Result Plan Denial → Result Plan Denial
with_framed f (Ok plan) = Ok (record { counted = plan.counted; framed = f ∷ plan.framed })
with_framed f (Err d) = Err d

-- the numbers of rows: each at most 16, and not both 0
abbrev pub counts_fault : (m n : ℕ) → Option Denial
counts_fault m n =
    option_or (when (nat_lt 16 m || (m == 0 && n == 0)) (denied RowCounts 255 4)) (when (nat_lt 16 n) (denied RowCounts 255 10))

-- the header: two bytes, the edition, the numbers of rows
unfoldable pub header_denial : List ℕ → Option Denial
header_denial bs =
    option_or (short_fault bs 255 2)
    (option_or (when (not (field bs 0 4 == 1)) (denied Edition 255 0)) (counts_fault (field bs 4 6) (field bs 10 6)))

-- bytes from bit p on, after the last row
abbrev pub extra_fault : List ℕ → ℕ → Option Denial
extra_fault bs p = when (nat_lt p (8 * length bs)) (denied Extra 255 p)

-- n frame rows from bit p on, the first of them having number `row`, and nothing after them
unfoldable pub framed_from : List ℕ → (n p row : ℕ) → Result Plan Denial
framed_from bs zero p row = unless (extra_fault bs p) (record { counted = []; framed = [] })
framed_from bs (suc n) p row =
    past (framed_denial bs p row) (with_framed (framed_at bs p) (framed_from bs n (p + framed_bits bs p) (row + 1)))

-- m miss-counted rows from bit p on, and then n frame rows
unfoldable pub counted_from : List ℕ → (m n p row : ℕ) → Result Plan Denial
counted_from bs zero n p row = framed_from bs n p row
counted_from bs (suc m) n p row =
    past (counted_denial bs p row) (with_counted (counted_at bs p) (counted_from bs m n (p + counted_bits bs p) (row + 1)))

-- a whole plate
unfoldable pub decode : List ℕ → Result Plan Denial
decode bs = past (header_denial bs) (counted_from bs (field bs 4 6) (field bs 10 6) 16 0)

-- The bytes of the header, of a frame, of each kind of row, and of a whole plan.
abbrev pub header_bytes : (m n : ℕ) → List ℕ
header_bytes m n = (16 + m / 4) ∷ ((m % 4 * 64 + n) ∷ [])

abbrev pub bytes_of_frame : Frame → List ℕ
bytes_of_frame f = (f.budget / 16) ∷ ((f.budget % 16 * 16 + f.rank / 16) ∷ ((f.rank % 16 * 16) ∷ []))

abbrev pub counted_bytes : Counted → List ℕ
counted_bytes c =
    (c.gap / 16) ∷ ((c.gap % 16 * 16 + c.budget / 256) ∷ ((c.budget % 256) ∷ (((length c.ranks - 1) * 32) ∷ c.ranks)))

abbrev pub framed_bytes : Framed → List ℕ
framed_bytes f = (f.gap / 16) ∷ ((f.gap % 16 * 16 + (length f.frames - 1) * 2) ∷ flat_map bytes_of_frame f.frames)

abbrev pub encode : Plan → List ℕ
encode plan =
    header_bytes (length plan.counted) (length plan.framed)
    ++ (flat_map counted_bytes plan.counted ++ flat_map framed_bytes plan.framed)

-- a number within limits
abbrev pub Within : (low high n : ℕ) → Type 0
Within low high n = (low ≤ n) × (n ≤ high)

-- a miss-counted row that keeps the rules of its kind
pub record SoundCounted (c : Counted) : Type 0 where
  pub gap : Within 1 4095 c.gap
  pub budget : Within 1 c.gap c.budget
  pub classes : Within 1 8 (length c.ranks)
  pub ranks : AllByRecursion (Within 1 255) c.ranks
  pub rise : (i : ℕ) → i + 1 < length c.ranks → slice_index c.ranks i ≤ slice_index c.ranks (i + 1)

-- a frame row that keeps the rules of its kind
pub record SoundFramed (f : Framed) : Type 0 where
  pub gap : Within 1 4095 f.gap
  pub classes : Within 1 8 (length f.frames)
  pub frames : AllByRecursion (λ x. Within 1 f.gap x.budget × Within 1 255 x.rank) f.frames

-- a plan that a plate can hold: at most 16 rows of each kind, not none at all, and each row keeps its rules
pub record Sound (plan : Plan) : Type 0 where
  pub some : 1 ≤ length plan.counted + length plan.framed
  pub few_counted : length plan.counted ≤ 16
  pub few_framed : length plan.framed ≤ 16
  pub counted : AllByRecursion SoundCounted plan.counted
  pub framed : AllByRecursion SoundFramed plan.framed

-- What is owed of reading and writing. A list of bytes has every number below 256.
abbrev pub Bytes : List ℕ → Type 0
Bytes bs = (i : ℕ) → slice_index bs i < 256

-- an accepted plate is the encoding of sound rows, those that it decodes to
abbrev pub ReadIsWritten : Type 0
ReadIsWritten = (bs : List ℕ) → Bytes bs → (plan : Plan) → decode bs ≡ Ok plan → Sound plan × (encode plan ≡ bs)

-- sound rows, encoded, decode to the same rows
abbrev pub WrittenIsRead : Type 0
WrittenIsRead = (plan : Plan) → Sound plan → decode (encode plan) ≡ Ok plan

-- a plate has at most 610 bytes
abbrev pub FewBytes : Type 0
FewBytes = (plan : Plan) → Sound plan → length (encode plan) ≤ 610

-- what an accepted plate is: the encoding of one sound plan, with so many rows of each kind
pub record Accepted (bs : List ℕ) (m n : ℕ) : Type 0 where
  pub plan : Plan
  pub decoded : decode bs ≡ Ok plan
  pub sound : Sound plan
  pub encoded : encode plan ≡ bs
  pub counts : (length plan.counted ≡ m) × (length plan.framed ≡ n)
  pub few : length bs ≤ 610

-- what a refused plate is: the encoding of no sound plan, at fault first by d
pub record Refused (bs : List ℕ) (d : Denial) : Type 0 where
  pub first : decode bs ≡ Err d
  pub never : (plan : Plan) → Sound plan → encode plan ≢ bs
