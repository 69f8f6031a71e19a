-- Writing rows. Assumes nothing.
use Rattle.std.specs.Prelude.{◌≡◌, ℕ, ◌+◌, ◌-◌, ◌*◌, ◌/◌, ◌%◌, min, List, [], ◌∷◌, ◌++◌, length, take, drop, None, Ok, Err, Option, Result, nat_lt}
use Rattle.denial.specs.declared.Denial.{Denial}
use Rattle.denial.specs.declared.Rule.TheVariants.{Room}
use Rattle.denial.specs.Numbers.{denied}
use Rattle.denial.specs.Checks.{when}
use Rattle.plate.specs.Rows.{Counted, Framed, counted_denial, counted_at, framed_denial, framed_at}

-- bytes with others put in at a place, all else kept
abbrev pub put_at : List ℕ → ℕ → List ℕ → List ℕ
put_at bs i new = take i bs ++ (new ++ drop (i + length new) bs)

-- a buffer that ends before a row does: the detail is the bytes needed, or 65,535 where they are more
abbrev pub room_fault : (len at size : ℕ) → Option Denial
room_fault len at size = when (nat_lt len (at + size)) (denied Room (min (at + size) 65535) 0)

-- the fixed bytes of the two kinds of row
abbrev pub counted_front : (gap budget classes : ℕ) → List ℕ
counted_front gap budget classes =
    (gap / 16) ∷ ((gap % 16 * 16 + budget / 256) ∷ ((budget % 256) ∷ (((classes - 1) * 32) ∷ [])))

abbrev pub framed_front : (gap count : ℕ) → List ℕ
framed_front gap count = (gap / 16) ∷ ((gap % 16 * 16 + (count - 1) * 2) ∷ [])

-- what a writer leaves behind: a row put in at its place, or all as it was
abbrev pub left : {A E : Type 0} → Result A E → (before : List ℕ) → (at : ℕ) → (row : List ℕ) → List ℕ
left (Ok end) before at row = put_at before at row
left (Err d) before at row = before

-- a row that stands from byte k on, whatever number it is read under
abbrev pub ReadsCounted : List ℕ → ℕ → Counted → Type 0
ReadsCounted bs k c = (row : ℕ) → (counted_denial bs (8 * k) row ≡ None) × (counted_at bs (8 * k) ≡ c)

abbrev pub ReadsFramed : List ℕ → ℕ → Framed → Type 0
ReadsFramed bs k f = (row : ℕ) → (framed_denial bs (8 * k) row ≡ None) × (framed_at bs (8 * k) ≡ f)

-- the same under a condition, as a writer promises it
abbrev pub Then : {A E : Type 0} → Result A E → Type 0 → Type 0
Then (Ok end) P = P
Then (Err d) P = Unit {0}
