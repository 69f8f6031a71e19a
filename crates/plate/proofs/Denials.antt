-- How the parts of a row, as they are read, make up its first fault.
use Rattle.std.proofs.Common.{◌≡◌, ℕ, ◌+◌, ◌-◌, ◌*◌, ◌/◌, ◌%◌, ◌<◌, ◌≤◌, not, eqb, List, length, get_or, take, drop, Some, None, Option, sym, arith}
use Rattle.std.specs.Option.{option_or}
use Rattle.std.proofs.lemmas.List.{take_rest, length-drop}
use Rattle.std.proofs.lemmas.Bool.{le-ltb}
use Rattle.denial.specs.declared.Denial.{Denial}
use Rattle.denial.specs.declared.Rule.TheVariants.{Edition}
use Rattle.denial.specs.Numbers.{denied}
use Rattle.plate.specs.Bits.{field}
use Rattle.denial.specs.Checks.{when}
use Rattle.plate.specs.Plans.{counts_fault, header_denial}
use Rattle.plate.proofs.Fields.{header_edition, header_counted, header_framed}
use Rattle.plate.specs.Rows.{short_fault, ranks_count, counted_content, counted_denial, frames_count, framed_content, framed_denial}

-- A miss-counted row at bit p whose fixed fields are there: bs' is the plate after they were read, and place the bit after them.
pub counted_short : (bs bs' : List ℕ) (p row classes place : ℕ) (d : Denial)
    → bs' ≡ bs → classes ≡ ranks_count bs p → place ≡ p + 32
    → None ≡ short_fault bs row (p / 8 + 4) → Some d ≡ short_fault bs' row (place / 8 + classes)
    → counted_denial bs p row ≡ Some d
unfolding counted_denial
counted_short bs bs' p row classes place d eb ec ep enough lacks =
    let e : Some d ≡ short_fault bs row ((p + 32) / 8 + ranks_count bs p) = rw (eb, ep, ec) at lacks in
    rw (← enough, ← e)

-- A miss-counted row at bit p whose fixed fields and rank bytes are there: bs' is the plate after they were read, and place the bit
-- after its fixed fields.
pub counted_whole : (bs bs' : List ℕ) (p row gap budget classes spare place : ℕ) (ranks : List ℕ) (o : Option Denial)
    → bs' ≡ bs → gap ≡ field bs p 12 → budget ≡ field bs (p + 12) 12 → classes ≡ ranks_count bs p
    → spare ≡ field bs (p + 27) 5 → place ≡ p + 32 → ranks ≡ take classes (drop (place / 8) bs')
    → None ≡ short_fault bs row (p / 8 + 4) → None ≡ short_fault bs' row (place / 8 + classes)
    → o ≡ counted_content row p gap budget spare ranks
    → counted_denial bs p row ≡ o
unfolding counted_denial
counted_whole bs bs' p row gap budget classes spare place ranks o eb eg eu ec es ep er enough more found =
    let e : None ≡ short_fault bs row ((p + 32) / 8 + ranks_count bs p) = rw (eb, ep, ec) at more in
    rw (← enough, ← e) (rw (er, eg, eu, es, eb, ep, ec) at (sym found))

-- The same of a frame row whose fixed fields are there.
pub framed_short : (bs bs' : List ℕ) (p row count place : ℕ) (d : Denial)
    → bs' ≡ bs → count ≡ frames_count bs p → place ≡ p + 16
    → None ≡ short_fault bs row (p / 8 + 2) → Some d ≡ short_fault bs' row (place / 8 + 3 * count)
    → framed_denial bs p row ≡ Some d
unfolding framed_denial
framed_short bs bs' p row count place d eb ec ep enough lacks =
    let e : Some d ≡ short_fault bs row ((p + 16) / 8 + 3 * frames_count bs p) = rw (eb, ep, ec) at lacks in
    rw (← enough, ← e)

-- And of a frame row whose frame bytes are there too.
pub framed_whole : (bs bs' : List ℕ) (p row gap count spare place : ℕ) (bytes : List ℕ) (o : Option Denial)
    → bs' ≡ bs → gap ≡ field bs p 12 → count ≡ frames_count bs p
    → spare ≡ field bs (p + 15) 1 → place ≡ p + 16 → bytes ≡ take (3 * count) (drop (place / 8) bs')
    → None ≡ short_fault bs row (p / 8 + 2) → None ≡ short_fault bs' row (place / 8 + 3 * count)
    → o ≡ framed_content row p gap spare bytes
    → framed_denial bs p row ≡ o
unfolding framed_denial
framed_whole bs bs' p row gap count spare place bytes o eb eg ec es ep er enough more found =
    let e : None ≡ short_fault bs row ((p + 16) / 8 + 3 * frames_count bs p) = rw (eb, ep, ec) at more in
    rw (← enough, ← e) (rw (er, eg, es, eb, ep, ec) at (sym found))

-- The header, by its two bytes.
pub header_counts : (bs : List ℕ) → get_or bs 0 0 < 256 → get_or bs 1 0 < 256
    → (field bs 0 4 ≡ get_or bs 0 0 / 16) × (field bs 4 6 ≡ get_or bs 0 0 % 16 * 4 + get_or bs 1 0 / 64) × (field bs 10 6 ≡ get_or bs 1 0 % 64)
header_counts bs h l =
    (omega (arith, header_edition bs), omega (arith, header_counted bs), header_framed bs)

pub header_whole : (bs : List ℕ) → 2 ≤ length bs → get_or bs 0 0 < 256 → get_or bs 1 0 < 256
    → header_denial bs
    ≡ option_or (when (not (eqb (get_or bs 0 0 / 16) 1)) (denied Edition 255 0))
    (counts_fault (get_or bs 0 0 % 16 * 4 + get_or bs 1 0 / 64) (get_or bs 1 0 % 64))
unfolding header_denial
header_whole bs long h l =
    let e = header_counts bs h l in
    rw (le-ltb (length bs) 2 long, e.0, e.1, e.2)

-- the header ends where the rest begins
pub header_ends : (bs : List ℕ) → 2 ≤ length bs → 8 * (length bs - length (take (length bs - 2) (drop 2 bs))) ≡ 16
header_ends bs h = rw (take_rest bs 2) (omega (arith, length-drop 2 bs))

pub ruleset header_laws = (header_whole, header_counts)
