-- Lines of small numbers: each is a line, and short.
use Rattle.std.proofs.Common.{◌≡◌, ℕ, ◌+◌, ◌^◌, ◌<◌, ◌≤◌, [], ◌∷◌, length, IfSome, Some, None, codes, decimal, Option, refl, ◌∙◌, arith, lit<}
use Rattle.std.specs.List.{flat_map}
use Rattle.std.proofs.lemmas.List.{length-append}
use Rattle.printed.specs.declared.line.Line.{Line}
use Rattle.printed.specs.Lines.{column, columns_of, last_column, line_text}
use Rattle.printed.proofs.Numbers.{digits_le}
use Rattle.printed.proofs.Newlines.{newlines-++, in_decimal, in_columns, ended-++, ALine}

-- a bound of at most four digits
abbrev pub SmallBound : Option ℕ → Type 0
SmallBound o = IfSome o (λ R. R ≤ 4095)

-- the line of a class of a plan's task
pub record Small (l : Line) : Type 0 where
  pub task : l.task < 32
  pub class : l.class ≤ 8
  pub rank : l.rank ≤ 255
  pub budget : l.budget ≤ 4095
  pub bound : SmallBound l.bound

last_line : (o : Option ℕ) → SmallBound o → ALine (last_column o)
last_line None h = record { once = refl; ended = (codes "-", refl) }
last_line (Some R) h = record { once = newlines-++ (decimal R) (codes "\n") ∙ omega (arith, in_decimal R (omega arith)); ended = (decimal R, refl) }

pub small_line : (l : Line) → Small l → ALine (line_text l)
unfolding line_text
small_line l s =
    let last = last_line l.bound s.bound in
    let front = in_columns (columns_of l) (omega (arith, s.task), (omega (arith, s.class), (omega (arith, s.rank), (omega (arith, s.budget), tt)))) in
    record {
      once = newlines-++ (flat_map column (columns_of l)) (last_column l.bound) ∙ omega (arith, front, last.once);
      ended = ended-++ (flat_map column (columns_of l)) (last_column l.bound) last.ended;
    }

last_short : (o : Option ℕ) → SmallBound o → length (last_column o) ≤ 5
last_short None h = omega arith
last_short (Some R) h = omega (arith, length-append (decimal R) (codes "\n"), digits_le 4 R (lit< tt) (omega arith) (omega arith))

column_le : (k n : ℕ) → 0 < k → n < 10 ^ k → n < 2 ^ 16 → length (column n) ≤ k + 1
column_le k n some h f = omega (arith, length-append (decimal n) (codes " "), digits_le k n some h f)

four : (a b c d : ℕ) → length (flat_map column (a ∷ (b ∷ (c ∷ (d ∷ []))))) ≡ length (column a) + length (column b) + length (column c) + length (column d)
four a b c d = simp length-append (omega arith)

-- a line of at most 17 bytes and the digits of the task's number
pub line_short : (l : Line) → Small l → length (line_text l) ≤ 17 + length (decimal l.task)
unfolding line_text
line_short l s =
    let task = length-append (decimal l.task) (codes " ") in
    let class = column_le 1 l.class (lit< tt) (omega (arith, s.class)) (omega (arith, s.class)) in
    let rank = column_le 3 l.rank (lit< tt) (omega (arith, s.rank)) (omega (arith, s.rank)) in
    let budget = column_le 4 l.budget (lit< tt) (omega (arith, s.budget)) (omega (arith, s.budget)) in
    let front = four l.task l.class l.rank l.budget in
    let last = last_short l.bound s.bound in
    omega (arith, length-append (flat_map column (columns_of l)) (last_column l.bound))
