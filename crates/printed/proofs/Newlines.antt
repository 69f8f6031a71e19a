-- Newlines: each line has one, at its end.
use Rattle.std.proofs.Common.{◌≡◌, ℕ, zero, suc, ◌+◌, ◌%◌, ◌^◌, ◌<◌, ◌≤◌, cond, eqb, List, [], ◌∷◌, ◌++◌, codes, decimal, sym, refl, ap, ◌∙◌, inl, inr, add_assoc, zero-add, arith}
use Rattle.std.specs.List.{flat_map, AllByRecursion}
use Rattle.std.proofs.lemmas.Fmt.{decimal_by_steps}
use Rattle.std.proofs.lemmas.List.{append_assoc, append-nil}
use Rattle.std.proofs.lemmas.Bool.{ne_eqb, cases_order}
use Rattle.bounds.specs.Bound.{sum}
use Rattle.printed.specs.Text.{texts}
use Rattle.printed.specs.Lines.{column}
use Rattle.printed.specs.Told.{newlines}

pub newlines-++ : (xs ys : List ℕ) → newlines (xs ++ ys) ≡ newlines xs + newlines ys
newlines-++ [] ys = sym (zero-add (newlines ys))
newlines-++ (x ∷ xs) ys = ap (λ n. cond (eqb x 10) 1 0 + n) (newlines-++ xs ys) ∙ sym (add_assoc (cond (eqb x 10) 1 0) (newlines xs) (newlines ys))

-- a digit is no newline
digit : (n : ℕ) → newlines ((48 + n) ∷ []) ≡ 0
digit n = rw (ne_eqb (48 + n) 10 (λ e. omega arith))

pub in_decimal : (n : ℕ) → n < 2 ^ 64 → newlines (decimal n) ≡ 0
in_decimal =
    decimal_by_steps (λ n ds. newlines ds ≡ 0) (λ n _. digit n)
    (λ n ds _ e. newlines-++ ds ((48 + n % 10) ∷ []) ∙ omega (arith, e, digit (n % 10)))

pub in_column : (n : ℕ) → n < 2 ^ 64 → newlines (column n) ≡ 0
in_column n h = newlines-++ (decimal n) (codes " ") ∙ omega (arith, in_decimal n h)

pub in_columns : (ns : List ℕ) → AllByRecursion (λ n. n < 2 ^ 64) ns → newlines (flat_map column ns) ≡ 0
in_columns [] h = refl
in_columns (n ∷ ns) h = newlines-++ (column n) (flat_map column ns) ∙ omega (arith, in_column n h.0, in_columns ns h.1)

-- a text that ends in a newline
abbrev pub Ended : List ℕ → Type 0
Ended text = (front : List ℕ) × (text ≡ front ++ (10 ∷ []))

pub ended-++ : (xs ys : List ℕ) → Ended ys → Ended (xs ++ ys)
ended-++ xs ys e = (xs ++ e.0, ap (λ t. xs ++ t) e.1 ∙ sym (append_assoc xs e.0 (10 ∷ [])))

-- a line: one newline, at its end
pub record ALine (text : List ℕ) : Type 0 where
  pub once : newlines text ≡ 1
  pub ended : Ended text

-- what holds of each text holds of them together
pub newlines_texts : (f : ℕ → List ℕ) (g : ℕ → ℕ) (n : ℕ) → ((j : ℕ) → j < n → newlines (f j) ≡ g j) → newlines (texts f n) ≡ sum n g
newlines_texts f g zero h = refl
newlines_texts f g (suc n) h =
    newlines-++ (texts f n) (f n) ∙ omega (arith, newlines_texts f g n (λ j l. h j (omega arith)), h n (omega arith))

pub ended_texts : (xs : List ℕ) (f : ℕ → List ℕ) (n : ℕ) → Ended xs → ((j : ℕ) → j < n → Ended (f j)) → Ended (xs ++ texts f n)
ended_texts xs f zero e h = rw (append-nil xs) e
ended_texts xs f (suc n) e h = ended-++ xs (texts f n ++ f n) (ended-++ (texts f n) (f n) (h n (omega arith)))

pub ended_some : (f : ℕ → List ℕ) (n : ℕ) → 1 ≤ n → ((j : ℕ) → j < n → Ended (f j)) → Ended (texts f n)
ended_some f zero some h = absurd (omega arith)
ended_some f (suc n) some h = ended-++ (texts f n) (f n) (h n (omega arith))

pub sum_ones : (n : ℕ) → sum n (λ _. 1) ≡ n
sum_ones zero = refl
sum_ones (suc n) = omega (arith, sum_ones n)

-- one of several texts
pub one_of : (f : ℕ → List ℕ) (i n : ℕ) → i < n → (rest : List ℕ) × (texts f n ≡ texts f i ++ (f i ++ rest))
one_of f i zero l = absurd (omega arith)
one_of f i (suc n) l =
    elim (cases_order i n) [
      | inl e ↦ ([], rw (e, append-nil (f n)))
      | inr (inl h) ↦
          let some = one_of f i n h in
          (some.0 ++ f n, rw some.1 (append_assoc (texts f i) (f i ++ some.0) (f n) ∙ ap (λ t. texts f i ++ t) (append_assoc (f i) some.0 (f n))))
      | inr (inr h) ↦ absurd (omega arith)
    ]
