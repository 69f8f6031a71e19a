-- The verdict: a line, short, and `accepted` only if there is no fault.
use Rattle.std.proofs.Common.{◌≡◌, ℕ, ◌+◌, ◌/◌, ◌%◌, ◌^◌, ◌<◌, ◌≤◌, List, [], ◌∷◌, ◌++◌, length, Some, None, codes, decimal, Option, refl, ◌∙◌, inl, inr, arith, lit<}
use Rattle.std.proofs.lemmas.Fmt.{decimal_digit, decimal_step}
use Rattle.std.proofs.lemmas.List.{append_assoc, length-append, same_from_push}
use Rattle.std.proofs.lemmas.Bool.{cases_lt}
use Rattle.denial.specs.declared.Denial.{Denial}
use Rattle.denial.specs.Numbers.{number_of, report}
use Rattle.printed.specs.Lines.{verdict_line}
use Rattle.printed.specs.Told.{newlines, EndsIn}
use Rattle.printed.proofs.Faults.{WhenSome, SmallDenial}
use Rattle.printed.proofs.Newlines.{newlines-++, in_decimal, ALine}
use Rattle.printed.proofs.Numbers.{digits_le}

-- a report has no newline
in_report : (d : Denial) → SmallDenial d → newlines (report d) ≡ 0
in_report d s =
    let a = in_decimal (number_of d.rule) (omega (arith, s.number)) in
    let b = in_decimal d.first (omega (arith, s.first)) in
    let c = in_decimal d.second (omega (arith, s.second)) in
    simp newlines-++ (omega arith)

pub verdict_ends : (o : Option Denial) → WhenSome o SmallDenial → ALine (verdict_line o)
verdict_ends None h = record { once = refl; ended = (codes "accepted", refl) }
verdict_ends (Some d) h =
    record { once = newlines-++ (report d) (codes "\n") ∙ omega (arith, in_report d h); ended = (report d, refl) }

-- at most 17 bytes
pub verdict_short : (o : Option Denial) → WhenSome o SmallDenial → length (verdict_line o) ≤ 17
verdict_short None h = omega arith
verdict_short (Some d) h =
    let a = digits_le 2 (number_of d.rule) (lit< tt) (omega (arith, h.number)) (omega (arith, h.number)) in
    let b = digits_le 2 d.first (lit< tt) (omega (arith, h.first)) (omega (arith, h.first)) in
    let c = digits_le 2 d.second (lit< tt) (omega (arith, h.second)) (omega (arith, h.second)) in
    simp length-append (omega arith)

-- a number ends in its last digit
last_digit : (n : ℕ) → n < 2 ^ 64 → (front : List ℕ) × (decimal n ≡ front ++ ((48 + n % 10) ∷ []))
last_digit n h =
    elim (cases_lt n 10) [
      | inl l ↦ ([], (let e : n % 10 ≡ n = omega arith in rw e (decimal_digit n l)))
      | inr l ↦ (decimal (n / 10), decimal_step n l h)
    ]

report_digit : (d : Denial) → d.second < 2 ^ 64 → (front : List ℕ) × (report d ≡ front ++ ((48 + d.second % 10) ∷ []))
report_digit d h =
    let l = last_digit d.second h in
    (codes "refused " ++ (decimal (number_of d.rule) ++ (codes " " ++ (decimal d.first ++ (codes " " ++ l.0)))), rw l.1 (simp append_assoc))

-- the last two bytes apart
by_digit : (front r ds : List ℕ) (x : ℕ) → r ≡ ds ++ (x ∷ []) → ((front ++ ds) ++ (x ∷ [])) ++ (10 ∷ []) ≡ front ++ (r ++ codes "\n")
by_digit front r ds x e = rw e (simp append_assoc)

by_letter : (front : List ℕ) → front ++ (10 ∷ codes "accepted\n") ≡ ((front ++ (10 ∷ codes "accepte")) ++ (100 ∷ [])) ++ (10 ∷ [])
by_letter front = simp append_assoc

-- so no report is taken for `accepted`
pub not_accepted : (front : List ℕ) (d : Denial) → d.second < 2 ^ 64 → EndsIn (codes "accepted\n") (front ++ (report d ++ codes "\n")) → ⊥
not_accepted front d h e =
    let digit = report_digit d h in
    let same = by_digit front (report d) digit.0 (48 + d.second % 10) digit.1 ∙ e.1 ∙ by_letter e.0 in
    let one = same_from_push _ _ 10 10 same in
    let two = same_from_push _ _ (48 + d.second % 10) 100 one.0 in
    omega (arith, two.1)
