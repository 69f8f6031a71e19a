-- Rows that were read, and one more.
use Rattle.std.proofs.Common.{◌≡◌, List, [], ◌∷◌, ◌++◌, Ok, Err, Result, sym, refl, ap, ◌∙◌, append_assoc}
use Rattle.std.proofs.lemmas.List.{append-nil}
use Rattle.denial.specs.declared.Denial.{Denial}
use Rattle.plate.specs.Rows.{Counted, Framed}
use Rattle.plate.specs.Plans.{Plan, with_counted, with_framed}
use Rattle.plan.specs.Rows.{after_rows, firsts}

pub after_counted : (cs : List Counted) (fs : List Framed) (c : Counted) (r : Result Plan Denial)
    → after_rows cs fs (with_counted c r) ≡ after_rows (cs ++ (c ∷ [])) fs r
after_counted cs fs c (Ok plan) =
    ap (λ t. Ok (record { counted = t; framed = fs ++ plan.framed })) (sym (append_assoc cs (c ∷ []) plan.counted))
after_counted cs fs c (Err d) = refl

pub after_framed : (cs : List Counted) (fs : List Framed) (f : Framed) (r : Result Plan Denial)
    → after_rows cs fs (with_framed f r) ≡ after_rows cs (fs ++ (f ∷ [])) r
after_framed cs fs f (Ok plan) =
    ap (λ t. Ok (record { counted = cs ++ plan.counted; framed = t })) (sym (append_assoc fs (f ∷ []) plan.framed))
after_framed cs fs f (Err d) = refl

-- nothing more to come
pub after_none : (cs : List Counted) (fs : List Framed)
    → after_rows cs fs (Ok (record { counted = []; framed = [] })) ≡ Ok (record { counted = cs; framed = fs })
after_none cs fs = rw (append-nil cs, append-nil fs)

-- nothing read yet
pub after_start : (r : Result Plan Denial) → after_rows [] [] r ≡ r
after_start (Ok plan) = refl
after_start (Err d) = refl

pub after_none_read : (cs : List Counted) (fs : List Framed) (r : Result Plan Denial) {r' : Result Plan Denial} → cs ≡ [] → fs ≡ [] → r ≡ r'
    → after_rows cs fs r ≡ r'
after_none_read cs fs r e f h = rw (e, f) (after_start r ∙ h)

-- one row more, at its first position
pub firsts_push : {X : Type 0} (xs : List X) (x : X) → firsts (xs ++ (x ∷ [])) ≡ firsts xs ++ (1 ∷ [])
firsts_push [] x = refl
firsts_push (y ∷ ys) x = ap (λ t. 1 ∷ t) (firsts_push ys x)
