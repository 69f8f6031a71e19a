-- The first n of a list that is written to.
use Rattle.std.specs.Prelude.{◌≡◌, ℕ, zero, suc, List, [], ◌∷◌, take, slice_set, refl}
use Rattle.std.proofs.Common.{ap}

pub take-set : {A : Type 0} (n : ℕ) (xs : List A) (i : ℕ) (a : A) → take n (slice_set xs i a) ≡ slice_set (take n xs) i a
take-set zero xs i a = refl
take-set (suc n) [] i a = refl
take-set (suc n) (x ∷ xs) zero a = refl
take-set (suc n) (x ∷ xs) (suc i) a = ap (λ ys. x ∷ ys) (take-set n xs i a)
