-- How many of the first numbers pass a test, counted by a list of those that do.
use Rattle.std.proofs.Common.{◌≡◌, ℕ, zero, suc, ◌+◌, ◌<◌, Bool, true, false, cond, ◌∷◌, List, length, sym, ap, arith}
use Rattle.std.specs.List.{filter, range_with_len}
use Rattle.bounds.specs.Bound.{sum}
use Rattle.bounds.proofs.Grows.{sum_more, sum_grows}

module _ (p : ℕ → Bool) where
  longer : (a : ℕ) (xs : List ℕ) → length (filter p (a ∷ xs)) ≡ cond (p a) 1 0 + length (filter p xs)
  longer a xs = on (p a)
    where
      on : (b : Bool) → length (cond b (a ∷ filter p xs) (filter p xs)) ≡ cond b 1 0 + length (filter p xs)
      on true = omega arith
      on false = omega arith

  counted_from : (a n : ℕ) → length (filter p (range_with_len a n)) + sum a (λ i. cond (p i) 1 0) ≡ sum (a + n) (λ i. cond (p i) 1 0)
  counted_from a zero = let e : a + 0 ≡ a = omega arith in rw e (omega arith)
  counted_from a (suc n) =
      let l = longer a (range_with_len (a + 1) n) in
      let m = sum_more a (λ i. cond (p i) 1 0) in
      let h = counted_from (a + 1) n in
      let e : a + suc n ≡ a + 1 + n = omega arith in
      rw e (omega arith)

  pub counted : (n : ℕ) → length (filter p (range_with_len 0 n)) ≡ sum n (λ i. cond (p i) 1 0)
  counted n =
      let h = counted_from 0 n in
      let e : sum (0 + n) (λ i. cond (p i) 1 0) ≡ sum n (λ i. cond (p i) 1 0) = ap (λ m. sum m (λ i. cond (p i) 1 0)) (omega arith) in
      omega arith

-- numbers that are the same add up to the same
pub sum_same : (n : ℕ) (f h : ℕ → ℕ) → ((i : ℕ) → i < n → f i ≡ h i) → sum n f ≡ sum n h
sum_same n f h e =
    let a = sum_grows n f h (λ i l. omega (arith, e i l)) in
    let b = sum_grows n h f (λ i l. omega (arith, e i l)) in
    omega arith
