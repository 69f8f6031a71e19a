-- What the chain over the starts of a cycle gives.
use Rattle.std.proofs.Common.{◌≡◌, ℕ, zero, suc, ◌+◌, max, map, unwrap_or, sym, refl, ap, ◌∙◌, arith}
use Rattle.std.specs.List.{range_with_len, fold, reduce}
use Rattle.group.specs.Ranges.{max_found}
use Rattle.kinds.specs.Cycle.{largest}

-- the largest of f 1 to f k, as the chain finds it
pub largest_found : (k : ℕ) (f : ℕ → ℕ) → unwrap_or (reduce max (map f (range_with_len 1 k))) 0 ≡ largest k f
largest_found k f = max_found (map f (range_with_len 1 k)) ∙ folded k
  where
    -- the largest of some numbers, with one more after them
    more : (a m n : ℕ) → fold max a (map f (range_with_len m (suc n))) ≡ max (fold max a (map f (range_with_len m n))) (f (m + n))
    more a m zero = let e : m + 0 ≡ m = omega arith in ap (λ x. max a (f x)) (sym e)
    more a m (suc n) =
        let e : m + 1 + n ≡ m + suc n = omega arith in
        more (max a (f m)) (m + 1) n ∙ ap (λ x. max (fold max (max a (f m)) (map f (range_with_len (m + 1) n))) (f x)) e

    folded : (n : ℕ) → fold max 0 (map f (range_with_len 1 n)) ≡ largest n f
    folded zero = refl
    folded (suc n) =
        let e : 1 + n ≡ suc n = omega arith in
        more 0 1 n ∙ ap (λ x. max (fold max 0 (map f (range_with_len 1 n))) (f x)) e ∙ ap (λ x. max x (f (suc n))) (folded n)
