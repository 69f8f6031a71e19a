-- What chains over `1..=n` give: the numbers, and the largest of some numbers.
use Rattle.std.proofs.Common.{◌≡◌, ℕ, zero, suc, ◌+◌, ◌-◌, max, Bool, true, false, ◌⊎◌, List, [], ◌∷◌, length, Some, None, unwrap_or, sym, refl, ap, ◌∙◌, subst, inl, inr, arith}
use Rattle.std.specs.declared.ops.RangeInclusive.{RangeInclusive}
use Rattle.std.specs.Range.{range_inclusive_start, range_inclusive_end, range_inclusive_exhausted, range_inclusive_len}
use Rattle.std.specs.List.{range_with_len, fold, reduce}
use Rattle.std.proofs.iter.runs.Sources.{nat_range_inclusive_steps}
use Rattle.std.proofs.lemmas.Iterator.{YieldsList}
use Rattle.std.proofs.lemmas.Iterator.Consumers.{YieldsList-from_shown}
use Rattle.std.proofs.lemmas.List.FromFn.{length-range_with_len}

-- what `1..=n` gives
pub YieldsList-from_inclusive : {s : RangeInclusive ℕ} (n : ℕ) → range_inclusive_start s ≡ 1 → range_inclusive_end s ≡ n → range_inclusive_exhausted s ≡ false
    → YieldsList nat_range_inclusive_steps (λ x. x) s (range_with_len 1 n)
YieldsList-from_inclusive {s} n a b e =
    subst (YieldsList nat_range_inclusive_steps (λ x. x) s) whole (YieldsList-from_shown nat_range_inclusive_steps (λ x. x) shown none some s)
  where
    left : RangeInclusive ℕ → ℕ
    left s = range_inclusive_len (λ x y. y - x) (range_inclusive_start s) (range_inclusive_end s) (range_inclusive_exhausted s)

    shown : RangeInclusive ℕ → List ℕ
    shown s = range_with_len (range_inclusive_start s) (left s)

    whole : shown s ≡ range_with_len 1 n
    whole =
        let l : left s ≡ n = omega (arith, ap (range_inclusive_len (λ x y. y - x) (range_inclusive_start s) (range_inclusive_end s)) e, a, b) in
        ap (λ k. range_with_len k (left s)) a ∙ ap (range_with_len 1) l

    none : (s t : RangeInclusive ℕ) → nat_range_inclusive_steps s None t → length (shown s) ≡ 0
    none s t h = omega (arith, length-range_with_len (range_inclusive_start s) (left s), h.1.0)

    step : (x a c m k : ℕ) → x ≡ a → k + 1 ≡ m → (k ≡ 0) ⊎ (c ≡ a + 1) → range_with_len a m ≡ x ∷ range_with_len c k
    step x a c zero k p q r = absurd (omega arith)
    step x a c (suc zero) zero p q r = ap (λ y. y ∷ []) (sym p)
    step x a c (suc (suc m)) zero p q r = absurd (omega arith)
    step x a c (suc m) (suc k) p q (inl r) = absurd (omega arith)
    step x a c (suc m) (suc k) p q (inr r) = let e : m ≡ suc k = omega arith in cc

    some : (s : RangeInclusive ℕ) (x : ℕ) (t : RangeInclusive ℕ) → nat_range_inclusive_steps s (Some x) t → shown s ≡ x ∷ shown t
    some s x t h = step x (range_inclusive_start s) (range_inclusive_start t) (left s) (left t) h.1.0 h.1.1 (at_spent (range_inclusive_exhausted t) refl)
      where
        at_spent : (b : Bool) → range_inclusive_exhausted t ≡ b → (left t ≡ 0) ⊎ (range_inclusive_start t ≡ range_inclusive_start s + 1)
        at_spent true e = inl (ap (range_inclusive_len (λ x y. y - x) (range_inclusive_start t) (range_inclusive_end t)) e)
        at_spent false e = inr (h.1.2 e)

-- the largest, as `max` finds it with 0 where there is none
pub max_found : (xs : List ℕ) → unwrap_or (reduce max xs) 0 ≡ fold max 0 xs
max_found [] = refl
max_found (x ∷ xs) = let e : max 0 x ≡ x = omega arith in ap (λ y. fold max y xs) (sym e)
