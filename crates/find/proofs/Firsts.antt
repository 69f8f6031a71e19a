-- A search answers what it says, and nothing else would be right.
use Rattle.std.proofs.Common.{◌≡◌, ℕ, zero, suc, ◌+◌, ◌<◌, Bool, true, false, cond, ◌⊎◌, Some, None, Option, sym, refl, ap, ◌∙◌, inl, inr, add-one, arith}
use Rattle.std.specs.Option.{option_or, option_map}
use Rattle.std.proofs.lemmas.Bool.{cases_order, both_ways}
use Rattle.find.specs.First.{first, first_pair, Searched, SearchedPair}

last_or_below : (j n : ℕ) → j < suc n → (j ≡ n) ⊎ (j < n)
last_or_below j n h = grind arith

-- what a search answers, is so
pub first_says : (f : ℕ → Bool) (n : ℕ) → Searched f n (first f n)
unfolding first
first_says f zero = λ j h. absurd (omega arith)
first_says f (suc n) = step (first f n) (first_says f n) (f n) refl
  where
    step : (o : Option ℕ) → Searched f n o → (b : Bool) → f n ≡ b → Searched f (suc n) (option_or o (cond b (Some n) None))
    step (Some i) s b e = (omega (arith, s.0), s.1, s.2)
    step None s true e = (omega arith, e, s)
    step None s false e = λ j h. elim (last_or_below j n h) [ inl q ↦ ap f q ∙ e | inr q ↦ s j q ]

-- and only one answer is
pub first_is : (f : ℕ → Bool) (n : ℕ) (o : Option ℕ) → Searched f n o → first f n ≡ o
first_is f n o s = same (first f n) o (first_says f n) s
  where
    apart : (i : ℕ) → f i ≡ true → f i ≡ false → ⊥
    apart i p q = both_ways (f i) q p

    same : (a b : Option ℕ) → Searched f n a → Searched f n b → a ≡ b
    same None None p q = refl
    same None (Some j) p q = absurd (apart j q.1 (p j q.0))
    same (Some i) None p q = absurd (apart i p.1 (q i p.0))
    same (Some i) (Some j) p q =
        elim (cases_order i j) [
          | inl e ↦ ap Some e
          | inr (inl l) ↦ absurd (apart i p.1 (q.2 i l))
          | inr (inr l) ↦ absurd (apart j q.1 (p.2 j l))
        ]

-- where there is no index, none passes
pub first_none : (f : ℕ → Bool) → first f 0 ≡ None
unfolding first
first_none f = refl

-- one more index that does not pass
pub first_more : (f : ℕ → Bool) (i : ℕ) → first f i ≡ None → f i ≡ false → first f (i + 1) ≡ None
unfolding first
first_more f i h e = rw (add-one i, h, e)

-- an index that passes, after none that does
pub first_found : (f : ℕ → Bool) (i n : ℕ) → first f i ≡ None → f i ≡ true → i < n → Some i ≡ first f n
first_found f i n h e l =
    let s : Searched f i None = rw h at (first_says f i) in
    sym (first_is f n (Some i) (l, e, s))

-- what a search for a pair answers, is so
pub pair_says : (f : ℕ → ℕ → Bool) (m : ℕ) (limit : ℕ → ℕ) → SearchedPair f m limit (first_pair f m limit)
unfolding first_pair
pair_says f zero limit = λ i j h k. absurd (omega arith)
pair_says f (suc m) limit = step (first_pair f m limit) (pair_says f m limit) (first (f m) (limit m)) (first_says (f m) (limit m))
  where
    step : (o : Option (ℕ × ℕ)) → SearchedPair f m limit o → (r : Option ℕ) → Searched (f m) (limit m) r
        → SearchedPair f (suc m) limit (option_or o (option_map (λ j. (m, j)) r))
    step (Some p) s r t = (omega (arith, s.0), s.1, s.2)
    step None s (Some j) t = (omega arith, s, t)
    step None s None t = λ i j h k. elim (last_or_below i m h) [ inl q ↦ last i j q k | inr q ↦ s i j q k ]
      where
        last : (i j : ℕ) → i ≡ m → j < limit i → f i j ≡ false
        last i j q k = ap (λ x. f x j) q ∙ t j (rw q at k)

-- and only one answer is
pub pair_is : (f : ℕ → ℕ → Bool) (m : ℕ) (limit : ℕ → ℕ) (o : Option (ℕ × ℕ)) → SearchedPair f m limit o → first_pair f m limit ≡ o
pair_is f m limit o s = same (first_pair f m limit) o (pair_says f m limit) s
  where
    apart : (i j : ℕ) → f i j ≡ true → f i j ≡ false → ⊥
    apart i j p q = both_ways (f i j) q p

    level : (i j k : ℕ) → Searched (f i) (limit i) (Some j) → Searched (f i) (limit i) (Some k) → j ≡ k
    level i j k p q = let e : Some j ≡ Some k = sym (first_is (f i) (limit i) (Some j) p) ∙ first_is (f i) (limit i) (Some k) q in cc

    same : (a b : Option (ℕ × ℕ)) → SearchedPair f m limit a → SearchedPair f m limit b → a ≡ b
    same None None p q = refl
    same None (Some (i, j)) p q = absurd (apart i j q.2.1 (p i j q.0 q.2.0))
    same (Some (i, j)) None p q = absurd (apart i j p.2.1 (q i j p.0 p.2.0))
    same (Some (i, j)) (Some (k, l)) p q =
        elim (cases_order i k) [
          | inl e ↦ both e
          | inr (inl h) ↦ absurd (apart i j p.2.1 (q.1 i j h p.2.0))
          | inr (inr h) ↦ absurd (apart k l q.2.1 (p.1 k l h q.2.0))
        ]
      where
        both : i ≡ k → ◌≡◌ {A = Option (ℕ × ℕ)} (Some (i, j)) (Some (k, l))
        both e =
            let p' : Searched (f k) (limit k) (Some j) = rw e at p.2 in
            let d : j ≡ l = level k j l p' q.2 in
            cc
