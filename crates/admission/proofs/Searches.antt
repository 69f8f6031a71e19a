-- What the chains over a task's classes and a group's tasks find.
use Rattle.std.proofs.Common.{◌≡◌, ℕ, zero, suc, ◌+◌, ◌<◌, ◌≤◌, min, Bool, true, false, cond, ◌&&◌, ◌||◌, nat_lt, List, [], ◌∷◌, ◌++◌, Some, None, Option, MatchOption, sym, refl, ap, ◌∙◌, subst, inl, inr, arith}
use Rattle.std.specs.Bool.{then_some}
use Rattle.std.specs.Option.{option_or, option_map}
use Rattle.std.specs.List.{range_with_len, find, fold, reduce, filter_map, cons_option}
use Rattle.std.proofs.lemmas.Bool.{cases_lt, ltb-false, le-ltb, and_from, or_left, or_right, or_from, and_left, and_right}
use Rattle.std.proofs.lemmas.List.Folds.{find-append}
use Rattle.find.specs.First.{first, Searched}
use Rattle.find.proofs.Firsts.{first_says, first_is}
use Rattle.group.specs.declared.meaning.Terms.{Terms}
use Rattle.group.specs.Task.{Task, at}
use Rattle.admission.specs.Start.{uses, share}

-- one number more
range_more : (a n : ℕ) → range_with_len a (suc n) ≡ range_with_len a n ++ ((a + n) ∷ [])
range_more a zero = let e : a ≡ a + 0 = omega arith in ap (λ x. x ∷ []) e
range_more a (suc n) =
    let e : (a + 1) + n ≡ a + suc n = omega arith in
    ap (λ l. a ∷ l) (range_more (a + 1) n) ∙ ap (λ x. a ∷ (range_with_len (a + 1) n ++ (x ∷ []))) e

-- the first class that passes, classes counted from 1
pub find_listed : (p : ℕ → Bool) (n : ℕ) → find p (range_with_len 1 n) ≡ option_map suc (first (λ j. p (suc j)) n)
unfolding first
find_listed p zero = refl
find_listed p (suc n) =
    let e : 1 + n ≡ suc n = omega arith in
    ap (find p) (range_more 1 n) ∙ find-append p (range_with_len 1 n) ((1 + n) ∷ []) ∙ ap (λ o. option_or o (find p ((1 + n) ∷ []))) (find_listed p n)
    ∙ ap (λ x. option_or (option_map suc (first (λ j. p (suc j)) n)) (find p (x ∷ []))) e ∙ step (first (λ j. p (suc j)) n) (p (suc n))
  where
    step : (o : Option ℕ) (b : Bool) → option_or (option_map suc o) (cond b (Some (suc n)) None) ≡ option_map suc (option_or o (cond b (Some n) None))
    step None true = refl
    step None false = refl
    step (Some i) b = refl

-- the lower of two that were found
abbrev pub lower_of : Option ℕ → Option ℕ → Option ℕ
lower_of None o = o
lower_of (Some x) None = Some x
lower_of (Some x) (Some y) = Some (min x y)

fold_min : (x y : ℕ) (ys : List ℕ) → fold min (min x y) ys ≡ min x (fold min y ys)
fold_min x y [] = refl
fold_min x y (z ∷ zs) = let e : min (min x y) z ≡ min x (min y z) = omega arith in ap (λ m. fold min m zs) e ∙ fold_min x (min y z) zs

reduce_min : (o : Option ℕ) (xs : List ℕ) → reduce min (cons_option o xs) ≡ lower_of o (reduce min xs)
reduce_min None xs = refl
reduce_min (Some x) [] = refl
reduce_min (Some x) (y ∷ ys) = ap Some (fold_min x y ys)

-- the first that passes one of two tests
first_either : (p q : ℕ → Bool) (n : ℕ) → first (λ i. p i || q i) n ≡ lower_of (first p n) (first q n)
first_either p q n = first_is (λ i. p i || q i) n (lower_of (first p n) (first q n)) (both (first p n) (first q n) (first_says p n) (first_says q n))
  where
    both : (a b : Option ℕ) → Searched p n a → Searched q n b → Searched (λ i. p i || q i) n (lower_of a b)
    both None None s t = λ j l. or_from (p j) (q j) (s j l) (t j l)
    both None (Some j) s t = (t.0, or_right (p j) (q j) t.1, λ i l. or_from (p i) (q i) (s i (omega (arith, t.0))) (t.2 i l))
    both (Some i) None s t = (s.0, or_left (p i) (q i) s.1, λ j l. or_from (p j) (q j) (s.2 j l) (t j (omega (arith, s.0))))
    both (Some i) (Some j) s t = elim (cases_lt j i) [
      | inl l ↦ (let e : j ≡ min i j = omega arith in
          subst (λ k. Searched (λ i. p i || q i) n (Some k)) e (t.0, or_right (p j) (q j) t.1, λ k m. or_from (p k) (q k) (s.2 k (omega arith)) (t.2 k m)))
      | inr l ↦ (let e : i ≡ min i j = omega arith in
          subst (λ k. Searched (λ i. p i || q i) n (Some k)) e (s.0, or_left (p i) (q i) s.1, λ k m. or_from (p k) (q k) (s.2 k m) (t.2 k (omega arith))))
    ]

-- the lowest task that uses the rank of some class
pub sharer_found : (ts : List Task) (n : ℕ) (ds : List Terms)
    → reduce min (filter_map (λ d. first (λ i. uses (at ts i).classes d.rank) n) ds) ≡ first (λ i. share (at ts i).classes ds) n
sharer_found ts n [] = sym (first_is (λ i. share (at ts i).classes []) n None (λ j l. refl))
sharer_found ts n (d ∷ ds) =
    reduce_min (first (λ i. uses (at ts i).classes d.rank) n) (filter_map (λ d. first (λ i. uses (at ts i).classes d.rank) n) ds)
    ∙ ap (lower_of (first (λ i. uses (at ts i).classes d.rank) n)) (sharer_found ts n ds)
    ∙ sym (first_either (λ i. uses (at ts i).classes d.rank) (λ i. share (at ts i).classes ds) n)

-- the first that passes, if it is below t
pub first_below : (p : ℕ → Bool) (n t : ℕ) (o r : Option ℕ) → o ≡ first p n → MatchOption o (r ≡ None) (λ x. r ≡ then_some (nat_lt x t) x)
    → r ≡ first (λ i. nat_lt i t && p i) n
first_below p n t o r e h = sym (first_is (λ i. nat_lt i t && p i) n r (below o (subst (Searched p n) (sym e) (first_says p n)) h))
  where
    below : (o : Option ℕ) → Searched p n o → MatchOption o (r ≡ None) (λ x. r ≡ then_some (nat_lt x t) x) → Searched (λ i. nat_lt i t && p i) n r
    below None s h = subst (Searched (λ i. nat_lt i t && p i) n) (sym h) (λ j l. and_right (nat_lt j t) (p j) (s j l))
    below (Some x) s h = subst (Searched (λ i. nat_lt i t && p i) n) (sym h) (at_test (nat_lt x t) refl)
      where
        unpassed : (j : ℕ) → t ≤ x → j < n → (nat_lt j t && p j) ≡ false
        unpassed j k m = elim (cases_lt j t) [
          | inl l ↦ and_right (nat_lt j t) (p j) (s.2 j (omega arith))
          | inr l ↦ and_left (nat_lt j t) (p j) (le-ltb j t l)
        ]

        at_test : (b : Bool) → nat_lt x t ≡ b → Searched (λ i. nat_lt i t && p i) n (then_some b x)
        at_test true q = (s.0, and_from (nat_lt x t) (p x) q s.1, λ j l. and_right (nat_lt j t) (p j) (s.2 j l))
        at_test false q = λ j l. unpassed j (ltb-false x t q) l
