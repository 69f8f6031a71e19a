-- The search for the foremost finds it, place by place.
use Rattle.std.proofs.Common.{◌≡◌, ℕ, zero, suc, ◌+◌, ◌<◌, ◌≤◌, Bool, true, false, cond, ◌⊎◌, List, [], ◌∷◌, length, get_or, is_some, IfSome, Some, None, Option, sym, refl, ap, ◌∙◌, inl, inr, add-one, add-zero, arith, MatchOption}
use Rattle.std.specs.Option.{option_map}
use Rattle.std.specs.Cmp.{IsTotalOrder, upto}
use Rattle.std.specs.Fn.{CalledAt}
use Rattle.std.specs.Iterator.{Drains, KeyTurn, PicksMinByKey}
use Rattle.std.specs.Iterator.Runs.{Run, EachRunFrom}
use Rattle.std.specs.List.{FoldsTo, filter_map, enumerate_from, fold, reduce}
use Rattle.std.specs.declared.cmp.Ordering.{Ordering}
use Rattle.std.specs.declared.cmp.Ordering.TheVariants.{Less, Equal, Greater}
use Rattle.std.specs.Ordering.{is_lt, is_gt, ordering_reverse, min_by_ordering}
use Rattle.std.proofs.lemmas.Bool.{both_ways}
use Rattle.choose.specs.Foremost.{foremost, chosen, key_ahead, goes_ahead, better, IsForemost, IsLowest, Orders}
use denote.Param.Members.{Mut}
use denote.Ref.{Bor}

-- is there a key at i?
abbrev pub present : {K : Type 0} → List (Option K) → ℕ → Bool
present keys i = is_some (get_or keys i None)

-- does the first key go ahead of the second?
abbrev pub lesser : {K : Type 0} → (K → K → Ordering) → K → K → Bool
lesser R x y = is_lt (R x y)

-- the entry at a place, as a pair with its place
abbrev pub paired : {K : Type 0} → ℕ × Option K → Option (ℕ × K)
paired p = option_map (λ k. (p.0, k)) p.1

-- the pair with the lesser key, of two level ones the first
abbrev pub least_pair : {K : Type 0} → (K → K → Ordering) → ℕ × K → ℕ × K → ℕ × K
least_pair R p q = min_by_ordering (R p.1 q.1) p q

-- What `min_by_key` does with pairs, by a function that reads a key of each: from the first pair on it keeps the lesser one. The keys
-- that are read may be of another type, so far as their order R is that of the pairs' own keys.
module _ {K L F : Type 0} (C : K → K → Ordering) (R : L → L → Ordering) (g : Mut F (Bor (ℕ × K) × Unit {0}) L) (f : F)
    (stays : (x : ℕ × K) (k : L) (q : F) → CalledAt g f x k q → q ≡ f)
    (agrees : (x y : ℕ × K) (k l : L) (q r : F) → CalledAt g f x k q → CalledAt g f y l r → R k l ≡ C x.1 y.1) where
  -- the key that was read of a pair
  abbrev Read : L → ℕ × K → Type 0
  Read k p = (q : F) × CalledAt g f p k q

  kept : (o : Ordering) (k l : L) (p x : ℕ × K) → Read k p → Read l x → Read (min_by_ordering o k l) (min_by_ordering o p x)
  kept Less k l p x a b = a
  kept Equal k l p x a b = a
  kept Greater k l p x a b = b

  turns : (k : L) (p : ℕ × K) (xs : List (ℕ × K)) (q : F × L) (y : ℕ × K) → Read k p
      → FoldsTo {P = (F × L) × (ℕ × K)} (KeyTurn min_by_ordering min_by_ordering g R) ((f, k), p) xs (q, y)
      → FoldsTo (λ b z c. c ≡ least_pair C b z) p xs y
  turns k p [] q y d h = ap (λ t. t.1) h
  turns k p (x ∷ xs) q y d (j, (l, o, c, e, a, b), h) =
      let z : o ≡ C p.1 x.1 = sym e ∙ agrees p x k l d.0 j.0.0 d.1 c in
      let n : j.1 ≡ least_pair C p x = b ∙ ap (λ o. min_by_ordering o p x) z in
      let m : j.0.1 ≡ min_by_ordering (C p.1 x.1) k l = a ∙ ap (λ o. min_by_ordering o k l) z in
      let r = stays x l j.0.0 c in
      let s : ◌≡◌ {A = (F × L) × (ℕ × K)} j ((f, min_by_ordering (C p.1 x.1) k l), least_pair C p x) = λ i. ((r i, m i), n i) in
      (least_pair C p x, refl, turns (min_by_ordering (C p.1 x.1) k l) (least_pair C p x) xs q y (kept (C p.1 x.1) k l p x d (j.0.0, c)) (rw (sym s) h))

  -- `before`, the clause `runs` of the call before, shows the steps
  pub picks : {S : Type 0} {steps : S → Option (ℕ × K) → S → Type 0} {P : Run steps → Type 0} (s : S) (r : Option (ℕ × K)) → EachRunFrom steps s P → PicksMinByKey steps g R s f r
      → MatchOption r (Drains steps s []) (λ y. (x : ℕ × K) × (xs : List (ℕ × K)) × Drains steps s (x ∷ xs) × FoldsTo (λ b z c. c ≡ least_pair C b z) x xs y)
  picks s None before h = h
  picks s (Some y) before (x, xs, k, f', q, d, c, t) =
      let e : ◌≡◌ {A = F × L} (f', k) (f, k) = λ i. (stays x k f' c i, k) in
      (x, xs, d, turns k x xs q y (f', c) (rw (sym e) t))

-- the least of what was found before, if anything was, and of more
abbrev from : {A : Type 0} → (A → A → A) → Option A → List A → Option A
from f None xs = reduce f xs
from f (Some b) xs = Some (fold f b xs)

-- the foremost of the first n places, with its key
abbrev pub Best : {K : Type 0} → (K → K → Bool) → List (Option K) → ℕ → Option (ℕ × K) → Type 0
Best {K} ahead keys n best =
    MatchOption best (foremost (present keys) (goes_ahead ahead keys) n ≡ None)
    (λ p. (foremost (present keys) (goes_ahead ahead keys) n ≡ Some p.0) × (get_or keys p.0 None ≡ Some p.1))

pub best_none : {K : Type 0} (ahead : K → K → Bool) (keys : List (Option K)) → Best ahead keys 0 None
unfolding foremost
best_none ahead keys = refl

module _ {K : Type 0} (R : K → K → Ordering) (o : IsTotalOrder R) (keys : List (Option K)) where
  -- a place without a key
  passed_over : (n : ℕ) (best : Option (ℕ × K)) → get_or keys n None ≡ None → Best (lesser R) keys n best → Best (lesser R) keys (n + 1) best
  unfolding foremost
  passed_over n best e h = rw (add-one n) (on best h)
    where
      f : foremost (present keys) (goes_ahead (lesser R) keys) (suc n) ≡ foremost (present keys) (goes_ahead (lesser R) keys) n
      f = rw e

      on : (best : Option (ℕ × K)) → Best (lesser R) keys n best → Best (lesser R) keys (suc n) best
      on None h = f ∙ h
      on (Some p) h = (f ∙ h.0, h.1)

  first_one : (n : ℕ) (k : K) → get_or keys n None ≡ Some k → Best (lesser R) keys n None → Best (lesser R) keys (n + 1) (Some (n, k))
  unfolding foremost
  first_one n k e h = rw (add-one n) (f, e)
    where
      f : foremost (present keys) (goes_ahead (lesser R) keys) (suc n) ≡ Some n
      f = rw (e, h)

  -- an earlier pair gives way only to a lesser key
  gives_way : (p : ℕ × K) (n : ℕ) (k : K) → least_pair R p (n, k) ≡ cond (lesser R k p.1) (n, k) p
  gives_way p n k = on (R p.1 k) refl
    where
      turned : (c : Ordering) → R p.1 k ≡ c → lesser R k p.1 ≡ is_gt c
      turned c e = sym (flip (R k p.1)) ∙ ap is_gt (sym (o.antisymm p.1 k) ∙ e)
        where
          flip : (r : Ordering) → is_gt (ordering_reverse r) ≡ is_lt r
          flip Less = refl
          flip Equal = refl
          flip Greater = refl

      on : (c : Ordering) → R p.1 k ≡ c → min_by_ordering c p (n, k) ≡ cond (lesser R k p.1) (n, k) p
      on Less e = rw (turned Less e) refl
      on Equal e = rw (turned Equal e) refl
      on Greater e = rw (turned Greater e) refl

  one_more : (n : ℕ) (p : ℕ × K) (k : K) → get_or keys n None ≡ Some k → Best (lesser R) keys n (Some p) → Best (lesser R) keys (n + 1) (Some (least_pair R p (n, k)))
  unfolding foremost
  one_more n p k e h = rw (gives_way p n k) (rw (add-one n) (on (lesser R k p.1) refl))
    where
      f : foremost (present keys) (goes_ahead (lesser R) keys) (suc n) ≡ Some (cond (goes_ahead (lesser R) keys n p.0) n p.0)
      f =
          ap (λ b. cond b (Some (chosen (goes_ahead (lesser R) keys) (foremost (present keys) (goes_ahead (lesser R) keys) n) n)) (foremost (present keys) (goes_ahead (lesser R) keys) n)) (ap is_some e)
          ∙ ap (λ w. Some (chosen (goes_ahead (lesser R) keys) w n)) h.0

      test : goes_ahead (lesser R) keys n p.0 ≡ lesser R k p.1
      test = rw (e, h.1)

      on : (b : Bool) → lesser R k p.1 ≡ b → Best (lesser R) keys (suc n) (Some (cond b (n, k) p))
      on true q = (f ∙ ap (λ x. Some (cond x n p.0)) (test ∙ q), e)
      on false q = (f ∙ ap (λ x. Some (cond x n p.0)) (test ∙ q), h.1)

  -- the entries from n on are these
  record Rest (n : ℕ) (rest : List (Option K)) : Type 0 where
    long : length keys ≡ n + length rest
    reads : (i : ℕ) → get_or keys (n + i) None ≡ get_or rest i None

  next : (n : ℕ) (k : Option K) (ks : List (Option K)) → Rest n (k ∷ ks) → (get_or keys n None ≡ k) × Rest (n + 1) ks
  next n k ks h = (
    ap (λ j. get_or keys j None) (sym (add-zero n)) ∙ h.reads 0,
    record {
      long = omega (arith, h.long);
      reads = λ i. ap (λ j. get_or keys j None) (let q : n + 1 + i ≡ n + suc i = omega arith in q) ∙ h.reads (suc i);
    },
  )

  rest_of : (rest : List (Option K)) (n : ℕ) (best : Option (ℕ × K)) → Rest n rest → Best (lesser R) keys n best
      → Best (lesser R) keys (length keys) (from (least_pair R) best (filter_map paired (enumerate_from n rest)))
  rest_of [] n None h b = let q : length keys ≡ n = omega (arith, h.long) in rw q b
  rest_of [] n (Some p) h b = let q : length keys ≡ n = omega (arith, h.long) in rw q b
  rest_of (None ∷ ks) n None h b = let m = next n None ks h in rest_of ks (n + 1) None m.1 (passed_over n None m.0 b)
  rest_of (None ∷ ks) n (Some p) h b = let m = next n None ks h in rest_of ks (n + 1) (Some p) m.1 (passed_over n (Some p) m.0 b)
  rest_of (Some x ∷ ks) n None h b = let m = next n (Some x) ks h in rest_of ks (n + 1) (Some (n, x)) m.1 (first_one n x m.0 b)
  rest_of (Some x ∷ ks) n (Some p) h b =
      let m = next n (Some x) ks h in rest_of ks (n + 1) (Some (least_pair R p (n, x))) m.1 (one_more n p x m.0 b)

  -- the least of the pairs stands at the foremost place
  pub least_is_foremost : (r : Option ℕ) → r ≡ option_map (λ p. p.0) (reduce (least_pair R) (filter_map paired (enumerate_from 0 keys)))
      → r ≡ foremost (present keys) (goes_ahead (lesser R) keys) (length keys)
  least_is_foremost r e =
      e ∙ on (reduce (least_pair R) (filter_map paired (enumerate_from 0 keys)))
      (rest_of keys 0 None (record { long = omega arith; reads = λ i. ap (λ j. get_or keys j None) (omega arith) }) (best_none (lesser R) keys))
    where
      on : (best : Option (ℕ × K)) → Best (lesser R) keys (length keys) best → option_map (λ p. p.0) best ≡ foremost (present keys) (goes_ahead (lesser R) keys) (length keys)
      on None h = sym h
      on (Some p) h = sym h.0

-- one place more
pub best_more : {K : Type 0} (ahead : K → K → Bool) (keys : List (Option K)) (n : ℕ) (best : Option (ℕ × K)) (key : Option K) → key ≡ get_or keys n None
    → Best ahead keys n best → Best ahead keys (n + 1) (better ahead best n key)
unfolding foremost
best_more {K} ahead keys n best None e h = rw (add-one n) (absent best h)
  where
    f : foremost (present keys) (goes_ahead ahead keys) (suc n) ≡ foremost (present keys) (goes_ahead ahead keys) n
    f = rw (sym e)

    absent : (best : Option (ℕ × K)) → Best ahead keys n best → Best ahead keys (suc n) best
    absent None h = f ∙ h
    absent (Some p) h = (f ∙ h.0, h.1)
best_more {K} ahead keys n None (Some k) e h = rw (add-one n) (f, sym e)
  where
    f : foremost (present keys) (goes_ahead ahead keys) (suc n) ≡ Some n
    f = rw (sym e, h)
best_more {K} ahead keys n (Some p) (Some k) e h = rw (add-one n) (on (ahead k p.1) refl)
  where
    f : foremost (present keys) (goes_ahead ahead keys) (suc n) ≡ Some (cond (goes_ahead ahead keys n p.0) n p.0)
    f =
        ap (λ b. cond b (Some (chosen (goes_ahead ahead keys) (foremost (present keys) (goes_ahead ahead keys) n) n)) (foremost (present keys) (goes_ahead ahead keys) n)) (ap is_some (sym e))
        ∙ ap (λ o. Some (chosen (goes_ahead ahead keys) o n)) h.0

    test : goes_ahead ahead keys n p.0 ≡ ahead k p.1
    test = rw (sym e, h.1)

    on : (b : Bool) → ahead k p.1 ≡ b → Best ahead keys (suc n) (cond b (Some (n, k)) (Some p))
    on true q = (f ∙ ap (λ x. Some (cond x n p.0)) (test ∙ q), sym e)
    on false q = (f ∙ ap (λ x. Some (cond x n p.0)) (test ∙ q), h.1)

-- The law of the foremost ----------------------------------------------------------------------------------------------------

not_true : (b : Bool) → (b ≡ true → ⊥) → b ≡ false
not_true true h = absurd (h refl)
not_true false h = refl

pub foremost_found : (there : ℕ → Bool) (ahead : ℕ → ℕ → Bool) → Orders there ahead → (n : ℕ)
    → IsForemost there ahead n (foremost there ahead n) × IsLowest there ahead (foremost there ahead n)
unfolding foremost
foremost_found there ahead o zero = (λ j l. absurd (omega arith), tt)
foremost_found there ahead o (suc n) = on (foremost there ahead n) (foremost_found there ahead o n) (there n) refl
  where
    order : (a b : ℕ) → a < suc b → (a ≡ b) ⊎ (a < b)
    order a b h = grind arith

    alone : ahead n n ≡ false
    alone = not_true (ahead n n) (λ e. both_ways (ahead n n) (o.one_way n n e) e)

    newcomer : (r : ℕ) → r < n → there r ≡ true → ((j : ℕ) → j < n → there j ≡ true → ahead j r ≡ false) → ((j : ℕ) → j < r → there j ≡ true → ahead r j ≡ true) →
        there n ≡ true → (b : Bool) → ahead n r ≡ b →
        IsForemost there ahead (suc n) (Some (cond b n r)) × IsLowest there ahead (Some (cond b n r))
    newcomer r l p top low q true e = (
      (omega arith, q, λ j m h. elim (order j n m) [ inl z ↦ rw z alone | inr z ↦ o.chain j r n p (top j z h) (o.one_way n r e) ]),
      λ j m h. passes j h (top j m h),
    )
      where
        passes : (j : ℕ) → there j ≡ true → ahead j r ≡ false → ahead n j ≡ true
        passes j h f = sure (ahead n j) refl
          where
            sure : (b : Bool) → ahead n j ≡ b → ahead n j ≡ true
            sure true g = g
            sure false g = absurd (both_ways (ahead n r) (o.chain n j r h g f) e)
    newcomer r l p top low q false e =
        ((omega arith, p, λ j m h. elim (order j n m) [ inl z ↦ rw z e | inr z ↦ top j z h ]), low)

    on : (w : Option ℕ) → IsForemost there ahead n w × IsLowest there ahead w → (b : Bool) → there n ≡ b →
        IsForemost there ahead (suc n) (cond b (Some (chosen ahead w n)) w) × IsLowest there ahead (cond b (Some (chosen ahead w n)) w)
    on None a true e = (
      (omega arith, e, λ j l h. elim (order j n l) [ inl z ↦ rw z alone | inr z ↦ absurd (both_ways (there j) (a.0 j z) h) ]),
      λ j l h. absurd (both_ways (there j) (a.0 j l) h),
    )
    on None a false e = (λ j l. elim (order j n l) [ inl z ↦ rw z e | inr z ↦ a.0 j z ], tt)
    on (Some r) a true e = newcomer r a.0.0 a.0.1 a.0.2 a.1 e (ahead n r) refl
    on (Some r) a false e =
        ((omega (arith, a.0.0), a.0.1, λ j l h. elim (order j n l) [ inl z ↦ absurd (both_ways (there j) (rw z e) h) | inr z ↦ a.0.2 j z h ]), a.1)

-- keys whose order is total order a list of them, absent ones left out
pub keys_order : {K : Type 0} (ahead : K → K → Bool) → ((x y : K) → ahead x y ≡ true → ahead y x ≡ false)
    → ((x y z : K) → ahead x y ≡ false → ahead y z ≡ false → ahead x z ≡ false) → (keys : List (Option K)) → Orders (present keys) (goes_ahead ahead keys)
keys_order {K} ahead one chain keys = record {
  one_way = λ x y. forth (get_or keys x None) (get_or keys y None);
  chain = λ x y z. on (get_or keys x None) (get_or keys y None) (get_or keys z None);
}
  where
    forth : (a b : Option K) → key_ahead ahead a b ≡ true → key_ahead ahead b a ≡ false
    forth None b e = absurd (both_ways false refl e)
    forth (Some x) None e = refl
    forth (Some x) (Some y) e = one x y e

    on : (a b c : Option K) → is_some b ≡ true → key_ahead ahead a b ≡ false → key_ahead ahead b c ≡ false → key_ahead ahead a c ≡ false
    on None b c p q r = refl
    on (Some x) b None p q r = refl
    on (Some x) None (Some z) p q r = absurd (both_ways false refl p)
    on (Some x) (Some y) (Some z) p q r = chain x y z q r

-- the same entries and the same answers to the test give the same foremost
pub foremost_same : (there there' : ℕ → Bool) (ahead ahead' : ℕ → ℕ → Bool) (n : ℕ) → ((i : ℕ) → i < n → there i ≡ there' i)
    → ((i j : ℕ) → i < n → j < i → there i ≡ true → there j ≡ true → ahead i j ≡ ahead' i j) → foremost there ahead n ≡ foremost there' ahead' n
unfolding foremost
foremost_same there there' ahead ahead' zero p a = refl
foremost_same there there' ahead ahead' (suc n) p a =
    on (foremost there ahead n) (within n) (there n) refl (foremost_same there there' ahead ahead' n (λ i l. p i (omega arith)) (λ i j l m. a i j (omega arith) m))
  where
    -- what is found is below, and present
    within : (m : ℕ) → IfSome (foremost there ahead m) (λ r. (r < m) × (there r ≡ true))
    within zero = tt
    within (suc m) = at_last (foremost there ahead m) (within m) (there m) refl
      where
        at_last : (o : Option ℕ) → IfSome o (λ r. (r < m) × (there r ≡ true)) → (b : Bool) → there m ≡ b
            → IfSome (cond b (Some (chosen ahead o m)) o) (λ r. (r < suc m) × (there r ≡ true))
        at_last None h true e = (omega arith, e)
        at_last None h false e = tt
        at_last (Some r) h false e = (omega (arith, h.0), h.1)
        at_last (Some r) h true e = pick (ahead m r)
          where
            pick : (b : Bool) → (cond b m r < suc m) × (there (cond b m r) ≡ true)
            pick true = (omega arith, e)
            pick false = (omega (arith, h.0), h.1)

    on : (o : Option ℕ) → IfSome o (λ r. (r < n) × (there r ≡ true)) → (b : Bool) → there n ≡ b → o ≡ foremost there' ahead' n
        → cond b (Some (chosen ahead o n)) o ≡ cond (there' n) (Some (chosen ahead' (foremost there' ahead' n) n)) (foremost there' ahead' n)
    on o h true e q = ap Some (same o h e) ∙ rw (sym q, sym (p n (omega arith)), e)
      where
        same : (o : Option ℕ) → IfSome o (λ r. (r < n) × (there r ≡ true)) → there n ≡ true → chosen ahead o n ≡ chosen ahead' o n
        same None h e = refl
        same (Some r) h e = ap (λ x. cond x n r) (a n r (omega arith) h.0 e h.1)
    on o h false e q = rw (sym q, sym (p n (omega arith)), e)

-- all places: the answer is the foremost, and so keeps its law
pub best_all : {K : Type 0} (ahead : K → K → Bool) → ((x y : K) → ahead x y ≡ true → ahead y x ≡ false)
    → ((x y z : K) → ahead x y ≡ false → ahead y z ≡ false → ahead x z ≡ false) → (keys : List (Option K)) (n : ℕ) (best : Option (ℕ × K)) → n ≡ length keys
    → Best ahead keys n best → (option_map (λ p. p.0) best ≡ foremost (present keys) (goes_ahead ahead keys) (length keys))
    × IsForemost (present keys) (goes_ahead ahead keys) (length keys) (option_map (λ p. p.0) best)
best_all {K} ahead one chain keys n best e h =
    let q : option_map (λ p. p.0) best ≡ foremost (present keys) (goes_ahead ahead keys) (length keys) =
    found best h ∙ ap (foremost (present keys) (goes_ahead ahead keys)) e in
    (q, rw q (foremost_found (present keys) (goes_ahead ahead keys) (keys_order ahead one chain keys) (length keys)).0)
  where
    found : (best : Option (ℕ × K)) → Best ahead keys n best → option_map (λ p. p.0) best ≡ foremost (present keys) (goes_ahead ahead keys) n
    found None h = sym h
    found (Some p) h = sym h.0

-- a total order of the keys orders a list of them, so the foremost keeps its law
pub foremost_law : {K : Type 0} (R : K → K → Ordering) → IsTotalOrder R → (keys : List (Option K))
    → IsForemost (present keys) (goes_ahead (lesser R) keys) (length keys) (foremost (present keys) (goes_ahead (lesser R) keys) (length keys))
foremost_law {K} R o keys = (foremost_found (present keys) (goes_ahead (lesser R) keys) (keys_order (lesser R) one_way chain keys) (length keys)).0
  where
    turn : (r : Ordering) → is_lt (ordering_reverse r) ≡ is_gt r
    turn Less = refl
    turn Equal = refl
    turn Greater = refl

    back : (x y : K) → lesser R x y ≡ is_gt (R y x)
    back x y = ap is_lt (o.antisymm x y) ∙ turn (R y x)

    one_way : (x y : K) → lesser R x y ≡ true → lesser R y x ≡ false
    one_way x y e = on (R y x) (sym (back x y) ∙ e)
      where
        on : (r : Ordering) → is_gt r ≡ true → is_lt r ≡ false
        on Less q = absurd (both_ways false refl q)
        on Equal q = refl
        on Greater q = refl

    chain : (x y z : K) → lesser R x y ≡ false → lesser R y z ≡ false → lesser R x z ≡ false
    chain x y z p q = back x z ∙ upto o z y x (sym (back y z) ∙ q) (sym (back x y) ∙ p)

-- places without a key at the end change nothing
pub foremost_beyond : (there : ℕ → Bool) (ahead : ℕ → ℕ → Bool) (m n : ℕ) → m ≤ n → ((i : ℕ) → m ≤ i → i < n → there i ≡ false)
    → foremost there ahead n ≡ foremost there ahead m
unfolding foremost
foremost_beyond there ahead m zero h p = ap (foremost there ahead) (let z : 0 ≡ m = omega arith in z)
foremost_beyond there ahead m (suc n) h p = elim (order m n h) [ inl e ↦ ap (foremost there ahead) (sym e) | inr l ↦ rw (p n l (omega arith)) (foremost_beyond there ahead m n l (λ i a b. p i a (omega arith))) ]
  where
    order : (m n : ℕ) → m ≤ suc n → (m ≡ suc n) ⊎ (m ≤ n)
    order m n h = grind arith
