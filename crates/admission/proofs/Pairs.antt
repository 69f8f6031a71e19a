-- The first pair that passes a test, as the least of a list of pairs.
use Rattle.std.proofs.Common.{◌≡◌, ℕ, zero, suc, ◌+◌, ◌<◌, ◌≤◌, Bool, true, false, ltb, ◌⊎◌, List, [], ◌∷◌, Some, None, Option, IfSome, MatchOption, sym, refl, subst, inl, inr, arith}
use Rattle.std.specs.Option.{option_map}
use Rattle.std.specs.declared.cmp.Ordering.{Ordering}
use Rattle.std.specs.declared.cmp.Ordering.TheVariants.{Less, Equal, Greater}
use Rattle.std.specs.Ordering.{nat_cmp, ordering_then, min_by_ordering, MatchOrdering}
use Rattle.std.specs.List.{range_with_len, fold, reduce, filter_map, cons_option, AllByRecursion}
use Rattle.std.proofs.lemmas.Bool.{both_ways, cases_lt, ltb-true, and_parts, false_from_ne_true}
use Rattle.std.proofs.lemmas.Cmp.{ranked}
use Rattle.find.specs.First.{first, first_pair, Searched, SearchedPair}
use Rattle.find.proofs.Firsts.{first_says, pair_is}
use Rattle.group.specs.Task.{Task}
use Rattle.admission.specs.Start.{sharing}

-- a pair comes no later than another
abbrev pub NoLater : ℕ × ℕ → ℕ × ℕ → Type 0
NoLater p q = (p.0 < q.0) ⊎ ((p.0 ≡ q.0) × (p.1 ≤ q.1))

-- the earlier of two, as `min` takes it
abbrev pub earlier : ℕ × ℕ → ℕ × ℕ → ℕ × ℕ
earlier p q = min_by_ordering (ordering_then (nat_cmp p.0 q.0) (nat_cmp p.1 q.1)) p q

no_later_on : (p q r : ℕ × ℕ) → NoLater p q → NoLater q r → NoLater p r
no_later_on p q r a b = grind arith

earlier_is : (p q : ℕ × ℕ) → ((earlier p q ≡ p) × NoLater p q) ⊎ ((earlier p q ≡ q) × NoLater q p)
earlier_is p q = told (nat_cmp p.0 q.0) (ranked p.0 q.0 _ refl) (nat_cmp p.1 q.1) (ranked p.1 q.1 _ refl)
  where
    told : (a : Ordering) → MatchOrdering a (p.0 < q.0) (p.0 ≡ q.0) (q.0 < p.0) → (b : Ordering) → MatchOrdering b (p.1 < q.1) (p.1 ≡ q.1) (q.1 < p.1)
        → ((min_by_ordering (ordering_then a b) p q ≡ p) × NoLater p q) ⊎ ((min_by_ordering (ordering_then a b) p q ≡ q) × NoLater q p)
    told Less h b k = inl (refl, inl h)
    told Greater h b k = inr (refl, inl h)
    told Equal h Less k = inl (refl, inr (h, omega arith))
    told Equal h Equal k = inl (refl, inr (h, omega arith))
    told Equal h Greater k = inr (refl, inr (sym h, omega arith))

-- what holds of each pair holds of the least
fold_keeps : (P : ℕ × ℕ → Type 0) (m : ℕ × ℕ) (xs : List (ℕ × ℕ)) → P m → AllByRecursion P xs → P (fold earlier m xs)
fold_keeps P m [] h k = h
fold_keeps P m (x ∷ xs) h k = elim (earlier_is m x) [
  | inl e ↦ fold_keeps P (earlier m x) xs (subst P (sym e.0) h) k.1
  | inr e ↦ fold_keeps P (earlier m x) xs (subst P (sym e.0) k.0) k.1
]

-- and it comes no later than any
fold_least : (m : ℕ × ℕ) (xs : List (ℕ × ℕ)) → AllByRecursion (NoLater (fold earlier m xs)) (m ∷ xs)
fold_least m [] = (inr (refl, omega arith), tt)
fold_least m (x ∷ xs) = elim (earlier_is m x) [
  | inl e ↦ (let least = fold_least (earlier m x) xs in
      let first = subst (NoLater (fold earlier (earlier m x) xs)) e.0 least.0 in
      (first, (no_later_on (fold earlier (earlier m x) xs) m x first e.1, least.1)))
  | inr e ↦ (let least = fold_least (earlier m x) xs in
      let second = subst (NoLater (fold earlier (earlier m x) xs)) e.0 least.0 in
      (no_later_on (fold earlier (earlier m x) xs) x m second e.1, (second, least.1)))
]

-- a fact of what each number gives is one of all that is given
all_given : (P : ℕ × ℕ → Type 0) (h : ℕ → Option (ℕ × ℕ)) (a n : ℕ) → ((j : ℕ) → a ≤ j → j < a + n → IfSome (h j) P)
    → AllByRecursion P (filter_map h (range_with_len a n))
all_given P h a zero f = tt
all_given P h a (suc n) f = joined (h a) (f a (omega arith) (omega arith)) (all_given P h (a + 1) n (λ j l k. f j (omega arith) (omega arith)))
  where
    joined : (o : Option (ℕ × ℕ)) → IfSome o P → AllByRecursion P (filter_map h (range_with_len (a + 1) n))
        → AllByRecursion P (cons_option o (filter_map h (range_with_len (a + 1) n)))
    joined None p k = k
    joined (Some x) p k = (p, k)

each_given : (P : ℕ × ℕ → Type 0) (h : ℕ → Option (ℕ × ℕ)) (a n : ℕ) → AllByRecursion P (filter_map h (range_with_len a n))
    → (j : ℕ) → a ≤ j → j < a + n → IfSome (h j) P
each_given P h a zero f j l k = absurd (omega arith)
each_given P h a (suc n) f j l k = elim (cases_lt a j) [
  | inl m ↦ each_given P h (a + 1) n (parts (h a) f).1 j (omega arith) (omega arith)
  | inr m ↦ (let e : a ≡ j = omega arith in subst (λ i. IfSome (h i) P) e (parts (h a) f).0)
]
  where
    parts : (o : Option (ℕ × ℕ)) → AllByRecursion P (cons_option o (filter_map h (range_with_len (a + 1) n)))
        → IfSome o P × AllByRecursion P (filter_map h (range_with_len (a + 1) n))
    parts None k = (tt, k)
    parts (Some x) k = k

none_given : (h : ℕ → Option (ℕ × ℕ)) (a n : ℕ) → filter_map h (range_with_len a n) ≡ [] → (j : ℕ) → a ≤ j → j < a + n → h j ≡ None
none_given h a zero e j l k = absurd (omega arith)
none_given h a (suc n) e j l k = elim (cases_lt a j) [
  | inl m ↦ none_given h (a + 1) n (parts (h a) e).1 j (omega arith) (omega arith)
  | inr m ↦ (let i : a ≡ j = omega arith in subst (λ i. h i ≡ None) i (parts (h a) e).0)
]
  where
    parts : (o : Option (ℕ × ℕ)) → cons_option o (filter_map h (range_with_len (a + 1) n)) ≡ []
        → (o ≡ None) × (filter_map h (range_with_len (a + 1) n) ≡ [])
    parts None k = (refl, k)
    parts (Some x) k = absurd cc

-- a pair below n and n that passes, and comes no later than any other, is the first one
earliest : (test : ℕ → ℕ → Bool) (n : ℕ) (p : ℕ × ℕ) → p.0 < n → p.1 < n → test p.0 p.1 ≡ true
    → ((i j : ℕ) → i < n → j < n → test i j ≡ true → NoLater p (i, j)) → SearchedPair test n (λ _. n) (Some p)
earliest test n p a b h near = (
  a,
  λ i j l k. false_from_ne_true (test i j) (λ t. lower i j l (near i j (omega arith) k t)),
  (b, h, λ j l. false_from_ne_true (test p.0 j) (λ t. second j l (near p.0 j a (omega arith) t))),
)
  where
    lower : (i j : ℕ) → i < p.0 → NoLater p (i, j) → ⊥
    lower i j l (inl q) = omega arith
    lower i j l (inr q) = omega (arith, q.0)

    second : (j : ℕ) → j < p.1 → NoLater p (p.0, j) → ⊥
    second j l (inl q) = omega arith
    second j l (inr q) = omega (arith, q.1)

-- of the pairs whose second task is below t the first one that passes
abbrev pub LeastPair : (ℕ → ℕ → Bool) → ℕ → Option (ℕ × ℕ) → Type 0
LeastPair test t o =
    MatchOption o ((i j : ℕ) → j < t → test i j ≡ false) (λ p. (p.1 < t) × (test p.0 p.1 ≡ true) × ((i j : ℕ) → j < t → test i j ≡ true → NoLater p (i, j)))

pub least_none : (test : ℕ → ℕ → Bool) → LeastPair test 0 None
least_none test = λ i j h. absurd (omega arith)

-- all tasks
pub least_all : (ts : List Task) (n : ℕ) (o : Option (ℕ × ℕ)) → LeastPair (sharing ts) n o → o ≡ first_pair (sharing ts) n (λ _. n)
least_all ts n o h = sym (pair_is (sharing ts) n (λ _. n) o (searched o h))
  where
    searched : (o : Option (ℕ × ℕ)) → LeastPair (sharing ts) n o → SearchedPair (sharing ts) n (λ _. n) o
    searched None h = λ i j l k. h i j k
    searched (Some p) h =
        let w = ltb-true p.0 p.1 (and_parts (ltb p.0 p.1) _ h.1).0 in
        earliest (sharing ts) n p (omega (arith, h.0)) h.0 h.1 (λ i j l k u. h.2 i j k u)

-- a pair of what was found and j
abbrev pub with : ℕ → Option ℕ → Option (ℕ × ℕ)
with j o = option_map (λ i. let p : ℕ × ℕ = (i, j) in p) o

-- for each number the first that passes with it
abbrev pub found_with : (ℕ → ℕ → Bool) → ℕ → ℕ → Option (ℕ × ℕ)
found_with test n j = with j (first (λ i. test i j) n)

-- the least of these pairs is the first pair that passes
pub pair_found : (test : ℕ → ℕ → Bool) (n : ℕ) → reduce earlier (filter_map (found_with test n) (range_with_len 0 n)) ≡ first_pair test n (λ _. n)
pair_found test n = sym (pair_is test n (λ _. n) _ (searched (filter_map (found_with test n) (range_with_len 0 n)) refl))
  where
    missing : (o : Option ℕ) (j : ℕ) → Searched (λ i. test i j) n o → with j o ≡ None → (i : ℕ) → i < n → test i j ≡ false
    missing None j s e = s
    missing (Some i) j s e = absurd cc

    Passes : ℕ × ℕ → Type 0
    Passes p = (p.0 < n) × (p.1 < n) × (test p.0 p.1 ≡ true)

    passes : (o : Option ℕ) (j : ℕ) → j < n → Searched (λ i. test i j) n o → IfSome (with j o) Passes
    passes None j l s = tt
    passes (Some i) j l s = (s.0, l, s.1)

    later : (p : ℕ × ℕ) (o : Option ℕ) (j : ℕ) → Searched (λ i. test i j) n o → IfSome (with j o) (NoLater p)
        → (i : ℕ) → i < n → test i j ≡ true → NoLater p (i, j)
    later p None j s h i l t = absurd (both_ways (test i j) (s i l) t)
    later p (Some k) j s h i l t = elim (cases_lt i k) [
      | inl m ↦ absurd (both_ways (test i j) (s.2 i m) t)
      | inr m ↦ no_later_on p (k, j) (i, j) h (level k i m)
    ]
      where
        level : (k i : ℕ) → k ≤ i → NoLater (k, j) (i, j)
        level k i m = grind arith

    searched : (xs : List (ℕ × ℕ)) → filter_map (found_with test n) (range_with_len 0 n) ≡ xs → SearchedPair test n (λ _. n) (reduce earlier xs)
    searched [] e = λ i j l k.
        missing (first (λ i. test i j) n) j (first_says (λ i. test i j) n) (none_given (found_with test n) 0 n e j (omega arith) (omega arith)) i l
    searched (m ∷ xs) e =
        let all = subst (AllByRecursion Passes) e
        (all_given Passes (found_with test n) 0 n (λ j a b. passes (first (λ i. test i j) n) j (omega arith) (first_says (λ i. test i j) n))) in
        let holds : Passes (fold earlier m xs) = fold_keeps Passes m xs all.0 all.1 in
        let least = subst (AllByRecursion (NoLater (fold earlier m xs))) (sym e) (fold_least m xs) in
        earliest test n (fold earlier m xs) holds.0 holds.1 holds.2 (λ i j l k t. later (fold earlier m xs) (first (λ i. test i j) n) j (first_says (λ i. test i j) n)
        (each_given (NoLater (fold earlier m xs)) (found_with test n) 0 n least j (omega arith) (omega arith)) i l t)
