-- What the answer of a start means.
use Rattle.std.proofs.Common.{◌≡◌, ℕ, zero, suc, ◌<◌, ◌≤◌, Bool, true, false, not, ◌||◌, eqb, ltb, ◌⊎◌, List, [], ◌∷◌, length, get_or, is_some, Some, None, Ok, Err, Option, Result, sym, refl, ap, ◌∙◌, inl, inr, arith}
use Rattle.std.specs.Option.{option_or, option_map}
use Rattle.std.proofs.lemmas.Bool.{cases_order, both_ways, eqb-true, eq-eqb, ltb-true, ltb-false, lt-ltb, le-ltb, and_parts, and_from, or_cases, or_left, or_right, not-true, not_from_false, false_from_ne_true}
use Rattle.denial.specs.declared.Denial.{Denial}
use Rattle.denial.specs.declared.Rule.TheVariants.{Started, Scratch, TaskCount, SharedRank, Unbounded}
use Rattle.denial.specs.Numbers.{denied, number_of}
use Rattle.denial.specs.Checks.{when, unless}
use Rattle.find.specs.First.{first_pair, SearchedPair, NoPair}
use Rattle.find.proofs.Firsts.{pair_says, pair_is}
use Rattle.group.specs.declared.meaning.Terms.{Terms}
use Rattle.group.specs.Task.{Task, Class, at, terms_of, no_terms}
use Rattle.bounds.specs.Bound.{bound, count_fault}
use Rattle.bounds.proofs.Checked.{both_clear, when_clear, count_clear}
use Rattle.bounds.proofs.Least.{bound_absent, bound_least}
use Rattle.admission.specs.Start.{uses, share, sharing, shared_fault, lacking, unbounded_fault, early_fault, plan_fault, start_fault, Shares, Lacks, Startable, StartLaw}

-- Ranks ----------------------------------------------------------------------------------------------------------------------

-- a used rank is that of a class, counted from 0
pub used_class : (cs : List Terms) (r : ℕ) → uses cs r ≡ true → (i : ℕ) × (i < length cs) × ((get_or cs i no_terms).rank ≡ r)
used_class [] r e = absurd (both_ways false refl e)
used_class (c ∷ cs) r e =
    elim (or_cases (eqb c.rank r) (uses cs r) e) [
      | inl q ↦ (0, omega arith, eqb-true c.rank r q)
      | inr q ↦ (let w = used_class cs r q in (suc w.0, omega (arith, w.1), w.2))
    ]

pub class_used : (cs : List Terms) (i r : ℕ) → i < length cs → (get_or cs i no_terms).rank ≡ r → uses cs r ≡ true
class_used [] i r l e = absurd (omega arith)
class_used (c ∷ cs) zero r l e = or_left _ _ (eq-eqb c.rank r e)
class_used (c ∷ cs) (suc i) r l e = or_right _ _ (class_used cs i r (omega arith) e)

-- a shared rank is that of a class of each
pub shared_class : (cs ds : List Terms) → share cs ds ≡ true → (j : ℕ) × (j < length ds) × (uses cs (get_or ds j no_terms).rank ≡ true)
shared_class cs [] e = absurd (both_ways false refl e)
shared_class cs (d ∷ ds) e =
    elim (or_cases (uses cs d.rank) (share cs ds) e) [
      | inl q ↦ (0, omega arith, q)
      | inr q ↦ (let w = shared_class cs ds q in (suc w.0, omega (arith, w.1), w.2))
    ]

pub class_shared : (cs ds : List Terms) (j : ℕ) → j < length ds → uses cs (get_or ds j no_terms).rank ≡ true → share cs ds ≡ true
class_shared cs [] j l e = absurd (omega arith)
class_shared cs (d ∷ ds) zero l e = or_left _ _ e
class_shared cs (d ∷ ds) (suc j) l e = or_right _ _ (class_shared cs ds j (omega arith) e)

pub sharing_shares : (ts : List Task) (i j : ℕ) → j < length ts → sharing ts i j ≡ true → Shares ts i j
sharing_shares ts i j l e =
    let p = and_parts (ltb i j) (share (at ts i).classes (at ts j).classes) e in
    let s = shared_class (at ts i).classes (at ts j).classes p.1 in
    let u = used_class (at ts i).classes (get_or (at ts j).classes s.0 no_terms).rank s.2 in
    record {
      order = ltb-true i j p.0;
      task = l;
      class = suc u.0;
      other = suc s.0;
      classes = ((omega arith, omega (arith, u.1)), (omega arith, omega (arith, s.1)));
      same = u.2;
    }

pub shares_sharing : (ts : List Task) (i j : ℕ) → Shares ts i j → sharing ts i j ≡ true
shares_sharing ts i j s = at_classes s.class s.other s.classes s.same
  where
    at_classes : (c d : ℕ) → Class (at ts i) c × Class (at ts j) d → (terms_of (at ts i) c).rank ≡ (terms_of (at ts j) d).rank → sharing ts i j ≡ true
    at_classes zero d h e = absurd (omega (arith, h.0.0))
    at_classes (suc c) zero h e = absurd (omega (arith, h.1.0))
    at_classes (suc c) (suc d) h e =
        and_from (ltb i j) _ (lt-ltb i j s.order)
        (class_shared (at ts i).classes (at ts j).classes d (omega (arith, h.1.1)) (class_used (at ts i).classes c _ (omega (arith, h.0.1)) e))

-- Pairs ----------------------------------------------------------------------------------------------------------------------

-- a pair comes no later than a and b
abbrev pub NoLater : (i j a b : ℕ) → Type 0
NoLater i j a b = (i < a) ⊎ ((i ≡ a) × (j ≤ b))

order : (i j a b : ℕ) → (a < i → ⊥) → (a ≡ i → b < j → ⊥) → NoLater i j a b
order i j a b p q = elim (cases_order i a) [ inl e ↦ inr (e, level e) | inr (inl l) ↦ inl l | inr (inr l) ↦ absurd (p l) ]
  where
    least : (j b : ℕ) → (b < j → ⊥) → j ≤ b
    least j b h = grind arith

    level : i ≡ a → j ≤ b
    level e = least j b (q (sym e))

-- the pair that a search found, and none that passes comes before it
pub found_first : (f : ℕ → ℕ → Bool) (m : ℕ) (limit : ℕ → ℕ) (i j : ℕ) → first_pair f m limit ≡ Some (i, j)
    → (i < m) × (j < limit i) × (f i j ≡ true) × ((a b : ℕ) → a < m → b < limit a → f a b ≡ true → NoLater i j a b)
found_first f m limit i j e =
    let s : SearchedPair f m limit (Some (i, j)) = rw e at (pair_says f m limit) in (
      s.0,
      s.2.0,
      s.2.1,
      λ a b l k u. order i j a b (λ h. both_ways (f a b) (s.1 a b h k) u)
          (λ q h. both_ways (f i b) (s.2.2 b h) (ap (λ x. f x b) (sym q) ∙ u)),
    )

-- what was not found does not pass
pub none_found : (f : ℕ → ℕ → Bool) (m : ℕ) (limit : ℕ → ℕ) → first_pair f m limit ≡ None → NoPair f m limit
none_found f m limit e = rw e at (pair_says f m limit)

-- Bounds ---------------------------------------------------------------------------------------------------------------------

pub lacking_lacks : (ts : List Task) (k c : ℕ) → k < length ts → Class (at ts k) c → lacking ts k c ≡ true → Lacks ts k c
lacking_lacks ts k c l h e =
    let p = and_parts (not (terms_of (at ts k) c).tolerated) (not (is_some (bound ts k c))) e in
    record {
      task = l;
      class = h;
      strict = not-true (terms_of (at ts k) c).tolerated p.0;
      never = bound_absent ts k c (none (bound ts k c) (not-true (is_some (bound ts k c)) p.1));
    }
  where
    none : (o : Option ℕ) → is_some o ≡ false → o ≡ None
    none None e = refl
    none (Some x) e = absurd (both_ways true e refl)

pub lacks_lacking : (ts : List Task) (k c : ℕ) → Lacks ts k c → lacking ts k c ≡ true
lacks_lacking ts k c s =
    and_from _ _ (not_from_false (terms_of (at ts k) c).tolerated s.strict) (not_from_false (is_some (bound ts k c)) (at_answer (bound ts k c) refl))
  where
    at_answer : (o : Option ℕ) → bound ts k c ≡ o → is_some o ≡ false
    at_answer None e = refl
    at_answer (Some R) e = absurd (s.never R (bound_least ts k c s.task s.class R e).bounded)

-- The start ------------------------------------------------------------------------------------------------------------------

abbrev pub answer : Option Denial → Result (Unit {0}) Denial
answer f = unless f tt

pub accepted : (f : Option Denial) → answer f ≡ Ok tt → f ≡ None
accepted None e = refl
accepted (Some d) e = absurd (let z : ◌≡◌ {A = ℕ} 0 1 = cc in omega arith)

-- a refusal is the fault
pub refused : (f : Option Denial) (x : Denial) → answer f ≡ Err x → f ≡ Some x
refused None x e = absurd (let z : ◌≡◌ {A = ℕ} 0 1 = cc in omega arith)
refused (Some d) x e = let q : d ≡ x = cc in ap Some q

module _ (ts : List Task) where
  pub startable : 1 ≤ length ts → length ts ≤ 64 → plan_fault ts ≡ None → Startable ts
  startable low few e =
      let p = both_clear (shared_fault ts) (unbounded_fault ts) e in
      let n = none_found (sharing ts) (length ts) (λ _. length ts) (unmapped _ _ p.0) in
      let m = none_found (λ k j. lacking ts k (suc j)) (length ts) (λ k. length (at ts k).classes) (unmapped _ _ p.1) in
      record {
        some_task = low;
        few = few;
        apart = λ i j s. both_ways (sharing ts i j) (n i j (omega (arith, s.order, s.task)) s.task) (shares_sharing ts i j s);
        strict = λ k c l h t. has k c l h t (m k);
      }
    where
      unmapped : {A B : Type 0} (f : A → B) (o : Option A) → option_map f o ≡ None → o ≡ None
      unmapped f None e = refl
      unmapped f (Some x) e = absurd (let z : ◌≡◌ {A = ℕ} 0 1 = cc in omega arith)

      has : (k c : ℕ) → k < length ts → Class (at ts k) c → (terms_of (at ts k) c).tolerated ≡ false
          → ((j : ℕ) → k < length ts → j < length (at ts k).classes → lacking ts k (suc j) ≡ false) → (R : ℕ) × (bound ts k c ≡ Some R)
      has k zero l h t m = absurd (omega (arith, h.0))
      has k (suc j) l h t m = at_answer (bound ts k (suc j)) refl
        where
          at_answer : (o : Option ℕ) → bound ts k (suc j) ≡ o → (R : ℕ) × (bound ts k (suc j) ≡ Some R)
          at_answer (Some R) e = (R, e)
          at_answer None e =
              absurd (both_ways (lacking ts k (suc j)) (m j l (omega (arith, h.1)))
              (and_from _ _ (not_from_false (terms_of (at ts k) (suc j)).tolerated t) (not_from_false (is_some (bound ts k (suc j))) (ap is_some e))))

  -- no fault in a group that may be started
  pub plan_clear : Startable ts → plan_fault ts ≡ None
  plan_clear s =
      ap (λ x. option_or x (unbounded_fault ts)) (ap (option_map (λ p. denied SharedRank p.0 p.1)) (pair_is (sharing ts) (length ts) (λ _. length ts) None no_shared))
      ∙ ap (option_map (λ p. denied Unbounded p.0 (suc p.1))) (pair_is (λ k j. lacking ts k (suc j)) (length ts) (λ k. length (at ts k).classes) None no_lack)
    where
      no_shared : NoPair (sharing ts) (length ts) (λ _. length ts)
      no_shared i j l k = false_from_ne_true (sharing ts i j) (λ u. s.apart i j (sharing_shares ts i j k u))

      no_lack : NoPair (λ k j. lacking ts k (suc j)) (length ts) (λ k. length (at ts k).classes)
      no_lack k j l h =
          false_from_ne_true (lacking ts k (suc j)) (λ u. (let c : Class (at ts k) (suc j) = (omega arith, omega arith) in
          let w = lacking_lacks ts k (suc j) l c u in
          let b = s.strict k (suc j) l c w.strict in
          w.never b.0 (bound_least ts k (suc j) l c b.0 b.1).bounded))

  early_clear : (started : Bool) (room : ℕ) → started ≡ false → 256 ≤ room → 1 ≤ length ts → length ts ≤ 64 → early_fault started room ts ≡ None
  early_clear started room e h low few =
      ap (λ b. option_or (when b (denied Started 0 0)) (option_or (when (ltb room 256) (denied Scratch 0 0)) (count_fault ts))) e
      ∙ ap (λ b. option_or (when b (denied Scratch 0 0)) (count_fault ts)) (le-ltb room 256 h)
      ∙ ap (λ b. when b (denied TaskCount 0 0)) (inside (length ts) low few)
    where
      inside : (n : ℕ) → 1 ≤ n → n ≤ 64 → (eqb n 0 || ltb 64 n) ≡ false
      inside n a b = grind arith

  -- what is so after the checks that come first
  pub early_passed : (started : Bool) (room : ℕ) → early_fault started room ts ≡ None → (started ≡ false) × (256 ≤ room) × (1 ≤ length ts) × (length ts ≤ 64)
  early_passed started room e =
      let p = both_clear (when started (denied Started 0 0)) _ e in
      let q = both_clear (when (ltb room 256) (denied Scratch 0 0)) (count_fault ts) p.1 in
      let n = count_clear ts q.1 in
      (when_clear started _ p.0, ltb-false room 256 (when_clear (ltb room 256) _ q.0), n.0, n.1)

  -- a refusal by another rule comes from the checks after one
  past : (b : Bool) (d x : Denial) (rest : Option Denial) → (number_of d.rule ≡ number_of x.rule → ⊥) → option_or (when b d) rest ≡ Some x → rest ≡ Some x
  past true d x rest ne e = absurd (ne (ap (λ y. number_of y.rule) (let q : d ≡ x = cc in q)))
  past false d x rest ne e = e

  past_early : (started : Bool) (room : ℕ) (x : Denial) → 12 ≤ number_of x.rule → start_fault started room ts ≡ Some x → plan_fault ts ≡ Some x
  past_early started room x h e =
      past (eqb (length ts) 0 || ltb 64 (length ts)) (denied TaskCount 0 0) x (plan_fault ts) (λ q. omega arith)
      (past (ltb room 256) (denied Scratch 0 0) x _ (λ q. omega arith)
      (past started (denied Started 0 0) x _ (λ q. omega arith)
      (sym (assoc (when started (denied Started 0 0)) (when (ltb room 256) (denied Scratch 0 0)) (count_fault ts) (plan_fault ts)) ∙ e)))
    where
      assoc : (a b c d : Option Denial) → option_or (option_or a (option_or b c)) d ≡ option_or a (option_or b (option_or c d))
      assoc (Some x) b c d = refl
      assoc None (Some x) c d = refl
      assoc None None c d = refl

  -- a shared rank is named truly
  shared_named : (i j : ℕ) → plan_fault ts ≡ Some (denied SharedRank i j) → first_pair (sharing ts) (length ts) (λ _. length ts) ≡ Some (i, j)
  shared_named i j e = at_pair (first_pair (sharing ts) (length ts) (λ _. length ts)) (first_pair (λ k j. lacking ts k (suc j)) (length ts) (λ k. length (at ts k).classes)) e
    where
      at_pair : (o r : Option (ℕ × ℕ)) → option_or (option_map (λ p. denied SharedRank p.0 p.1) o) (option_map (λ p. denied Unbounded p.0 (suc p.1)) r) ≡ Some (denied SharedRank i j) → o ≡ Some (i, j)
      at_pair (Some (a, b)) r e =
          let d : denied SharedRank a b ≡ denied SharedRank i j = cc in
          let x : a ≡ i = ap (λ y. y.first) d in
          let y : b ≡ j = ap (λ y. y.second) d in
          cc
      at_pair None None e = absurd (let z : ◌≡◌ {A = ℕ} 0 1 = cc in omega arith)
      at_pair None (Some p) e =
          let d : denied Unbounded p.0 (suc p.1) ≡ denied SharedRank i j = cc in
          absurd (let z : ◌≡◌ {A = ℕ} 13 12 = ap (λ y. number_of y.rule) d in omega arith)

  -- and so is a class without a bound
  unbounded_named : (k c : ℕ) → plan_fault ts ≡ Some (denied Unbounded k c)
      → (j : ℕ) × (c ≡ suc j) × (first_pair (λ k j. lacking ts k (suc j)) (length ts) (λ k. length (at ts k).classes) ≡ Some (k, j))
  unbounded_named k c e = at_pair (first_pair (sharing ts) (length ts) (λ _. length ts)) (first_pair (λ k j. lacking ts k (suc j)) (length ts) (λ k. length (at ts k).classes)) e
    where
      at_pair : (o r : Option (ℕ × ℕ)) → option_or (option_map (λ p. denied SharedRank p.0 p.1) o) (option_map (λ p. denied Unbounded p.0 (suc p.1)) r) ≡ Some (denied Unbounded k c)
          → (j : ℕ) × (c ≡ suc j) × (r ≡ Some (k, j))
      at_pair (Some p) r e =
          let d : denied SharedRank p.0 p.1 ≡ denied Unbounded k c = cc in
          absurd (let z : ◌≡◌ {A = ℕ} 12 13 = ap (λ y. number_of y.rule) d in omega arith)
      at_pair None None e = absurd (let z : ◌≡◌ {A = ℕ} 0 1 = cc in omega arith)
      at_pair None (Some (a, b)) e =
          let d : denied Unbounded a (suc b) ≡ denied Unbounded k c = cc in
          let x : a ≡ k = ap (λ y. y.first) d in
          let y : suc b ≡ c = ap (λ y. y.second) d in
          (b, sym y, (let w : ◌≡◌ {A = Option (ℕ × ℕ)} (Some (a, b)) (Some (k, b)) = cc in w))

  pub start_says : (started : Bool) (room : ℕ) → StartLaw started room ts (answer (start_fault started room ts))
  start_says started room = record {
    accepts = λ e h s. ap answer (ap (λ f. option_or f (plan_fault ts)) (early_clear started room e h s.some_task s.few) ∙ plan_clear s);
    only = λ e. (let p = both_clear (early_fault started room ts) (plan_fault ts) (accepted _ e) in
        let q = early_passed started room p.0 in
        (q.0, q.1, startable q.2 q.3 p.1));
    shared = λ i j e. (let p = shared_named i j (past_early started room (denied SharedRank i j) (omega arith) (refused _ _ e)) in
        let w = found_first (sharing ts) (length ts) (λ _. length ts) i j p in
        (sharing_shares ts i j w.1 w.2, λ a b s. w.3 a b (omega (arith, s.order, s.task)) s.task (shares_sharing ts a b s)));
    unbounded = named;
  }
    where
      named : (k c : ℕ) → answer (start_fault started room ts) ≡ Err (denied Unbounded k c) → Lacks ts k c × ((a b : ℕ) → Lacks ts a b → NoLater k c a b)
      named k c e =
          let p = unbounded_named k c (past_early started room (denied Unbounded k c) (omega arith) (refused _ _ e)) in
          let w = found_first (λ k j. lacking ts k (suc j)) (length ts) (λ k. length (at ts k).classes) k p.0 p.2 in
          rw p.1 (lacking_lacks ts k (suc p.0) w.0 (omega arith, omega (arith, w.1)) w.2, later k p.0 w.3)
        where
          later : (k j : ℕ) → ((a b : ℕ) → a < length ts → b < length (at ts a).classes → lacking ts a (suc b) ≡ true → NoLater k j a b)
              → (a b : ℕ) → Lacks ts a b → NoLater k (suc j) a b
          later k j h a zero s = absurd (omega (arith, s.class.0))
          later k j h a (suc b) s = raise (h a b s.task (omega (arith, s.class.1)) (lacks_lacking ts a (suc b) s))
            where
              raise : NoLater k j a b → NoLater k (suc j) a (suc b)
              raise (inl q) = inl q
              raise (inr q) = inr (q.0, omega (arith, q.1))

  -- a start that is not refused says that the group may be started
  pub start_startable : (started : Bool) (room : ℕ) → start_fault started room ts ≡ None → (started ≡ false) × Startable ts
  start_startable started room e =
      let w = (start_says started room).only (ap answer e) in
      (w.0, w.2)

  -- then no two tasks use one rank
  pub ranks_apart : Startable ts → (i j : ℕ) → i < length ts → j < length ts → (i ≡ j → ⊥) → (c d : ℕ) → Class (at ts i) c → Class (at ts j) d
      → (terms_of (at ts i) c).rank ≡ (terms_of (at ts j) d).rank → ⊥
  ranks_apart s i j l m ne c d h k e =
      elim (cases_order i j) [
        | inl q ↦ ne q
        | inr (inl q) ↦ s.apart i j (record { order = q; task = m; class = c; other = d; classes = (h, k); same = e })
        | inr (inr q) ↦ s.apart j i (record { order = q; task = l; class = d; other = c; classes = (k, h); same = sym e })
      ]
