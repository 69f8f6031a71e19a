-- The marks of ranks, class by class and task by task.
use Rattle.std.proofs.Common.{◌≡◌, ℕ, zero, suc, ◌+◌, ◌-◌, ◌<◌, ◌≤◌, Bool, true, false, cond, ◌||◌, eqb, List, [], ◌∷◌, ◌++◌, length, get_or, take, drop, set, replicate, Some, None, Option, sym, refl, ap, ◌∙◌, subst, inl, inr, add-one, arith}
use Rattle.std.specs.Option.{option_or}
use Rattle.std.proofs.lemmas.List.{take_more, get_or-set_same, get_or-set_other, drop-set-lt, take-append-drop, length-take-le, get_or-take, get_or-replicate, length-replicate, length-append, get_or_append_left}
use Rattle.std.proofs.lemmas.List.FromFn.{fill_by_all, length-map-range_with_len, get_or-map-range_with_len}
use Rattle.std.proofs.lemmas.Bool.{cases_eq, eq-eqb, ne_eqb}
use Rattle.std.proofs.Math.Bool.{or-false, false-or, or_assoc}
use Rattle.find.specs.First.{first}
use Rattle.group.specs.declared.meaning.Terms.{Terms}
use Rattle.group.specs.Task.{Task, Class, at, terms_of, no_terms}
use Rattle.admission.specs.Start.{uses, mark_of, mark, marks}
use Rattle.admission.specs.Ranks.{marked_byte, MarkedBy, HoldsMarks}

-- one class more is used
pub uses_last : (cs : List Terms) (c : Terms) (r : ℕ) → uses (cs ++ (c ∷ [])) r ≡ (uses cs r || eqb c.rank r)
uses_last [] c r = or-false (eqb c.rank r) ∙ sym (false-or (eqb c.rank r))
uses_last (d ∷ cs) c r = ap (λ b. eqb d.rank r || b) (uses_last cs c r) ∙ sym (or_assoc (eqb d.rank r) (uses cs r) (eqb c.rank r))

pub uses_more : (cs : List Terms) (i r : ℕ) → i < length cs → uses (take (i + 1) cs) r ≡ (uses (take i cs) r || eqb (get_or cs i no_terms).rank r)
uses_more cs i r l = ap (λ x. uses x r) (take_more cs i no_terms l) ∙ uses_last (take i cs) (get_or cs i no_terms) r

same_byte : (u : Bool) (mark old now : ℕ) → 1 ≤ mark → now ≡ marked_byte u mark old → marked_byte true mark now ≡ marked_byte (u || true) mark old
same_byte true mark old now m e = grind arith
same_byte false mark old now m e = grind arith

other_byte : (u : Bool) (mark old : ℕ) → marked_byte (u || false) mark old ≡ marked_byte u mark old
other_byte true mark old = refl
other_byte false mark old = refl

-- and marked
pub marked_more : (cs : List Terms) (i rank mark byte : ℕ) (before now : List ℕ) → i < length cs → rank ≡ (get_or cs i no_terms).rank → rank < 256
    → 256 ≤ length now → 1 ≤ mark → byte ≡ marked_byte true mark (get_or now rank 0) → MarkedBy (take i cs) mark before now
    → MarkedBy (take (i + 1) cs) mark before (set now rank byte)
marked_more cs i rank mark byte before now l e b room m v h = record {
  bytes = λ r k. elim (cases_eq r rank) [ inl q ↦ same r k q | inr q ↦ other r k q ];
  rest = drop-set-lt 256 now rank byte b ∙ h.rest;
}
  where
    here : rank < length now
    here = omega arith

    same : (r : ℕ) → r < 256 → r ≡ rank → get_or (set now rank byte) r 0 ≡ marked_byte (uses (take (i + 1) cs) r) mark (get_or before r 0)
    same r k q =
        let s = get_or-set_same now rank byte 0 here in
        let t : eqb (get_or cs i no_terms).rank r ≡ true = eq-eqb (get_or cs i no_terms).rank r (sym e ∙ sym q) in
        let u : uses (take (i + 1) cs) r ≡ (uses (take i cs) r || true) = uses_more cs i r l ∙ ap (λ x. uses (take i cs) r || x) t in
        ap (λ x. get_or (set now rank byte) x 0) q ∙ s ∙ v ∙ ap (λ x. marked_byte true mark (get_or now x 0)) (sym q)
        ∙ same_byte (uses (take i cs) r) mark (get_or before r 0) (get_or now r 0) m (h.bytes r k)
        ∙ ap (λ x. marked_byte x mark (get_or before r 0)) (sym u)

    other : (r : ℕ) → r < 256 → (r ≡ rank → ⊥) → get_or (set now rank byte) r 0 ≡ marked_byte (uses (take (i + 1) cs) r) mark (get_or before r 0)
    other r k q =
        let t : eqb (get_or cs i no_terms).rank r ≡ false = ne_eqb (get_or cs i no_terms).rank r (λ p. q (sym p ∙ sym e)) in
        let u : uses (take (i + 1) cs) r ≡ (uses (take i cs) r || false) = uses_more cs i r l ∙ ap (λ x. uses (take i cs) r || x) t in
        get_or-set_other now rank r byte 0 q ∙ h.bytes r k ∙ sym (other_byte (uses (take i cs) r) mark (get_or before r 0))
        ∙ ap (λ x. marked_byte x mark (get_or before r 0)) (sym u)

-- the same of a class by its number
pub marked_class : (t : Task) (c rank mark byte : ℕ) (before now : List ℕ) → Class t c → rank ≡ (terms_of t c).rank → rank < 256
    → 256 ≤ length now → 1 ≤ mark → byte ≡ marked_byte true mark (get_or now rank 0) → MarkedBy (take (c - 1) t.classes) mark before now
    → MarkedBy (take c t.classes) mark before (set now rank byte)
marked_class t zero rank mark byte before now k e b room m v h = absurd (omega (arith, k.0))
marked_class t (suc i) rank mark byte before now k e b room m v h =
    let p : suc i - 1 ≡ i = omega arith in
    let q : i + 1 ≡ suc i = omega arith in
    let more = marked_more t.classes i rank mark byte before now (omega (arith, k.1)) e b room m v (subst (λ n. MarkedBy (take n t.classes) mark before now) p h) in
    subst (λ n. MarkedBy (take n t.classes) mark before (set now rank byte)) q more

-- nothing is marked at first
pub marked_none : (cs : List Terms) (mark : ℕ) (before : List ℕ) → MarkedBy (take 0 cs) mark before before
marked_none cs mark before = record { bytes = λ r k. refl; rest = refl }

-- the marks of the tasks below n
pub record MarkedBelow (ts : List Task) (n : ℕ) (before now : List ℕ) : Type 0 where
  pub bytes : (r : ℕ) → r < 256 → get_or now r 0 ≡ mark_of (first (λ i. uses (at ts i).classes r) n)
  pub rest : drop 256 now ≡ drop 256 before

-- one task more
pub below_more : (ts : List Task) (n : ℕ) (before now after : List ℕ) → MarkedBelow ts n before now → MarkedBy (at ts n).classes (n + 1) now after
    → MarkedBelow ts (n + 1) before after
unfolding first
below_more ts n before now after h m = record { bytes = bytes; rest = m.rest ∙ h.rest }
  where
    stays : (m i : ℕ) → marked_byte true m (suc i) ≡ suc i
    stays m i = grind arith

    step : (o : Option ℕ) (u : Bool) → marked_byte u (n + 1) (mark_of o) ≡ mark_of (option_or o (cond u (Some n) None))
    step None true = add-one n
    step None false = refl
    step (Some i) true = stays (n + 1) i
    step (Some i) false = refl

    bytes : (r : ℕ) → r < 256 → get_or after r 0 ≡ mark_of (first (λ i. uses (at ts i).classes r) (n + 1))
    bytes r k =
        m.bytes r k ∙ ap (marked_byte (uses (at ts n).classes r) (n + 1)) (h.bytes r k)
        ∙ step (first (λ i. uses (at ts i).classes r) n) (uses (at ts n).classes r)
        ∙ ap (λ x. mark_of (first (λ i. uses (at ts i).classes r) x)) (sym (add-one n))

-- all tasks: the first 256 bytes are the marks
pub below_all : (ts : List Task) (before now : List ℕ) → 256 ≤ length now → MarkedBelow ts (length ts) before now → now ≡ marks ts ++ drop 256 before
below_all ts before now room h =
    let len : length (take 256 now) ≡ 256 = length-take-le 256 now room in
    let front : take 256 now ≡ marks ts =
    fill_by_all (mark ts) (take 256 now) 256 0 len (λ k l. get_or-take 256 now k 0 l ∙ h.bytes k l) in
    sym (take-append-drop 256 now) ∙ ap (λ x. x ++ drop 256 now) front ∙ ap (λ x. marks ts ++ x) h.rest

-- no task: the first 256 bytes are zeros
pub below_none : (ts : List Task) (zeros rest : List ℕ) → zeros ≡ replicate 256 0 → MarkedBelow ts 0 (zeros ++ rest) (zeros ++ rest)
unfolding first
below_none ts zeros rest e = record {
  bytes = λ r k. (let l : r < length zeros = omega (arith, ap length e ∙ length-replicate {A = ℕ} 256 0) in
      get_or_append_left zeros rest 0 r l ∙ ap (λ x. get_or x r 0) e ∙ get_or-replicate 256 r 0 0 k);
  rest = refl;
}

-- so they can be read again
pub marks_held : (ts : List Task) (rest scratch : List ℕ) → scratch ≡ marks ts ++ rest → HoldsMarks ts scratch
marks_held ts rest scratch e = record {
  room = omega (arith, len, ap length e ∙ length-append (marks ts) rest);
  bytes = λ r k. (let l : r < length (marks ts) = omega arith in
      ap (λ x. get_or x r 0) e ∙ get_or_append_left (marks ts) rest 0 r l ∙ get_or-map-range_with_len (mark ts) 0 256 r r 0 k (omega arith));
}
  where
    len : length (marks ts) ≡ 256
    len = length-map-range_with_len (mark ts) 0 256
