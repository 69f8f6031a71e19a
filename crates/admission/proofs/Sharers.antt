-- The lowest task that shares a rank with a task, by the marks.
use Rattle.std.proofs.Common.{◌≡◌, ℕ, zero, suc, ◌+◌, ◌-◌, ◌<◌, ◌≤◌, min, true, false, ◌||◌, ◌⊎◌, List, [], ◌∷◌, ◌++◌, length, get_or, take, Some, None, Option, sym, refl, ap, ◌∙◌, inl, inr, arith}
use native.Mathlib.Numerals.{unary_clauses}
use Rattle.std.proofs.lemmas.List.{take_more}
use Rattle.std.proofs.lemmas.Bool.{cases_lt, eq-eqb, or_cases, or_left, or_right, both_ways}
use Rattle.std.proofs.Math.Bool.{or-false, false-or, or_assoc}
use Rattle.find.specs.First.{first, Searched}
use Rattle.find.proofs.Firsts.{first_says}
use Rattle.group.specs.declared.meaning.Terms.{Terms}
use Rattle.group.specs.Task.{Task, at, no_terms}
use Rattle.admission.specs.Start.{uses, share, mark_of, mark}
use Rattle.admission.specs.Ranks.{HoldsMarks}

-- r is the lowest task that shares a rank with these classes of a task, or the task itself if no lower one does
pub record LowestSoFar (ts : List Task) (task : ℕ) (ds : List Terms) (r : ℕ) : Type 0 where
  pub within : r ≤ task
  pub lowest : (i : ℕ) → i < task → share (at ts i).classes ds ≡ true → r ≤ i
  pub shares : r < task → share (at ts r).classes ds ≡ true

-- before the first class
pub lowest_none : (ts : List Task) (task : ℕ) (ds : List Terms) → LowestSoFar ts task (take 0 ds) task
lowest_none ts task ds = record {
  within = omega arith;
  lowest = λ i l e. absurd (both_ways false refl e);
  shares = λ l. absurd (omega arith);
}

-- one class more is shared
pub share_last : (cs ds : List Terms) (d : Terms) → share cs (ds ++ (d ∷ [])) ≡ (share cs ds || uses cs d.rank)
share_last cs [] d = or-false (uses cs d.rank) ∙ sym (false-or (uses cs d.rank))
share_last cs (e ∷ ds) d = ap (λ b. uses cs e.rank || b) (share_last cs ds d) ∙ sym (or_assoc (uses cs e.rank) (share cs ds) (uses cs d.rank))

-- a class uses its own rank
pub uses_own : (cs : List Terms) (i : ℕ) → i < length cs → uses cs (get_or cs i no_terms).rank ≡ true
uses_own [] i l = absurd (omega arith)
uses_own (c ∷ cs) zero l = or_left _ _ (eq-eqb c.rank c.rank refl)
uses_own (c ∷ cs) (suc i) l = or_right _ _ (uses_own cs i (omega arith))

-- the mark of a rank that a task uses: it names the lowest task that does
pub record Marks (ts : List Task) (task r m : ℕ) : Type 0 where
  pub by : ℕ
  pub is : m ≡ suc by
  pub low : by ≤ task
  pub used_by : uses (at ts by).classes r ≡ true
  pub lowest : (i : ℕ) → uses (at ts i).classes r ≡ true → by ≤ i

pub mark_names : (ts : List Task) (task r m : ℕ) → task < length ts → uses (at ts task).classes r ≡ true → m ≡ mark ts r → Marks ts task r m
mark_names ts task r m l u e = rw e (named (first (λ i. uses (at ts i).classes r) (length ts)) (first_says (λ i. uses (at ts i).classes r) (length ts)))
  where
    named : (o : Option ℕ) → Searched (λ i. uses (at ts i).classes r) (length ts) o → Marks ts task r (mark_of o)
    named None s = absurd (both_ways (uses (at ts task).classes r) (s task l) u)
    named (Some j) s =
        let below : (i : ℕ) → uses (at ts i).classes r ≡ true → j ≤ i = λ i v. elim (cases_lt i j) [ inl k ↦ absurd (both_ways (uses (at ts i).classes r) (s.2 i k) v) | inr k ↦ k ] in
        record { by = j; is = refl; low = below task u; used_by = s.1; lowest = below }

-- the byte of the rank of one of a task's classes
pub mark_read : (ts : List Task) (task i r : ℕ) (scratch : List ℕ) → task < length ts → i < length (at ts task).classes
    → r ≡ (get_or (at ts task).classes i no_terms).rank → r < 256 → HoldsMarks ts scratch → Marks ts task r (get_or scratch r 0)
mark_read ts task i r scratch l k e b h =
    mark_names ts task r (get_or scratch r 0) l (ap (uses (at ts task).classes) e ∙ uses_own (at ts task).classes i k) (h.bytes r b)

pub lowest_more : (ts : List Task) (task i r m low new : ℕ) → task < length ts → i < length (at ts task).classes
    → r ≡ (get_or (at ts task).classes i no_terms).rank → Marks ts task r m → new ≡ min low (m - 1)
    → LowestSoFar ts task (take i (at ts task).classes) low → LowestSoFar ts task (take (i + 1) (at ts task).classes) new
lowest_more ts task i r m low new l k e h q s = record { within = within; lowest = lowest; shares = shares }
  where
    more : (cs : List Terms) → share cs (take (i + 1) (at ts task).classes) ≡ (share cs (take i (at ts task).classes) || uses cs r)
    more cs = ap (share cs) (take_more (at ts task).classes i no_terms k) ∙ share_last cs (take i (at ts task).classes) (get_or (at ts task).classes i no_terms) ∙ ap (λ x. share cs (take i (at ts task).classes) || uses cs x) (sym e)

    within : new ≤ task
    within = omega (arith, s.within, h.is)

    lowest : (j : ℕ) → j < task → share (at ts j).classes (take (i + 1) (at ts task).classes) ≡ true → new ≤ j
    lowest j a b =
        elim (or_cases (share (at ts j).classes (take i (at ts task).classes)) (uses (at ts j).classes r) (sym (more (at ts j).classes) ∙ b)) [
          | inl p ↦ (let z = s.lowest j a p in omega arith)
          | inr p ↦ (let z = h.lowest j p in omega (arith, h.is))
        ]

    pick : (x y z : ℕ) → z ≡ min x y → (z ≡ x) ⊎ (z ≡ y)
    pick x y z p = grind arith

    shares : new < task → share (at ts new).classes (take (i + 1) (at ts task).classes) ≡ true
    shares a =
        elim (pick low h.by new (q ∙ ap (λ x. min low (x - 1)) h.is ∙ simp unary_clauses)) [
          | inl p ↦ (let b : low < task = omega arith in
              more (at ts new).classes ∙ or_left _ _ (ap (λ x. share (at ts x).classes (take i (at ts task).classes)) p ∙ s.shares b))
          | inr p ↦ more (at ts new).classes ∙ or_right (share (at ts new).classes (take i (at ts task).classes)) _ (ap (λ x. uses (at ts x).classes r) p ∙ h.used_by)
        ]
