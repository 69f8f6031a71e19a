-- What the sheet of a plan's tasks tells, and how long it is.
use Rattle.std.proofs.Common.{◌≡◌, ℕ, zero, suc, ◌+◌, ◌*◌, ◌<◌, ◌≤◌, min, List, [], ◌∷◌, ◌++◌, length, Some, None, codes, Option, refl, ap, ◌∙◌, inl, inr, arith, lit<}
use Rattle.std.proofs.lemmas.List.{append_assoc, length-append}
use Rattle.std.proofs.lemmas.Bool.{cases_lt}
use Rattle.denial.specs.declared.Denial.{Denial}
use Rattle.group.specs.Task.{Task, Class, Lawful, at}
use Rattle.bounds.specs.Bound.{bound, sum, SaysBound}
use Rattle.admission.specs.Start.{plan_fault, Startable}
use Rattle.bounds.proofs.Least.{bound_says}
use Rattle.admission.proofs.Verdict.{startable, plan_clear}
use Rattle.printed.specs.Text.{texts}
use Rattle.printed.specs.Lines.{heading, line_of, line_text, class_text, task_lines, all_lines, verdict_line}
use Rattle.printed.specs.Sheet.{FewTasks}
use Rattle.printed.specs.Told.{newlines, HasLine, EndsIn, classes_below, Tells}
use Rattle.printed.proofs.Faults.{WhenSome, SmallDenial, fault_small}
use Rattle.printed.proofs.Newlines.{newlines-++, newlines_texts, Ended, ended_texts, ended_some, sum_ones, one_of, ALine}
use Rattle.printed.proofs.Numbers.{digits_le}
use Rattle.printed.proofs.Small.{Small, SmallBound, small_line, line_short}
use Rattle.printed.proofs.Verdicts.{verdict_ends, verdict_short, not_accepted}

-- a line behind others
stands : (before line rest text : List ℕ) (n : ℕ) → Ended before → newlines before ≡ n → text ≡ before ++ (line ++ rest) → HasLine n line text
stands before line rest text n e count is =
    let last = newlines-++ e.0 (10 ∷ []) in (
      e.0,
      rest,
      is ∙ ap (λ t. t ++ (line ++ rest)) e.1 ∙ append_assoc e.0 (10 ∷ []) (line ++ rest),
      omega (arith, ap newlines e.1),
    )

ends : (before line text : List ℕ) → Ended before → text ≡ before ++ line → EndsIn line text
ends before line text e is = (e.0, is ∙ ap (λ t. t ++ line) e.1 ∙ append_assoc e.0 (10 ∷ []) line)

-- one of the lines f that make up one of the texts g, behind a heading
finds : (head : List ℕ) (g f : ℕ → List ℕ) (count : ℕ → ℕ) (k m j n : ℕ) (rest : List ℕ) → ALine head → k < m → j < n
    → ((i : ℕ) → i < m → Ended (g i)) → ((i : ℕ) → i < m → newlines (g i) ≡ count i) → ((i : ℕ) → i < n → ALine (f i)) → g k ≡ texts f n
    → HasLine (sum k count + suc j) (f j) ((head ++ texts g m) ++ rest)
finds head g f count k m j n rest e l h eg ng ef is =
    let a = one_of g k m l in
    let b = one_of f j n h in
    let before = ended_texts (head ++ texts g k) f j (ended_texts head g k e.ended (λ i q. eg i (omega arith))) (λ i q. (ef i (omega arith)).ended) in
    let above = newlines_texts g count k (λ i q. ng i (omega arith)) in
    let own = newlines_texts f (λ _. 1) j (λ i q. (ef i (omega arith)).once) ∙ sum_ones j in
    let all : newlines ((head ++ texts g k) ++ texts f j) ≡ sum k count + suc j =
    omega (arith, newlines-++ (head ++ texts g k) (texts f j), newlines-++ head (texts g k), e.once) in
    stands ((head ++ texts g k) ++ texts f j) (f j) (b.0 ++ (a.0 ++ rest)) _ _ before all (rw (a.1, is, b.1) (simp append_assoc))

-- texts of at most b bytes each
texts_le : (f : ℕ → List ℕ) (b n : ℕ) → ((j : ℕ) → j < n → length (f j) ≤ b) → length (texts f n) ≤ n * b
texts_le f b zero h = omega arith
texts_le f b (suc n) h =
    omega (arith, length-append (texts f n) (f n), texts_le f b n (λ j l. h j (omega arith)), h n (omega arith))

bound_small : (ts : List Task) (k c : ℕ) (o : Option ℕ) → (at ts k).gap ≤ 4095 → SaysBound ts k c o → SmallBound o
bound_small ts k c None g s = tt
bound_small ts k c (Some R) g s = omega (arith, s.0.bounded.high)

-- of few tasks that keep their laws
module _ (ts : List Task) (few : FewTasks ts) (lawful : (k : ℕ) → k < length ts → Lawful (at ts k)) where
  small : (k c : ℕ) → k < length ts → Class (at ts k) c → Small (line_of ts k c)
  small k c l q =
      let law = lawful k l in
      let gap = law.gap_high in
      record {
        task = omega (arith, few.1);
        class = omega (arith, q.1, law.classes_high);
        rank = law.rank_high c q;
        budget = omega (arith, law.budget_high c q);
        bound = bound_small ts k c (bound ts k c) gap (bound_says ts lawful k c l q);
      }

  of_class : (k j : ℕ) → j < length (at ts k).classes → Class (at ts k) (suc j)
  of_class k j h = (omega arith, omega arith)

  class_ends : (k : ℕ) → k < length ts → (j : ℕ) → j < length (at ts k).classes → ALine (class_text ts k j)
  class_ends k l j h = small_line (line_of ts k (suc j)) (small k (suc j) l (of_class k j h))

  task_ended : (k : ℕ) → k < length ts → Ended (task_lines ts k)
  task_ended k l =
      ended_some (class_text ts k) (length (at ts k).classes) (lawful k l).classes_low (λ j h. (class_ends k l j h).ended)

  task_count : (k : ℕ) → k < length ts → newlines (task_lines ts k) ≡ length (at ts k).classes
  task_count k l =
      newlines_texts (class_text ts k) (λ _. 1) (length (at ts k).classes) (λ j h. (class_ends k l j h).once)
      ∙ sum_ones (length (at ts k).classes)

  heading_ends : ALine heading
  heading_ends = record { once = refl; ended = (codes "task class rank budget bound", refl) }

  front_ended : Ended (heading ++ all_lines ts)
  front_ended = ended_texts heading (task_lines ts) (length ts) heading_ends.ended task_ended

  abbrev text : List ℕ
  text = (heading ++ all_lines ts) ++ verdict_line (plan_fault ts)

  classes : (k c : ℕ) → k < length ts → Class (at ts k) c → HasLine (classes_below ts k + c) (line_text (line_of ts k c)) text
  classes k zero l q = absurd (omega (arith, q.0))
  classes k (suc j) l q =
      finds heading (task_lines ts) (class_text ts k) (λ i. length (at ts i).classes) k (length ts) j (length (at ts k).classes)
      (verdict_line (plan_fault ts)) heading_ends l (omega (arith, q.1)) task_ended task_count (class_ends k l) refl

  ends_accepted : Startable ts → EndsIn (codes "accepted\n") text
  ends_accepted s = ends (heading ++ all_lines ts) (codes "accepted\n") text front_ended (ap (λ o. (heading ++ all_lines ts) ++ verdict_line o) (plan_clear ts s))

  accepted : (o : Option Denial) → WhenSome o SmallDenial → EndsIn (codes "accepted\n") ((heading ++ all_lines ts) ++ verdict_line o) → o ≡ None
  accepted None h e = refl
  accepted (Some d) h e = absurd (not_accepted (heading ++ all_lines ts) d (omega (arith, h.second)) e)

  fault : WhenSome (plan_fault ts) SmallDenial
  fault = fault_small ts few lawful

  lines : newlines text ≡ 2 + classes_below ts (length ts)
  lines =
      let all = newlines_texts (task_lines ts) (λ k. length (at ts k).classes) (length ts) task_count in
      let last = verdict_ends (plan_fault ts) fault in
      newlines-++ (heading ++ all_lines ts) (verdict_line (plan_fault ts))
      ∙ omega (arith, newlines-++ heading (all_lines ts), last.once)

  pub tells : Tells ts text
  tells = record { classes = classes; bounds = bound_says ts lawful; lines = lines; startable = ends_accepted; accepted = λ e. startable ts few.0 (omega (arith, few.1)) (accepted (plan_fault ts) fault e) }

  task_short : (k : ℕ) → k < length ts → (length (task_lines ts k) ≤ 152) × (k < 10 → length (task_lines ts k) ≤ 144)
  task_short k l =
      let n = (lawful k l).classes_high in
      let each = λ (j : ℕ) (h : j < length (at ts k).classes). line_short (line_of ts k (suc j)) (small k (suc j) l (of_class k j h)) in
      let two = digits_le 2 k (lit< tt) (omega (arith, few.1)) (omega (arith, few.1)) in
      let f = class_text ts k in (
        omega (arith, texts_le f 19 (length (at ts k).classes) (λ j h. omega (arith, each j h))),
        λ h. (let one = digits_le 1 k (lit< tt) (omega arith) (omega arith) in omega (arith, texts_le f 18 (length (at ts k).classes) (λ j q. omega (arith, each j q)))),
      )

  all_short : (m : ℕ) → m ≤ length ts → length (texts (task_lines ts) m) + 8 * min m 10 ≤ 152 * m
  all_short zero l = omega arith
  all_short (suc m) l =
      let before = all_short m (omega arith) in
      let more = task_short m (omega arith) in
      let size = length-append (texts (task_lines ts) m) (task_lines ts m) in
      elim (cases_lt m 10) [ inl h ↦ omega (arith, more.1 h) | inr h ↦ omega (arith, more.0) ]

  pub text_short : length text ≤ 4830
  text_short =
      let all = all_short (length ts) (omega arith) in
      let last = verdict_short (plan_fault ts) fault in
      let size = length-append (all_lines ts) (verdict_line (plan_fault ts)) in
      omega (arith, few.1)
