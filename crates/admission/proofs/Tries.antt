-- What a chain of checks answers, each of one number: the first refusal.
use Rattle.std.proofs.Common.{◌≡◌, ℕ, zero, suc, ◌+◌, ◌<◌, Bool, true, false, List, length, Some, None, Ok, Err, Option, Result, MatchBool, IfSome, IsSomeAnd, sym, refl, ap, ◌∙◌, subst, inl, inr, arith}
use Rattle.std.specs.declared.ops.Range.{Range}
use Rattle.std.specs.declared.ops.ControlFlow.{ControlFlow}
use Rattle.std.specs.Result.{IsErrAnd}
use Rattle.std.specs.Option.{option_or, option_map}
use Rattle.std.specs.declared.ops.ControlFlow.TheVariants.{Continue, Break}
use Rattle.std.specs.Iterator.Runs.{SomeRun, IsTryForEachRun, ItemsCountUp, CallKeepsClosure, CallBranches, AllItems, AllItemsBelow}
use Rattle.std.proofs.iter.Yields.{nat_range_steps}
use Rattle.std.proofs.iter.runs.Sources.{range_runs}
use denote.Param.Members.{Mut, Called}
use Rattle.denial.specs.declared.Denial.{Denial}
use Rattle.denial.specs.declared.Rule.TheVariants.{Unbounded}
use Rattle.denial.specs.Numbers.{denied}
use Rattle.denial.specs.Checks.{unless}
use Rattle.std.proofs.lemmas.Bool.{cases_lt}
use Rattle.std.proofs.lemmas.Iterator.Adapters.{option_map_id}
use Rattle.bounds.proofs.Checked.{clear}
use Rattle.find.specs.First.{first, first_pair}
use Rattle.group.specs.Task.{Task, at}
use Rattle.admission.specs.Start.{lacking, unbounded_fault}
use Rattle.admission.specs.Ranks.{classes_fault}
use Rattle.admission.proofs.Verdict.{refused}

-- a pair of k and what was found
abbrev with_first : ℕ → Option ℕ → Option (ℕ × ℕ)
with_first k o = option_map (λ j. let p : ℕ × ℕ = (k, j) in p) o

-- the first fault of the numbers below n
abbrev pub first_fault : (ℕ → Option Denial) → ℕ → Option Denial
first_fault fault zero = None
first_fault fault (suc n) = option_or (first_fault fault n) (fault n)

faults_joined : (k : ℕ) (o : Option (ℕ × ℕ)) (r : Option ℕ)
    → option_or (option_map (λ p. denied Unbounded p.0 (suc p.1)) o) (option_map (λ j. denied Unbounded k (suc j)) r)
    ≡ option_map (λ p. denied Unbounded p.0 (suc p.1)) (option_or o (with_first k r))
faults_joined k None None = refl
faults_joined k None (Some j) = refl
faults_joined k (Some p) r = refl

faults_below : (ts : List Task) (n : ℕ) → first_fault (classes_fault ts) n
    ≡ option_map (λ p. denied Unbounded p.0 (suc p.1)) (first_pair (λ k j. lacking ts k (suc j)) n (λ k. length (at ts k).classes))
unfolding first_pair
faults_below ts zero = refl
faults_below ts (suc n) =
    ap (λ o. option_or o (classes_fault ts n)) (faults_below ts n)
    ∙ faults_joined n (first_pair (λ k j. lacking ts k (suc j)) n (λ k. length (at ts k).classes)) (first (λ j. lacking ts n (suc j)) (length (at ts n).classes))

-- the first task's fault is the first class without a bound
pub tasks_fault : (ts : List Task) → first_fault (classes_fault ts) (length ts) ≡ unbounded_fault ts
tasks_fault ts = faults_below ts (length ts)

no_fault : (fault : ℕ → Option Denial) (n : ℕ) → ((k : ℕ) → k < n → fault k ≡ None) → first_fault fault n ≡ None
no_fault fault zero h = refl
no_fault fault (suc n) h = ap (λ o. option_or o (fault n)) (no_fault fault n (λ k l. h k (omega arith))) ∙ h n (omega arith)

a_fault : (fault : ℕ → Option Denial) (n i : ℕ) (d : Denial) → i < n → fault i ≡ Some d → ((k : ℕ) → k < i → fault k ≡ None) → first_fault fault n ≡ Some d
a_fault fault zero i d l e h = absurd (omega arith)
a_fault fault (suc n) i d l e h = elim (cases_lt i n) [
  | inl m ↦ ap (λ o. option_or o (fault n)) (a_fault fault n i d m e h)
  | inr m ↦ (let q : i ≡ n = omega arith in
      ap (λ o. option_or o (fault n)) (no_fault fault n (λ k j. h k (omega arith))) ∙ ap fault (sym q) ∙ e)
]

-- what `?` makes of a refusal
pub err_is : (r : Result (Unit {0}) Denial) (d : Denial) → IsErrAnd r (λ x. x ≡ d) → r ≡ Err d
err_is (Ok x) d h = absurd h
err_is (Err x) d h = ap Err h

-- Where each call answers by a fault of its number, a chain over the numbers below n answers by the first. `branches` and `resumes`
-- are what `?` does with an answer.
pub tried : {F E : Type 0} {g : Mut F (ℕ × Unit {0}) (Result (Unit {0}) Denial)} {f : F} (branches : Result (Unit {0}) Denial → ControlFlow E (Unit {0}) → Type 0)
    (resumes : E → Result (Unit {0}) Denial → Type 0) (s : Range ℕ) (r : Result (Unit {0}) Denial) → SomeRun nat_range_steps s (λ p. IsTryForEachRun p g f branches resumes r)
    → (n : ℕ) → s ≡ record { start = 0; end = n } → (fault : ℕ → Option Denial)
    → ((x : ℕ) (v : Result (Unit {0}) Denial) (q : F) → Called g f (x, tt) v q → (q ≡ f) × (v ≡ unless (fault x) tt))
    → ((v : Result (Unit {0}) Denial) → branches v (Continue tt) → v ≡ Ok tt)
    → ((v r : Result (Unit {0}) Denial) (e : E) → branches v (Break e) → resumes e r → (d : Denial) × (v ≡ Err d) × (r ≡ Err d))
    → r ≡ unless (first_fault fault n) tt
tried {F} {E} {g} {f} branches resumes s r (p, from, run) n e fault calls goes stops = ended p.whole refl run
  where
    counts : ItemsCountUp p 0 n
    counts = subst (λ (k : Range ℕ). ItemsCountUp p k.start k.end) (from ∙ e) (range_runs p p.seen)

    keeps : CallKeepsClosure g f
    keeps a v q k = (calls a.0 v q k).0

    there : (k : ℕ) → k < p.len → p.at k ≡ Some k
    there k l = let z : 0 + k ≡ k = omega arith in sym (option_map_id (p.at k)) ∙ counts.3 k l ∙ ap Some z

    clean : (k : ℕ) → CallBranches p g f branches (Continue tt) k → fault k ≡ None
    clean k h = clear (fault k) tt tt (sym (goes h.0 h.2) ∙ (calls k h.0 f h.1).1)

    Whole : Type 0
    Whole = branches r (Continue tt) × (CallKeepsClosure g f → AllItems p (CallBranches p g f branches (Continue tt)))

    Cut : Type 0
    Cut = (e : E) × (i : ℕ) × resumes e r × (p.len ≡ i + 1)
        × (CallKeepsClosure g f → IsSomeAnd (p.at i) (CallBranches p g f branches (Break e)) × AllItemsBelow p i (CallBranches p g f branches (Continue tt)))

    ended : (w : Bool) → p.whole ≡ w → MatchBool w Whole Cut → r ≡ unless (first_fault fault n) tt
    ended true w h =
        goes r h.0 ∙ sym (ap (λ o. unless o tt) (no_fault fault n (λ k l. let m : k < p.len = omega (arith, counts.1 w) in
        clean k (subst (λ o. IfSome o (CallBranches p g f branches (Continue tt))) (there k m) (h.1 keeps k)))))
    ended false w (x, i, resumed, last, called) =
        let m : i < p.len = omega arith in
        let k = called keeps in
        let here = subst (λ o. IsSomeAnd o (CallBranches p g f branches (Break x))) (there i m) k.0 in
        let stop = stops here.0 r x here.2 resumed in
        stop.2 ∙ sym (ap (λ o. unless o tt) (a_fault fault n i stop.0 (omega (arith, counts.0)) (refused (fault i) stop.0 (sym (calls i here.0 f here.1).1 ∙ stop.1))
        (λ j l. let t : j < p.len = omega arith in clean j (subst (λ o. IsSomeAnd o (CallBranches p g f branches (Continue tt))) (there j t) (k.1 j l)))))
