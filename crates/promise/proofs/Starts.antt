-- A start that is not refused: no rank is shared by two tasks, and each class whose miss is not tolerated has a bound.
use Rattle.std.proofs.Common.{◌≡◌, ℕ, ◌<◌, Bool, false, ◌≢◌, List, length, None, sym, inl, inr}
use Rattle.std.proofs.lemmas.Bool.{cases_order}
use Rattle.group.specs.Task.{Task, Class, at, terms_of}
use Rattle.bounds.specs.Bound.{Bounded}
use Rattle.bounds.proofs.Checked.{both_clear}
use Rattle.bounds.proofs.Least.{bound_least}
use Rattle.admission.specs.Start.{early_fault, plan_fault, start_fault, Startable}
use Rattle.admission.proofs.Verdict as verdict

-- the start of a group is accepted
pub startable : (started : Bool) (room : ℕ) (ts : List Task) → start_fault started room ts ≡ None → (started ≡ false) × Startable ts
startable started room ts e =
    let a = both_clear (early_fault started room ts) (plan_fault ts) e in
    let q = verdict.early_passed ts started room a.0 in
    (q.0, verdict.startable ts q.2 q.3 a.1)

module _ (ts : List Task) (acc : Startable ts) where
  -- ranks of different tasks differ
  pub apart : (i j : ℕ) → i < length ts → j < length ts → i ≢ j → (c d : ℕ) → Class (at ts i) c → Class (at ts j) d → (terms_of (at ts i) c).rank ≢ (terms_of (at ts j) d).rank
  apart i j l m ne c d x y e = elim (cases_order i j) [
    | inl q ↦ ne q
    | inr (inl lt) ↦ acc.apart i j (record { order = lt; task = m; class = c; other = d; classes = (x, y); same = e })
    | inr (inr lt) ↦ acc.apart j i (record { order = lt; task = l; class = d; other = c; classes = (y, x); same = sym e })
  ]

  -- for each class whose miss is not tolerated some number of ticks is enough
  pub strict : (k c : ℕ) → k < length ts → Class (at ts k) c → (terms_of (at ts k) c).tolerated ≡ false → (R : ℕ) × Bounded ts k c R
  strict k c l x t = let b = acc.strict k c l x t in (b.0, (bound_least ts k c l x b.0 b.1).bounded)
