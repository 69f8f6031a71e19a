-- What is so where a check refuses nothing.
use Rattle.std.proofs.Common.{◌≡◌, ℕ, ◌<◌, ◌≤◌, Bool, true, false, ◌||◌, eqb, ltb, List, length, Some, None, Ok, Option, Result, refl, arith}
use Rattle.std.specs.Option.{option_or}
use Rattle.std.proofs.lemmas.Bool.{leb-false}
use Rattle.denial.specs.declared.Denial.{Denial}
use Rattle.denial.specs.Checks.{when, unless}
use Rattle.group.specs.Task.{Task, Class, at}
use Rattle.bounds.specs.Bound.{count_fault, task_fault, class_fault}

-- an answer that is no refusal comes from no fault
pub clear : {A : Type 0} (f : Option Denial) (x y : A) → ◌≡◌ {A = Result A Denial} (Ok y) (unless f x) → f ≡ None
clear None x y e = refl
clear (Some d) x y e = absurd (let z : ◌≡◌ {A = ℕ} 0 1 = cc in omega arith)

-- of two checks in a row neither finds a fault
pub both_clear : (f h : Option Denial) → option_or f h ≡ None → (f ≡ None) × (h ≡ None)
both_clear None h e = (refl, e)
both_clear (Some d) h e = absurd (let z : ◌≡◌ {A = ℕ} 0 1 = cc in omega arith)

-- and a test did not pass
pub when_clear : (b : Bool) (d : Denial) → when b d ≡ None → b ≡ false
when_clear false d e = refl
when_clear true d e = absurd (let z : ◌≡◌ {A = ℕ} 0 1 = cc in omega arith)

outside : (a n : ℕ) (m : ℕ) → (eqb a m || ltb n a) ≡ false → a ≤ n
outside a n m e = grind arith

nonzero : (a n : ℕ) → (eqb a 0 || ltb n a) ≡ false → 1 ≤ a
nonzero a n e = grind arith

pub count_clear : (ts : List Task) → count_fault ts ≡ None → (1 ≤ length ts) × (length ts ≤ 64)
count_clear ts e = let b = when_clear _ _ e in (nonzero (length ts) 64 b, few (length ts) b)
  where
    few : (n : ℕ) → (eqb n 0 || ltb 64 n) ≡ false → n ≤ 64
    few n b = grind arith

pub task_clear : (ts : List Task) (k : ℕ) → task_fault ts k ≡ None → (1 ≤ length ts) × (length ts ≤ 64) × (k < length ts)
task_clear ts k e =
    let p = both_clear (count_fault ts) _ e in
    let q = count_clear ts p.0 in
    (q.0, q.1, leb-false (length ts) k (when_clear _ _ p.1))

pub class_clear : (ts : List Task) (k c : ℕ) → class_fault ts k c ≡ None → (k < length ts) × Class (at ts k) c
class_clear ts k c e =
    let p = both_clear (task_fault ts k) _ e in
    let b = when_clear _ _ p.1 in
    let n = length (at ts k).classes in
    ((task_clear ts k p.0).2, (nonzero c n b, outside c n 0 b))
