-- What it means that nothing is at fault.
use Rattle.std.proofs.Common.{◌≡◌, ℕ, zero, suc, ◌<◌, Bool, true, false, cond, ◌||◌, eqb, ltb, IfNone, Some, None, Ok, Err, Option, refl, inl, inr, arith}
use Rattle.std.specs.Option.{option_or, option_map}
use Rattle.std.proofs.lemmas.Bool.{cases_order, or_parts, or_from, ltb-false, eqb-false, le-ltb, ne_eqb}
use Rattle.denial.specs.declared.Denial.{Denial}
use Rattle.denial.specs.Checks.{when, unless}
use Rattle.find.specs.First.{first}
use Rattle.plate.specs.Plans.{Within}

pub or_none : {A : Type 0} (a b : Option A) → option_or a b ≡ None → (a ≡ None) × (b ≡ None)
or_none None b e = (refl, e)
or_none (Some x) b e = let z : ◌≡◌ {A = ℕ} 0 1 = cc in absurd (omega arith)

pub when_none : (t : Bool) (d : Denial) → when t d ≡ None → t ≡ false
when_none true d e = let z : ◌≡◌ {A = ℕ} 0 1 = cc in absurd (omega arith)
when_none false d e = refl

pub mapped_none : {A B : Type 0} (f : A → B) (o : Option A) → option_map f o ≡ None → o ≡ None
mapped_none f None e = refl
mapped_none f (Some x) e = let z : ◌≡◌ {A = ℕ} 0 1 = cc in absurd (omega arith)

-- the tests below n all fail, and the other way round
pub first_all : (f : ℕ → Bool) (n : ℕ) → first f n ≡ None → (i : ℕ) → i < n → f i ≡ false
unfolding first
first_all f zero e i l = absurd (omega arith)
first_all f (suc n) e i l =
    let both = or_none (first f n) (cond (f n) (Some n) None) e in
    elim (cases_order i n) [
      | inl q ↦ rw q (last (f n) both.1)
      | inr (inl q) ↦ first_all f n both.0 i q
      | inr (inr q) ↦ absurd (omega arith)
    ]
  where
    last : (t : Bool) → cond t (Some n) None ≡ None → t ≡ false
    last true w = let z : ◌≡◌ {A = ℕ} 0 1 = cc in absurd (omega arith)
    last false w = refl

pub all_first : (f : ℕ → Bool) (n : ℕ) → ((i : ℕ) → i < n → f i ≡ false) → first f n ≡ None
unfolding first
all_first f zero h = refl
all_first f (suc n) h = rw (all_first f n (λ i l. h i (omega arith)), h n (omega arith))

-- a number from 1 to high, by the test for it, and the other way round
pub ranged : (n high : ℕ) → (eqb n 0 || ltb high n) ≡ false → Within 1 high n
ranged n high e =
    let both = or_parts (eqb n 0) (ltb high n) e in
    let a = eqb-false n 0 both.0 in
    (omega arith, ltb-false high n both.1)

pub in_range : (n high : ℕ) → Within 1 high n → (eqb n 0 || ltb high n) ≡ false
in_range n high w = or_from (eqb n 0) (ltb high n) (ne_eqb n 0 (omega arith)) (le-ltb high n w.1)

-- what follows where there is no fault
pub unless_some : (o : Option Denial) (P : Type 0) → (o ≡ None → P) → IfNone o P
unless_some None P h = h refl
unless_some (Some d) P h = tt

-- a value came, so there was no fault
pub unless_ok : {A : Type 0} (o : Option Denial) (x h : A) → Ok h ≡ unless o x → (o ≡ None) × (h ≡ x)
unless_ok None x h e = (refl, cc)
unless_ok (Some d) x h e = let z : ◌≡◌ {A = ℕ} 0 1 = cc in absurd (omega arith)

-- a fault came, so there was one
pub unless_err : {A : Type 0} (o : Option Denial) (x : A) (d : Denial) → Err d ≡ unless o x → o ≡ Some d
unless_err None x d e = let z : ◌≡◌ {A = ℕ} 0 1 = cc in absurd (omega arith)
unless_err (Some c) x d e = cc
