-- How often a succession of jobs of a miss-counted task can be in the top classes.
use Rattle.std.specs.Prelude.{◌≡◌, ℕ, suc, ◌+◌, ◌-◌, ◌≤◌, min, max, Bool, true, false, cond, List, [], ◌∷◌, length, nat_lt, refl}
use Rattle.std.proofs.Common.{arith}
use Rattle.group.specs.declared.meaning.Outcome.{Outcome}
use Rattle.group.specs.declared.meaning.Outcome.TheVariants.{Finish, Miss}
use Rattle.group.specs.Task.{along}
use Rattle.plate.specs.Rows.{Counted}
use Rattle.kinds.specs.Cycle.{next_class}
use Rattle.kinds.specs.MissCounted.{counted_task}

-- one for a class past u, none up to u
abbrev pub top : ℕ → ℕ → ℕ
top u x = cond (nat_lt u x) 1 0

-- one job more, from which the task is back in class 1
back : (u x k l a : ℕ) → 1 ≤ x → x ≤ k → u ≤ k → a ≤ max (min (k - u) (k + 1 - 1)) (l - u) → a ≤ l - (u + 1 - 1) →
    cond (nat_lt u x) 1 0 + a ≤ max (min (k - u) (k + 1 - x)) (suc l - u)
back u x k l a h g j ih cl = grind arith

module _ (c : Counted) where
  -- below the top classes each job leads at most one class up, so the first u + 1 - x jobs from x on count nothing
  pub climb : (u x : ℕ) (os : List Outcome) → along (counted_task c) (top u) x os ≤ length os - (u + 1 - x)
  climb u x [] = omega arith
  climb u x (Finish ∷ os) =
      let ih : along (counted_task c) (top u) 1 os ≤ length os - (u + 1 - 1) = climb u 1 os in
      step u x (length os) (along (counted_task c) (top u) 1 os) ih
    where
      step : (u x l a : ℕ) → a ≤ l - (u + 1 - 1) → cond (nat_lt u x) 1 0 + a ≤ suc l - (u + 1 - x)
      step u x l a h = grind arith
  climb u x (Miss ∷ os) =
      let y = next_class (length c.ranks) x in
      let ih : along (counted_task c) (top u) y os ≤ length os - (u + 1 - y) = climb u y os in
      step u x (length c.ranks) (length os) (along (counted_task c) (top u) y os) ih
    where
      step : (u x k l a : ℕ) → a ≤ l - (u + 1 - cond (nat_lt x k) (x + 1) 1) → cond (nat_lt u x) 1 0 + a ≤ suc l - (u + 1 - x)
      step u x k l a h = grind arith

  -- From any class x, a succession of l jobs holds at most max (min (k - u) (k + 1 - x)) (l - u) in the top k - u of k classes:
  -- whoever leaves the top classes has u others to climb before the next top one.
  pub window : (u x : ℕ) (os : List Outcome) → 1 ≤ x → x ≤ length c.ranks → u ≤ length c.ranks →
      along (counted_task c) (top u) x os ≤ max (min (length c.ranks - u) (length c.ranks + 1 - x)) (length os - u)
  window u x [] h l j = omega arith
  window u x (Finish ∷ os) h l j =
      let k = length c.ranks in
      let ih : along (counted_task c) (top u) 1 os ≤ max (min (k - u) (k + 1 - 1)) (length os - u) = window u 1 os (omega arith) (omega arith) j in
      back u x k (length os) (along (counted_task c) (top u) 1 os) h l j ih (climb u 1 os)
  window u x (Miss ∷ os) h l j = by (λ y g m. window u y os g m j) (nat_lt x (length c.ranks)) refl
    where
      onward : (u x k l a : ℕ) → 1 ≤ x → nat_lt x k ≡ true → u ≤ k → a ≤ max (min (k - u) (k + 1 - (x + 1))) (l - u) →
          cond (nat_lt u x) 1 0 + a ≤ max (min (k - u) (k + 1 - x)) (suc l - u)
      onward u x k l a h g j ih = grind arith

      tell : (x k : ℕ) → nat_lt x k ≡ true → x + 1 ≤ k
      tell x k e = grind arith

      by : ((y : ℕ) → 1 ≤ y → y ≤ length c.ranks → along (counted_task c) (top u) y os ≤ max (min (length c.ranks - u) (length c.ranks + 1 - y)) (length os - u)) →
          (b : Bool) → nat_lt x (length c.ranks) ≡ b →
          cond (nat_lt u x) 1 0 + along (counted_task c) (top u) (cond b (x + 1) 1) os ≤ max (min (length c.ranks - u) (length c.ranks + 1 - x)) (suc (length os) - u)
      by ih true e =
          onward u x (length c.ranks) (length os) (along (counted_task c) (top u) (x + 1) os) h e j
          (ih (x + 1) (omega arith) (tell x (length c.ranks) e))
      by ih false e =
          back u x (length c.ranks) (length os) (along (counted_task c) (top u) 1 os) h l j (ih 1 (omega arith) (omega arith)) (climb u 1 os)
