-- Sums along successions of outcomes, for any task.
use Rattle.std.proofs.Common.{◌≡◌, ℕ, zero, suc, ◌+◌, ◌*◌, ◌/◌, ◌%◌, ◌<◌, ◌≤◌, List, [], ◌∷◌, length, take, drop, sym, mod-lt, div-add-mod', mul-add, arith, length-drop, length-take}
use Rattle.group.specs.declared.meaning.Outcome.{Outcome}
use Rattle.group.specs.Task.{Task, Position, after, along}

-- the moves lead from positions to positions
abbrev pub Moves : Task → Type 0
Moves t = (x : ℕ) (o : Outcome) → Position t x → Position t (after t o x)

-- where a succession leads
abbrev pub arrive : Task → ℕ → List Outcome → ℕ
arrive t x [] = x
arrive t x (o ∷ os) = arrive t (after t o x) os

pub arrives : (t : Task) → Moves t → (x : ℕ) (os : List Outcome) → Position t x → Position t (arrive t x os)
arrives t mv x [] p = p
arrives t mv x (o ∷ os) p = arrives t mv (after t o x) os (mv x o p)

-- smaller weights, smaller sums
pub along_le : (t : Task) → Moves t → (v w : ℕ → ℕ) → ((x : ℕ) → Position t x → v (t.class_at x) ≤ w (t.class_at x)) →
    (x : ℕ) (os : List Outcome) → Position t x → along t v x os ≤ along t w x os
along_le t mv v w h x [] p = omega arith
along_le t mv v w h x (o ∷ os) p =
    let a : along t v (after t o x) os ≤ along t w (after t o x) os = along_le t mv v w h (after t o x) os (mv x o p) in
    let b : v (t.class_at x) ≤ w (t.class_at x) = h x p in
    omega arith

pub along_scaled : (t : Task) (C : ℕ) (v : ℕ → ℕ) (x : ℕ) (os : List Outcome) → along t (λ c. C * v c) x os ≡ C * along t v x os
along_scaled t C v x [] = omega arith
along_scaled t C v x (o ∷ os) =
    let ih : along t (λ c. C * v c) (after t o x) os ≡ C * along t v (after t o x) os = along_scaled t C v (after t o x) os in
    omega (arith, mul-add C (v (t.class_at x)) (along t v (after t o x) os))

-- a succession is its first k jobs and then the rest
pub along_split : (t : Task) (w : ℕ → ℕ) (k x : ℕ) (os : List Outcome) →
    along t w x os ≡ along t w x (take k os) + along t w (arrive t x (take k os)) (drop k os)
along_split t w zero x os = omega arith
along_split t w (suc k) x [] = omega arith
along_split t w (suc k) x (o ∷ os) =
    let ih : along t w (after t o x) os ≡ along t w (after t o x) (take k os) + along t w (arrive t (after t o x) (take k os)) (drop k os) = along_split t w k (after t o x) os in
    omega arith

-- If any k jobs in a row weigh at most T, and any r < k at most R r, then any q * k + r weigh at most q * T + R r.
module _ (t : Task) (mv : Moves t) (w : ℕ → ℕ) (k T : ℕ) (R : ℕ → ℕ)
    (whole : (x : ℕ) (os : List Outcome) → Position t x → length os ≡ k → along t w x os ≤ T)
    (part : (x : ℕ) (os : List Outcome) → Position t x → length os < k → along t w x os ≤ R (length os)) where
  pub turns : (q r x : ℕ) (os : List Outcome) → Position t x → r < k → length os ≡ q * k + r → along t w x os ≤ q * T + R r
  turns zero r x os p h e =
      let same : length os ≡ r = omega arith in
      let a : along t w x os ≤ R r = rw same at (part x os p (omega arith)) in
      omega arith
  turns (suc q) r x os p h e =
      let more : k ≤ length os = omega arith in
      let first : length (take k os) ≡ k = omega (arith, length-take k os) in
      let rest : length (drop k os) ≡ q * k + r = omega (arith, length-drop k os) in
      let a : along t w x (take k os) ≤ T = whole x (take k os) p first in
      let b : along t w (arrive t x (take k os)) (drop k os) ≤ q * T + R r =
      turns q r (arrive t x (take k os)) (drop k os) (arrives t mv x (take k os) p) h rest in
      omega (arith, along_split t w k x os)

  pub rounds : 1 ≤ k → (x : ℕ) (os : List Outcome) → Position t x → along t w x os ≤ length os / k * T + R (length os % k)
  rounds h x os p = turns (length os / k) (length os % k) x os p (mod-lt (length os) h) (sym (div-add-mod' (length os) k))
