-- Going round the classes 1 to k. Assumes nothing.
use Rattle.std.specs.Prelude.{ℕ, zero, suc, ◌+◌, max, Bool, false, cond, nat_le, nat_lt}

-- x is one of the classes 1 to k
abbrev pub within : ℕ → ℕ → Bool
within k x = cond (nat_le 1 x) (nat_le x k) false

-- the class after x, and after the last the first
abbrev pub next_class : ℕ → ℕ → ℕ
next_class k x = cond (nat_lt x k) (x + 1) 1

-- the weights of n successive classes, from x on
abbrev pub successive : (ℕ → ℕ) → ℕ → ℕ → ℕ → ℕ
successive w k x zero = 0
successive w k x (suc n) = w x + successive w k (next_class k x) n

-- the largest of f 1 to f k
abbrev pub largest : ℕ → (ℕ → ℕ) → ℕ
largest zero f = 0
largest (suc k) f = max (largest k f) (f (suc k))
