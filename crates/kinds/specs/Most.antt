-- The most of N jobs in a row that are in the top n of k classes: how it grows.
use Rattle.std.specs.Prelude.{◌≡◌, ℕ, ◌+◌, ◌*◌, ◌/◌, ◌%◌, ◌<◌, ◌≤◌, min, ◌⊎◌}
use Rattle.std.proofs.Common.{ap, inl, inr, mod-lt, div-add-mod', mul-le-mul_left, mul-le-mul_right, arith}
use Rattle.kinds.specs.MissCounted.{most}

order : (a b : ℕ) → (a < b) ⊎ ((a ≡ b) ⊎ (b < a))
order a b = grind arith

-- a quotient and a remainder are compared like digits
digits : (k n q r q' r' : ℕ) → r < k → r' < k → q * k + r ≤ q' * k + r' → q * n + min r n ≤ q' * n + min r' n
digits k n q r q' r' h h' le =
    elim (order q q') [
      | inl l ↦ let a : (q + 1) * n ≤ q' * n = mul-le-mul_right n (omega arith) in omega arith
      | inr (inl e) ↦ let a : q * k ≡ q' * k = ap (λ z. z * k) e in let b : q * n ≡ q' * n = ap (λ z. z * n) e in omega arith
      | inr (inr l) ↦ let a : (q' + 1) * k ≤ q * k = mul-le-mul_right k (omega arith) in omega arith
    ]

pub most_grows : (k n M N : ℕ) → 1 ≤ k → M ≤ N → most k n M ≤ most k n N
most_grows k n M N h le =
    digits k n (M / k) (M % k) (N / k) (N % k) (mod-lt M h) (mod-lt N h) (omega (arith, div-add-mod' M k, div-add-mod' N k))

pub most_wider : (k n n' N : ℕ) → n ≤ n' → most k n N ≤ most k n' N
most_wider k n n' N h = let a : N / k * n ≤ N / k * n' = mul-le-mul_left (N / k) h in omega arith

pub most_few : (k n N : ℕ) → n ≤ k → most k n N ≤ N
most_few k n N h = let a : N / k * n ≤ N / k * k = mul-le-mul_left (N / k) h in omega (arith, div-add-mod' N k)
