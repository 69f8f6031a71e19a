-- Numbers in digits.
use Rattle.std.proofs.Common.{ℕ, ◌^◌, ◌<◌, ◌≤◌, length, decimal, arith}
use Rattle.std.proofs.lemmas.Fmt.{length-decimal-le}

-- a number below 10 to the k has at most k digits
pub digits_le : (k n : ℕ) → 0 < k → n < 10 ^ k → n < 2 ^ 16 → length (decimal n) ≤ k
digits_le k n some h f = length-decimal-le k n some h (omega arith)
