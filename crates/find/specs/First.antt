-- The first index that passes a test. Assumes nothing.
use Rattle.std.specs.Prelude.{◌≡◌, ℕ, zero, suc, ◌<◌, Bool, true, false, cond, Some, None, Option, MatchOption}
use Rattle.std.specs.Option.{option_or, option_map}

-- the first index below n that passes a test
unfoldable pub first : (ℕ → Bool) → ℕ → Option ℕ
first test zero = None
first test (suc n) = option_or (first test n) (cond (test n) (Some n) None)

-- the first pair of indices that passes a test, the first below m and the second below its limit: lowest first, then lowest second
unfoldable pub first_pair : (ℕ → ℕ → Bool) → ℕ → (ℕ → ℕ) → Option (ℕ × ℕ)
first_pair test zero limit = None
first_pair test (suc m) limit = option_or (first_pair test m limit) (option_map (λ j. (m, j)) (first (test m) (limit m)))

-- whatever a closure answers at an index below n, is what the test says
abbrev pub Agrees : (ℕ → Bool → Type 0) → ℕ → (ℕ → Bool) → Type 0
Agrees answers n test = (i : ℕ) (b : Bool) → i < n → answers i b → b ≡ test i

-- What a search says: nothing below n passes, or i does and nothing below it.
abbrev pub Searched : (ℕ → Bool) → ℕ → Option ℕ → Type 0
Searched test n o =
    MatchOption o ((j : ℕ) → j < n → test j ≡ false) (λ i. (i < n) × (test i ≡ true) × ((j : ℕ) → j < i → test j ≡ false))

-- no pair passes whose first index is below m
abbrev pub NoPair : (ℕ → ℕ → Bool) → ℕ → (ℕ → ℕ) → Type 0
NoPair test m limit = (i j : ℕ) → i < m → j < limit i → test i j ≡ false

-- What a search for a pair says: no pair passes, or this one does, and none with a lower first index, or with it and a lower second.
abbrev pub SearchedPair : (ℕ → ℕ → Bool) → ℕ → (ℕ → ℕ) → Option (ℕ × ℕ) → Type 0
SearchedPair test m limit o =
    MatchOption o (NoPair test m limit) (λ p. (p.0 < m) × NoPair test p.0 limit × Searched (test p.0) (limit p.0) (Some p.1))
