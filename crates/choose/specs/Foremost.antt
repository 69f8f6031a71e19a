-- The foremost of some numbered things, by a test of which of two goes ahead. Assumes nothing.
use Rattle.std.specs.Prelude.{◌≡◌, ℕ, zero, suc, ◌<◌, Bool, true, false, cond, List, Some, None, Option, slice_index_or}
use Rattle.std.specs.Cmp.{IsStrictWeakOrder}

-- the newcomer n, if it goes ahead of the one found so far
abbrev pub chosen : (ahead : ℕ → ℕ → Bool) → Option ℕ → ℕ → ℕ
chosen ahead None n = n
chosen ahead (Some b) n = cond (ahead n b) n b

-- of the numbers below n that are present, the first of which none goes ahead
unfoldable pub foremost : (present : ℕ → Bool) (ahead : ℕ → ℕ → Bool) → ℕ → Option ℕ
foremost present ahead zero = None
foremost present ahead (suc n) = cond (present n) (Some (chosen ahead (foremost present ahead n) n)) (foremost present ahead n)

-- what the foremost is: none only where none is present, else one that is present and that no present one goes ahead of
abbrev pub IsForemost : (present : ℕ → Bool) (ahead : ℕ → ℕ → Bool) → ℕ → Option ℕ → Type 0
IsForemost present ahead n None = (j : ℕ) → j < n → present j ≡ false
IsForemost present ahead n (Some r) = (r < n) × (present r ≡ true) × ((j : ℕ) → j < n → present j ≡ true → ahead j r ≡ false)

-- and of several that are level it is the lowest: it goes ahead of every present one before it
abbrev pub IsLowest : (present : ℕ → Bool) (ahead : ℕ → ℕ → Bool) → Option ℕ → Type 0
IsLowest present ahead None = Unit {0}
IsLowest present ahead (Some r) = (j : ℕ) → j < r → present j ≡ true → ahead r j ≡ true

-- the search finds it, whenever the test is an order
abbrev pub ForemostFound : Type 0
ForemostFound = (present : ℕ → Bool) (ahead : ℕ → ℕ → Bool) → IsStrictWeakOrder ahead → (n : ℕ) →
    IsForemost present ahead n (foremost present ahead n) × IsLowest present ahead (foremost present ahead n)

-- does the key at i go ahead of the key at j? An absent one does not, and goes ahead of none
abbrev pub key_ahead : {K : Type 0} → (K → K → Bool) → Option K → Option K → Bool
key_ahead ahead None k = false
key_ahead ahead (Some j) None = false
key_ahead ahead (Some j) (Some k) = ahead j k

abbrev pub goes_ahead : {K : Type 0} → (K → K → Bool) → List (Option K) → (i j : ℕ) → Bool
goes_ahead ahead keys i j = key_ahead ahead (slice_index_or keys i None) (slice_index_or keys j None)

-- the foremost so far and its key, once one more place was looked at
abbrev pub better : {K : Type 0} → (K → K → Bool) → Option (ℕ × K) → (place : ℕ) → Option K → Option (ℕ × K)
better ahead best place None = best
better ahead None place (Some k) = Some (place, k)
better ahead (Some p) place (Some k) = cond (ahead k p.1) (Some (place, k)) (Some p)

-- The test is an order of what is present: it goes one way, and of three no one is passed over.
pub record Orders (present : ℕ → Bool) (ahead : ℕ → ℕ → Bool) : Type 0 where
  pub one_way : (x y : ℕ) → ahead x y ≡ true → ahead y x ≡ false
  pub chain : (x y z : ℕ) → present y ≡ true → ahead x y ≡ false → ahead y z ≡ false → ahead x z ≡ false
