-- Sums over the numbers below n, tests, and the rounding up.
use Rattle.std.proofs.Common.{◌≡◌, ℕ, zero, suc, ◌+◌, ◌*◌, ◌<◌, ◌≤◌, Bool, true, false, cond, eqb, leb, ◌⊎◌, List, [], ◌∷◌, get_or, refl, inl, inr, not-suc-le-zero, le-div_iff_mul-le, arith}
use Rattle.group.specs.declared.meaning.Terms.{Terms}
use Rattle.group.specs.Task.{Task, no_terms, terms_of}
use Rattle.bounds.specs.Bound.{sum, largest, jobs}
use Rattle.bounds.proofs.Grows.{sum_grows}

pub split_lt : (a b : ℕ) → a < suc b → (a ≡ b) ⊎ (a < b)
split_lt a b h = grind arith

pub sum_lt : (n : ℕ) (f g : ℕ → ℕ) → ((i : ℕ) → i < n → f i ≤ g i) → (k : ℕ) → k < n → f k < g k → sum n f < sum n g
sum_lt zero f g h k kn l = omega arith
sum_lt (suc n) f g h k kn l =
    elim (split_lt k n kn) [
      | inl e ↦
          let a : sum n f ≤ sum n g = sum_grows n f g (λ i k. h i (omega arith)) in
          let b : f n < g n = rw e at l in
          omega arith
      | inr m ↦
          let a : sum n f < sum n g = sum_lt n f g (λ i k. h i (omega arith)) k m l in
          let b : f n ≤ g n = h n (omega arith) in
          omega arith
    ]

-- a test that no number below n passes, or one that does
pub find : (n : ℕ) (f : ℕ → Bool) → ((i : ℕ) → i < n → f i ≡ false) ⊎ ((i : ℕ) × (i < n) × (f i ≡ true))
find zero f = inl (λ i h. absurd (not-suc-le-zero h))
find (suc n) f = step (find n f) (f n) refl
  where
    step : ((i : ℕ) → i < n → f i ≡ false) ⊎ ((i : ℕ) × (i < n) × (f i ≡ true)) → (b : Bool) → f n ≡ b →
        ((i : ℕ) → i < suc n → f i ≡ false) ⊎ ((i : ℕ) × (i < suc n) × (f i ≡ true))
    step r true e = inr (n, omega arith, e)
    step (inl h) false e = inl (λ i l. elim (split_lt i n l) [ inl q ↦ rw q e | inr m ↦ h i m ])
    step (inr w) false e = inr (w.0, omega arith, w.2)

-- one value in a sum set apart
pub sum_apart : (n k b : ℕ) (f : ℕ → ℕ) → sum n (λ i. cond (eqb i k) b (f i)) ≤ b + sum n (λ i. cond (eqb i k) 0 (f i))
sum_apart zero k b f = omega arith
sum_apart (suc n) k b f =
    let ih : sum n (λ i. cond (eqb i k) b (f i)) ≤ b + sum n (λ i. cond (eqb i k) 0 (f i)) = sum_apart n k b f in
    let below : n ≡ k → sum n (λ i. cond (eqb i k) b (f i)) ≤ sum n (λ i. cond (eqb i k) 0 (f i)) =
    λ e. sum_grows n (λ i. cond (eqb i k) b (f i)) (λ i. cond (eqb i k) 0 (f i)) (λ i l. apart i k n b (f i) l e) in
    last n k b (f n) (sum n (λ i. cond (eqb i k) b (f i))) (sum n (λ i. cond (eqb i k) 0 (f i))) ih below
  where
    apart : (i k n b y : ℕ) → i < n → n ≡ k → cond (eqb i k) b y ≤ cond (eqb i k) 0 y
    apart i k n b y l e = grind arith

    last : (n k b y A B : ℕ) → A ≤ b + B → (n ≡ k → A ≤ B) → A + cond (eqb n k) b y ≤ b + (B + cond (eqb n k) 0 y)
    last n k b y A B ih below = grind arith

pub largest_bounds : (p : ℕ) (cs : List Terms) (j : ℕ) →
    cond (leb p (get_or cs j no_terms).rank) (get_or cs j no_terms).budget 0 ≤ largest p cs
largest_bounds p [] j = grind arith
largest_bounds p (c ∷ cs) zero = omega arith
largest_bounds p (c ∷ cs) (suc j) = let ih : cond (leb p (get_or cs j no_terms).rank) (get_or cs j no_terms).budget 0 ≤ largest p cs = largest_bounds p cs j in omega arith

-- the same of a class by its number; class 0 has no budget
pub largest_class : (p : ℕ) (t : Task) (c : ℕ) → cond (leb p (terms_of t c).rank) (terms_of t c).budget 0 ≤ largest p t.classes
largest_class p t zero = grind arith
largest_class p t (suc c) = largest_bounds p t.classes c

-- m releases that are a gap apart within R ticks are at most the jobs of the bound
pub jobs_bound : (g m R : ℕ) → 1 ≤ g → m * g < R + g → m ≤ jobs R g
jobs_bound g m R h k = (le-div_iff_mul-le h).1 (omega arith)

pub few : (m g R : ℕ) → 1 ≤ g → m * g < R + g → m ≤ R
few zero g R h k = omega arith
few (suc m) g R h k = omega (arith, le_mul m g h)
  where
    le_mul : (m g : ℕ) → 1 ≤ g → m ≤ m * g
    le_mul m (suc g) h = omega arith
    le_mul m zero h = omega arith
