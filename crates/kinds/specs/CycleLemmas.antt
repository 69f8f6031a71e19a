-- Sums over successive classes of a cycle: a whole turn is the same from every class, so only the remainder depends on the start.
use Rattle.std.specs.Prelude.{◌≡◌, ℕ, zero, suc, ◌+◌, ◌-◌, ◌*◌, ◌/◌, ◌%◌, ◌<◌, ◌≤◌, max, true, ◌⊎◌}
use Rattle.std.proofs.Common.{sym, ap, ◌∙◌, inl, inr, div-add-mod', arith}
use Rattle.kinds.specs.Cycle.{within, next_class, successive, largest}

pub within_low : (k x : ℕ) → within k x ≡ true → 1 ≤ x
within_low k x h = grind arith

pub within_high : (k x : ℕ) → within k x ≡ true → x ≤ k
within_high k x h = grind arith

pub is_within : (k x : ℕ) → 1 ≤ x → x ≤ k → within k x ≡ true
is_within k x h l = grind arith

-- the class reached
abbrev pub reached : ℕ → ℕ → ℕ → ℕ
reached k x zero = x
reached k x (suc n) = reached k (next_class k x) n

pub next_low : (k x : ℕ) → 1 ≤ next_class k x
next_low k x = grind arith

pub next_high : (k x : ℕ) → 1 ≤ k → next_class k x ≤ k
next_high k x h = grind arith

pub next_within : (k x : ℕ) → 1 ≤ k → within k (next_class k x) ≡ true
next_within k x h = is_within k (next_class k x) (next_low k x) (next_high k x h)

pub next_up : (k x : ℕ) → x < k → next_class k x ≡ x + 1
next_up k x h = grind arith

pub next_round : (k x : ℕ) → k ≤ x → next_class k x ≡ 1
next_round k x h = grind arith

pub reached_low : (k x n : ℕ) → 1 ≤ x → 1 ≤ reached k x n
reached_low k x zero h = h
reached_low k x (suc n) h = reached_low k (next_class k x) n (next_low k x)

pub reached_high : (k x n : ℕ) → 1 ≤ k → x ≤ k → reached k x n ≤ k
reached_high k x zero h l = l
reached_high k x (suc n) h l = reached_high k (next_class k x) n h (next_high k x h)

-- up to the end of the cycle
reached_up : (k x n : ℕ) → x + n ≤ k → reached k x n ≡ x + n
reached_up k x zero h = omega arith
reached_up k x (suc n) h =
    let up : next_class k x ≡ x + 1 = next_up k x (omega arith) in
    ap (λ y. reached k y n) up ∙ (reached_up k (x + 1) n (omega arith) ∙ omega arith)

-- and round it
reached_round : (k x n : ℕ) → x + n ≡ k + 1 → 1 ≤ n → reached k x n ≡ 1
reached_round k x (suc zero) h l = next_round k x (omega arith)
reached_round k x (suc (suc n)) h l =
    let up : next_class k x ≡ x + 1 = next_up k x (omega arith) in
    ap (λ y. reached k y (suc n)) up ∙ reached_round k (x + 1) (suc n) (omega arith) (omega arith)
reached_round k x zero h l = omega arith

pub successive_split : (w : ℕ → ℕ) (k x a b : ℕ) → successive w k x (a + b) ≡ successive w k x a + successive w k (reached k x a) b
successive_split w k x zero b = ap (successive w k x) (none b) ∙ omega arith
  where
    none : (b : ℕ) → 0 + b ≡ b
    none b = omega arith
successive_split w k x (suc a) b =
    ap (successive w k x) (one a b)
    ∙ (let ih : successive w k (next_class k x) (a + b) ≡ successive w k (next_class k x) a + successive w k (reached k (next_class k x) a) b =
    successive_split w k (next_class k x) a b in omega arith)
  where
    one : (a b : ℕ) → suc a + b ≡ suc (a + b)
    one a b = omega arith

-- a whole turn is the same from every class
pub turn : (w : ℕ → ℕ) (k x : ℕ) → 1 ≤ x → x ≤ k → successive w k x k ≡ successive w k 1 k
turn w k x h l =
    let a = k + 1 - x in
    let b = x - 1 in
    let ab : k ≡ a + b = omega arith in
    let ba : k ≡ b + a = omega arith in
    let round : reached k x a ≡ 1 = reached_round k x a (omega arith) (omega arith) in
    let up : reached k 1 b ≡ x = reached_up k 1 b (omega arith) ∙ omega arith in
    let left : successive w k x k ≡ successive w k x a + successive w k 1 b =
    ap (successive w k x) ab ∙ (successive_split w k x a b ∙ ap (λ y. successive w k x a + successive w k y b) round) in
    let right : successive w k 1 k ≡ successive w k 1 b + successive w k x a =
    ap (successive w k 1) ba ∙ (successive_split w k 1 b a ∙ ap (λ y. successive w k 1 b + successive w k y a) up) in
    omega arith

-- a whole turn leads back
pub returned : (k x : ℕ) → 1 ≤ x → x ≤ k → reached k x k ≡ x
returned k x h l =
    let a = k + 1 - x in
    let b = x - 1 in
    let ab : k ≡ a + b = omega arith in
    let round : reached k x a ≡ 1 = reached_round k x a (omega arith) (omega arith) in
    let up : reached k 1 b ≡ x = reached_up k 1 b (omega arith) ∙ omega arith in
    ap (reached k x) ab ∙ (reached_split k x a b ∙ (ap (λ y. reached k y b) round ∙ up))
  where
    reached_split : (k x a b : ℕ) → reached k x (a + b) ≡ reached k (reached k x a) b
    reached_split k x zero b = ap (reached k x) (none b)
      where
        none : (b : ℕ) → 0 + b ≡ b
        none b = omega arith
    reached_split k x (suc a) b = ap (reached k x) (one a b) ∙ reached_split k (next_class k x) a b
      where
        one : (a b : ℕ) → suc a + b ≡ suc (a + b)
        one a b = omega arith

pub turns : (w : ℕ → ℕ) (k x q r : ℕ) → 1 ≤ x → x ≤ k → successive w k x (q * k + r) ≡ q * successive w k 1 k + successive w k x r
turns w k x zero r h l = ap (successive w k x) (none k r) ∙ omega arith
  where
    none : (k r : ℕ) → 0 * k + r ≡ r
    none k r = omega arith
turns w k x (suc q) r h l =
    ap (successive w k x) (one k q r)
    ∙ (successive_split w k x k (q * k + r)
    ∙ (let back : successive w k (reached k x k) (q * k + r) ≡ successive w k x (q * k + r) = ap (λ y. successive w k y (q * k + r)) (returned k x h l) in
    let ih : successive w k x (q * k + r) ≡ q * successive w k 1 k + successive w k x r = turns w k x q r h l in
    omega (arith, turn w k x h l)))
  where
    one : (k q r : ℕ) → suc q * k + r ≡ k + (q * k + r)
    one k q r = omega arith

pub wraps : (w : ℕ → ℕ) (k x N : ℕ) → 1 ≤ x → x ≤ k → successive w k x N ≡ N / k * successive w k 1 k + successive w k x (N % k)
wraps w k x N h l = ap (successive w k x) (sym (div-add-mod' N k)) ∙ turns w k x (N / k) (N % k) h l

-- more classes weigh more
pub successive_grows : (w : ℕ → ℕ) (k x a b : ℕ) → a ≤ b → successive w k x a ≤ successive w k x b
successive_grows w k x zero b h = omega arith
successive_grows w k x (suc a) zero h = omega arith
successive_grows w k x (suc a) (suc b) h =
    let ih : successive w k (next_class k x) a ≤ successive w k (next_class k x) b = successive_grows w k (next_class k x) a b (omega arith) in
    omega arith

-- and so do heavier ones
pub successive_le : (v w : ℕ → ℕ) (k x n : ℕ) → ((x : ℕ) → v x ≤ w x) → successive v k x n ≤ successive w k x n
successive_le v w k x zero h = omega arith
successive_le v w k x (suc n) h =
    let ih : successive v k (next_class k x) n ≤ successive w k (next_class k x) n = successive_le v w k (next_class k x) n h in
    let a : v x ≤ w x = h x in
    omega arith

pub successive_small : (w : ℕ → ℕ) (k x n b : ℕ) → 1 ≤ k → 1 ≤ x → x ≤ k → ((x : ℕ) → 1 ≤ x → x ≤ k → w x ≤ b) → successive w k x n ≤ n * b
successive_small w k x zero b s h l a = omega arith
successive_small w k x (suc n) b s h l a =
    let ih : successive w k (next_class k x) n ≤ n * b = successive_small w k (next_class k x) n b s (next_low k x) (next_high k x s) a in
    let here : w x ≤ b = a x h l in
    omega arith

-- one class on
pub one_on : (w : ℕ → ℕ) (k x n : ℕ) → 1 ≤ n → successive w k x n ≡ w x + successive w k (next_class k x) (n - 1)
one_on w k x zero h = omega arith
one_on w k x (suc n) h = ap (λ m. w x + successive w k (next_class k x) m) (pred n)
  where
    pred : (j : ℕ) → j ≡ suc j - 1
    pred j = omega arith

-- the largest
pub largest_more : (f : ℕ → ℕ) (s : ℕ) → 1 ≤ s → largest (s + 1 - 1) f ≡ max (largest (s - 1) f) (f s)
largest_more f zero h = omega arith
largest_more f (suc s) h = ap (λ n. largest n f) (one s) ∙ ap (λ n. max (largest n f) (f (suc s))) (pred s)
  where
    one : (s : ℕ) → suc s + 1 - 1 ≡ suc s
    one s = omega arith

    pred : (j : ℕ) → j ≡ suc j - 1
    pred j = omega arith

pub largest_at : (k : ℕ) (f : ℕ → ℕ) (x : ℕ) → 1 ≤ x → x ≤ k → f x ≤ largest k f
largest_at zero f x h l = omega arith
largest_at (suc k) f x h l =
    elim (split x k l) [
      | inl e ↦ let a : f x ≡ f (suc k) = ap f e in omega arith
      | inr m ↦ let a : f x ≤ largest k f = largest_at k f x h m in omega arith
    ]
  where
    split : (x k : ℕ) → x ≤ suc k → (x ≡ suc k) ⊎ (x ≤ k)
    split x k h = grind arith

pub largest_le : (k : ℕ) (f g : ℕ → ℕ) → ((x : ℕ) → 1 ≤ x → x ≤ k → f x ≤ g x) → largest k f ≤ largest k g
largest_le zero f g h = omega arith
largest_le (suc k) f g h =
    let a : largest k f ≤ largest k g = largest_le k f g (λ x l m. h x l (omega arith)) in
    let b : f (suc k) ≤ g (suc k) = h (suc k) (omega arith) (omega arith) in
    omega arith

pub largest_under : (k : ℕ) (f : ℕ → ℕ) (b : ℕ) → ((x : ℕ) → 1 ≤ x → x ≤ k → f x ≤ b) → largest k f ≤ b
largest_under zero f b h = omega arith
largest_under (suc k) f b h =
    let a : largest k f ≤ b = largest_under k f b (λ x l m. h x l (omega arith)) in
    let c : f (suc k) ≤ b = h (suc k) (omega arith) (omega arith) in
    omega arith

pub largest_plus : (k : ℕ) (f g : ℕ → ℕ) (c : ℕ) → 1 ≤ k → ((x : ℕ) → 1 ≤ x → x ≤ k → f x ≡ c + g x) → largest k f ≡ c + largest k g
largest_plus zero f g c h e = omega arith
largest_plus (suc zero) f g c h e = let a : f 1 ≡ c + g 1 = e 1 (omega arith) (omega arith) in omega arith
largest_plus (suc (suc k)) f g c h e =
    let a : largest (suc k) f ≡ c + largest (suc k) g = largest_plus (suc k) f g c (omega arith) (λ x l m. e x l (omega arith)) in
    let b : f (suc (suc k)) ≡ c + g (suc (suc k)) = e (suc (suc k)) (omega arith) (omega arith) in
    omega arith

-- some class attains it
pub largest_of : (k : ℕ) (f : ℕ → ℕ) → 1 ≤ k → (x : ℕ) × (1 ≤ x) × (x ≤ k) × (f x ≡ largest k f)
largest_of zero f h = (1, omega arith, omega arith, omega arith)
largest_of (suc zero) f h = (1, omega arith, omega arith, omega arith)
largest_of (suc (suc k)) f h = step (largest_of (suc k) f (omega arith)) (order (largest (suc k) f) (f (suc (suc k))))
  where
    order : (a b : ℕ) → (a ≤ b) ⊎ (b ≤ a)
    order a b = grind arith

    step : ((x : ℕ) × (1 ≤ x) × (x ≤ suc k) × (f x ≡ largest (suc k) f)) → (largest (suc k) f ≤ f (suc (suc k))) ⊎ (f (suc (suc k)) ≤ largest (suc k) f) →
        (x : ℕ) × (1 ≤ x) × (x ≤ suc (suc k)) × (f x ≡ largest (suc (suc k)) f)
    step w (inl l) = (suc (suc k), omega arith, omega arith, omega arith)
    step w (inr l) = let e = w.3 in let b = w.2 in (w.0, w.1, omega arith, omega arith)
