-- Where the steps towards a bound begin, and what each of them counts.
use Rattle.std.proofs.Common.{◌≡◌, ℕ, zero, suc, ◌+◌, ◌≤◌, ◌<◌, max, Bool, true, false, cond, leb, nat_le, List, [], ◌∷◌, length, get_or, Some, None, refl, ap, arith}
use Rattle.std.specs.Bool.{then_some}
use Rattle.std.proofs.lemmas.Bool.{leb-true, leb-false}
use Rattle.group.specs.declared.meaning.Terms.{Terms}
use Rattle.group.specs.Task.{Task, Class, Lawful, at, terms_of, no_terms}
use Rattle.bounds.specs.Bound.{largest, sum, request, workload}
use Rattle.bounds.proofs.Grows.{weight}

-- a class ranked as high counts
pub largest_has : (p : ℕ) (cs : List Terms) (i : ℕ) → i < length cs → p ≤ (get_or cs i no_terms).rank → (get_or cs i no_terms).budget ≤ largest p cs
largest_has p [] i l h = absurd (omega arith)
largest_has p (c ∷ cs) zero l h = first c.rank c.budget (largest p cs) h
  where
    first : (r b m : ℕ) → p ≤ r → b ≤ max (cond (leb p r) b 0) m
    first r b m h = grind arith
largest_has p (c ∷ cs) (suc i) l h = rest (weight p c) (largest p cs) (get_or cs i no_terms).budget (largest_has p cs i (omega arith) h)
  where
    rest : (w m b : ℕ) → b ≤ m → b ≤ max w m
    rest w m b h = grind arith

-- and no more than the largest
pub largest_under : (p m : ℕ) (cs : List Terms) → ((i : ℕ) → i < length cs → (get_or cs i no_terms).budget ≤ m) → largest p cs ≤ m
largest_under p m [] h = omega arith
largest_under p m (c ∷ cs) h = both c.rank c.budget (largest p cs) (h 0 (omega arith)) (largest_under p m cs (λ i l. h (suc i) (omega arith)))
  where
    both : (r b x : ℕ) → b ≤ m → x ≤ m → max (cond (leb p r) b 0) x ≤ m
    both r b x l k = grind arith

-- a job of the task itself takes at least one tick
pub own_low : (t : Task) → Lawful t → (c p own : ℕ) → Class t c → p ≡ (terms_of t c).rank → own ≡ largest p t.classes → 1 ≤ own
own_low t l zero p own h q e = absurd (omega arith)
own_low t l (suc i) p own h q e = omega (arith, l.budget_low (suc i) h, largest_has p t.classes i (omega arith) (omega arith))

-- and at most the gap
pub own_high : (t : Task) → Lawful t → (p own : ℕ) → own ≡ largest p t.classes → own ≤ t.gap
own_high t l p own e = rw e (largest_under p t.gap t.classes (λ i h. l.budget_high (suc i) (omega arith, omega arith)))

-- the two parts of a workload, as the code adds them
pub worked : (ts : List Task) (k c R p own rest : ℕ) → p ≡ (terms_of (at ts k) c).rank → own ≡ largest p (at ts k).classes
    → rest ≡ sum (length ts) (request ts k R p) → own + rest ≡ workload ts k c R
worked ts k c R p own rest e o r =
    let s = ap (λ x. largest x (at ts k).classes + sum (length ts) (request ts k R x)) e in
    omega arith

-- what it says that the gap has as many ticks as are asked for, or has not
pub within : (work gap more : ℕ) → Some more ≡ then_some (nat_le work gap) work → (more ≡ work) × (work ≤ gap)
within work gap more e = at_test (nat_le work gap) refl e
  where
    at_test : (b : Bool) → nat_le work gap ≡ b → Some more ≡ then_some b work → (more ≡ work) × (work ≤ gap)
    at_test true q h = (cc, leb-true work gap q)
    at_test false q h = absurd cc

pub beyond : (work gap : ℕ) → None ≡ then_some (nat_le work gap) work → gap < work
beyond work gap e = at_test (nat_le work gap) refl e
  where
    at_test : (b : Bool) → nat_le work gap ≡ b → None ≡ then_some b work → gap < work
    at_test true q h = absurd cc
    at_test false q h = leb-false work gap q
