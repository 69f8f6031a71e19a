-- What can be asked for grows with the ticks, and falls as the rank rises.
use Rattle.std.proofs.Common.{◌≡◌, ℕ, zero, suc, ◌+◌, ◌-◌, ◌*◌, ◌<◌, ◌≤◌, max, Bool, true, false, cond, eqb, leb, List, [], ◌∷◌, ◌++◌, length, get_or, take, ap, ◌∙◌, le-div_iff_mul-le, div-mul-le_self, add-one, arith}
use Rattle.std.proofs.lemmas.List.{take_more}
use Rattle.group.specs.declared.meaning.Terms.{Terms}
use Rattle.group.specs.Task.{Task, Lawful, at, no_terms, terms_of}
use Rattle.bounds.specs.Bound.{sum, jobs, largest, request, workload}

-- every task of a list keeps the laws
abbrev pub AllLawful : List Task → Type 0
AllLawful ts = (i : ℕ) → i < length ts → Lawful (at ts i)

-- the weight of a class in `largest`
abbrev pub weight : ℕ → Terms → ℕ
weight p c = cond (leb p c.rank) c.budget 0

max_last : (a b c m : ℕ) → m ≡ max b c → max a m ≡ max (max a b) c
max_last a b c m e = grind arith

pub largest_last : (p : ℕ) (cs : List Terms) (c : Terms) → largest p (cs ++ (c ∷ [])) ≡ max (largest p cs) (weight p c)
largest_last p [] c = omega arith
largest_last p (d ∷ cs) c = max_last (weight p d) (largest p cs) (weight p c) (largest p (cs ++ (c ∷ []))) (largest_last p cs c)

-- one class more
pub largest_more : (p i w m : ℕ) (cs : List Terms) → i < length cs → w ≡ weight p (get_or cs i no_terms) → m ≡ largest p (take i cs)
    → max w m ≡ largest p (take (i + 1) cs)
largest_more p i w m cs l e q =
    let t = ap (largest p) (take_more cs i no_terms l) ∙ largest_last p (take i cs) (get_or cs i no_terms) in
    swap w m (weight p (get_or cs i no_terms)) (largest p (take i cs)) _ e q t
  where
    swap : (w m x y z : ℕ) → w ≡ x → m ≡ y → z ≡ max y x → max w m ≡ z
    swap w m x y z a b c = grind arith

-- a demand is never more than 4,095 jobs can ask for
pub demand_small : (t : Task) → Lawful t → (N p : ℕ) → t.demand N p ≤ 4095 * 4095
demand_small t l N p = omega (arith, l.grows N (N + 4095) p (omega arith), l.beyond (N + 4095) p (omega arith), l.capped 4095 p)

unless_own : (b : Bool) (x m : ℕ) → x ≤ m → cond b 0 x ≤ m
unless_own true x m h = omega arith
unless_own false x m h = h

pub request_small : (ts : List Task) → AllLawful ts → (k R p i : ℕ) → i < length ts → request ts k R p i ≤ 4095 * 4095
request_small ts laws k R p i l =
    unless_own (eqb i k) ((at ts i).demand (jobs R (at ts i).gap) p) (4095 * 4095) (demand_small (at ts i) (laws i l) (jobs R (at ts i).gap) p)

-- one task more
pub sum_more : (n : ℕ) (f : ℕ → ℕ) → sum (n + 1) f ≡ sum n f + f n
sum_more n f = rw (add-one n)

-- sums of what is no larger are no larger
pub sum_grows : (n : ℕ) (f h : ℕ → ℕ) → ((i : ℕ) → i < n → f i ≤ h i) → sum n f ≤ sum n h
sum_grows zero f h le = omega arith
sum_grows (suc n) f h le = omega (arith, sum_grows n f h (λ i l. le i (omega arith)), le n (omega arith))

-- more ticks, more jobs
pub jobs_grow : (R Q gap : ℕ) → 1 ≤ gap → R ≤ Q → jobs R gap ≤ jobs Q gap
jobs_grow R Q gap g h = (le-div_iff_mul-le g).1 (omega (arith, div-mul-le_self (R + (gap - 1)) gap))

-- more ticks never ask for less
pub workload_grows : (ts : List Task) → AllLawful ts → (k c R Q : ℕ) → R ≤ Q → workload ts k c R ≤ workload ts k c Q
workload_grows ts laws k c R Q h =
    let p = (terms_of (at ts k) c).rank in
    let s = sum_grows (length ts) (request ts k R p) (request ts k Q p) one in
    omega arith
  where
    both : (b : Bool) (x y : ℕ) → x ≤ y → cond b 0 x ≤ cond b 0 y
    both true x y h = omega arith
    both false x y h = h

    one : (i : ℕ) → i < length ts → request ts k R (terms_of (at ts k) c).rank i ≤ request ts k Q (terms_of (at ts k) c).rank i
    one i l =
        both (eqb i k) ((at ts i).demand (jobs R (at ts i).gap) (terms_of (at ts k) c).rank) ((at ts i).demand (jobs Q (at ts i).gap) (terms_of (at ts k) c).rank)
        ((laws i l).grows (jobs R (at ts i).gap) (jobs Q (at ts i).gap) (terms_of (at ts k) c).rank (jobs_grow R Q (at ts i).gap (laws i l).gap_low h))

-- classes are numbered from 1
pub terms_next : (t : Task) (i : ℕ) → terms_of t (i + 1) ≡ get_or t.classes i no_terms
terms_next t i = rw (add-one i)

-- what all tasks of a group of at most 64 ask for
pub requests_small : (ts : List Task) → AllLawful ts → (k R p : ℕ) → length ts ≤ 64 → sum (length ts) (request ts k R p) ≤ 64 * (4095 * 4095)
requests_small ts laws k R p few = omega (arith, each (length ts) (omega arith))
  where
    each : (n : ℕ) → n ≤ length ts → sum n (request ts k R p) ≤ n * (4095 * 4095)
    each zero l = omega arith
    each (suc n) l = omega (arith, each n (omega arith), request_small ts laws k R p n (omega arith))
