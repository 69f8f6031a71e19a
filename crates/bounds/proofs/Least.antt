-- The bound is the least number of ticks that is enough, and a class ranked as high has one that is no larger.
use Rattle.std.proofs.Common.{◌≡◌, ℕ, zero, suc, ◌<◌, ◌≤◌, max, Bool, true, false, cond, eqb, leb, List, [], ◌∷◌, length, Some, None, Option, sym, refl, ap, inl, inr, arith}
use Rattle.std.specs.Option.{option_map}
use Rattle.std.proofs.lemmas.Bool.{leb-true, le-leb, lt-leb, cases_lt, both_ways}
use Rattle.find.specs.First.{first, Searched}
use Rattle.find.proofs.Firsts.{first_says, first_is}
use Rattle.group.specs.declared.meaning.Terms.{Terms}
use Rattle.group.specs.Task.{Task, Class, at, terms_of}
use Rattle.bounds.specs.Bound.{jobs, largest, request, workload, Bounded, LeastBound, Unbounded, bound, HigherSooner, SaysBound}
use Rattle.bounds.proofs.Grows.{AllLawful, weight, sum_grows, workload_grows}

-- whether suc j ticks are enough
abbrev pub fits : List Task → (k c j : ℕ) → Bool
fits ts k c j = leb (workload ts k c (suc j)) (suc j)

-- no number of ticks below R is enough
pub record ShortBelow (ts : List Task) (k c R : ℕ) : Type 0 where
  pub short : (r : ℕ) → r < R → r < workload ts k c r

-- fewer ticks than a job of the task itself may take are not enough
pub short_own : (ts : List Task) (k c p own : ℕ) → p ≡ (terms_of (at ts k) c).rank → own ≡ largest p (at ts k).classes → ShortBelow ts k c own
short_own ts k c p own q e = record { short = λ r h. let s = ap (λ x. largest x (at ts k).classes) q in omega arith }

-- what is asked for within some ticks is needed at least
pub short_on : (ts : List Task) → AllLawful ts → (k c R work : ℕ) → ShortBelow ts k c R → work ≡ workload ts k c R → ShortBelow ts k c work
short_on ts laws k c R work s e =
    record { short = λ r h. elim (cases_lt r R) [ inl l ↦ s.short r l | inr l ↦ (let g = workload_grows ts laws k c R r l in omega arith) ] }

-- the least number of ticks that is enough is the bound
pub bound_found : (ts : List Task) (k c R : ℕ) → 1 ≤ R → R ≤ (at ts k).gap → workload ts k c R ≤ R → ShortBelow ts k c R → Some R ≡ bound ts k c
unfolding bound
bound_found ts k c (suc j) low high enough short =
    let s : Searched (fits ts k c) (at ts k).gap (Some j) =
    (omega arith, le-leb (workload ts k c (suc j)) (suc j) enough, λ i h. lt-leb (workload ts k c (suc i)) (suc i) (short.short (suc i) (omega arith))) in
    sym (ap (option_map suc) (first_is (fits ts k c) (at ts k).gap (Some j) s))
bound_found ts k c zero low high enough short = absurd (omega arith)

-- and if none up to the gap is, there is no bound
pub bound_none : (ts : List Task) (k c R : ℕ) → (at ts k).gap < R → ShortBelow ts k c R → None ≡ bound ts k c
unfolding bound
bound_none ts k c R high short =
    let s : Searched (fits ts k c) (at ts k).gap None = λ i h. lt-leb (workload ts k c (suc i)) (suc i) (short.short (suc i) (omega arith)) in
    sym (ap (option_map suc) (first_is (fits ts k c) (at ts k).gap None s))

-- what the bound says of a class that there is
pub bound_least : (ts : List Task) (k c : ℕ) → k < length ts → Class (at ts k) c → (R : ℕ) → bound ts k c ≡ Some R → LeastBound ts k c R
unfolding bound
bound_least ts k c task class R e = at_found (first (fits ts k c) (at ts k).gap) (first_says (fits ts k c) (at ts k).gap) e
  where
    at_found : (o : Option ℕ) → Searched (fits ts k c) (at ts k).gap o → option_map suc o ≡ Some R → LeastBound ts k c R
    at_found None s q = absurd (let z : ◌≡◌ {A = ℕ} 0 1 = cc in omega arith)
    at_found (Some j) s q =
        let r : suc j ≡ R = cc in
        rw (sym r) (record {
          bounded = record { task = task; class = class; low = omega arith; high = omega (arith, s.0); enough = leb-true (workload ts k c (suc j)) (suc j) s.1 };
          least = lower;
        })
      where
        lower : (Q : ℕ) → Bounded ts k c Q → suc j ≤ Q
        lower zero b = absurd (omega (arith, b.low))
        lower (suc i) b =
            elim (cases_lt i j) [
              | inl l ↦ absurd (both_ways (fits ts k c i) (s.2 i l) (le-leb (workload ts k c (suc i)) (suc i) b.enough))
              | inr l ↦ omega arith
            ]

pub bound_absent : (ts : List Task) (k c : ℕ) → bound ts k c ≡ None → Unbounded ts k c
unfolding bound
bound_absent ts k c e = at_found (first (fits ts k c) (at ts k).gap) (first_says (fits ts k c) (at ts k).gap) e
  where
    at_found : (o : Option ℕ) → Searched (fits ts k c) (at ts k).gap o → option_map suc o ≡ None → Unbounded ts k c
    at_found (Some j) s q zero b = absurd (omega (arith, b.low))
    at_found (Some j) s q (suc i) b = absurd (let z : ◌≡◌ {A = ℕ} 0 1 = cc in omega arith)
    at_found None s q zero b = absurd (omega (arith, b.low))
    at_found None s q (suc i) b =
        both_ways (fits ts k c i) (s i (omega (arith, b.high))) (le-leb (workload ts k c (suc i)) (suc i) b.enough)

-- a class for which some number is enough has a bound that is no larger
pub bound_within : (ts : List Task) (k c R : ℕ) → Bounded ts k c R → (Q : ℕ) × (bound ts k c ≡ Some Q) × (Q ≤ R)
bound_within ts k c R b = at_answer (bound ts k c) refl
  where
    at_answer : (o : Option ℕ) → bound ts k c ≡ o → (Q : ℕ) × (bound ts k c ≡ Some Q) × (Q ≤ R)
    at_answer None e = absurd (bound_absent ts k c e R b)
    at_answer (Some Q) e = (Q, e, (bound_least ts k c b.task b.class Q e).least R b)

-- a higher rank counts fewer classes
pub largest_falls : (p q : ℕ) (cs : List Terms) → p ≤ q → largest q cs ≤ largest p cs
largest_falls p q [] h = omega arith
largest_falls p q (c ∷ cs) h = both (weight q c) (weight p c) (largest q cs) (largest p cs) (one c.rank c.budget) (largest_falls p q cs h)
  where
    both : (a b x y : ℕ) → a ≤ b → x ≤ y → max a x ≤ max b y
    both a b x y l m = grind arith

    one : (r b : ℕ) → cond (leb q r) b 0 ≤ cond (leb p r) b 0
    one r b = grind arith

-- and never asks for more
pub workload_falls : (ts : List Task) → AllLawful ts → (k c d R : ℕ) → (terms_of (at ts k) c).rank ≤ (terms_of (at ts k) d).rank
    → workload ts k d R ≤ workload ts k c R
workload_falls ts laws k c d R h =
    let l = largest_falls (terms_of (at ts k) c).rank (terms_of (at ts k) d).rank (at ts k).classes h in
    let s = sum_grows (length ts) (request ts k R (terms_of (at ts k) d).rank) (request ts k R (terms_of (at ts k) c).rank) one in
    omega arith
  where
    both : (b : Bool) (x y : ℕ) → x ≤ y → cond b 0 x ≤ cond b 0 y
    both true x y h = omega arith
    both false x y h = h

    one : (i : ℕ) → i < length ts → request ts k R (terms_of (at ts k) d).rank i ≤ request ts k R (terms_of (at ts k) c).rank i
    one i l =
        both (eqb i k) ((at ts i).demand (jobs R (at ts i).gap) (terms_of (at ts k) d).rank) ((at ts i).demand (jobs R (at ts i).gap) (terms_of (at ts k) c).rank)
        ((laws i l).falls (jobs R (at ts i).gap) (terms_of (at ts k) c).rank (terms_of (at ts k) d).rank h)

-- so a class ranked as high has a bound too, and it is no larger
pub higher_sooner : (ts : List Task) → AllLawful ts → (k c R : ℕ) → Bounded ts k c R → HigherSooner ts k c R
higher_sooner ts laws k c R b d class h =
    bound_within ts k d R (record {
      task = b.task;
      class = class;
      low = b.low;
      high = b.high;
      enough = omega (arith, b.enough, workload_falls ts laws k c d R h);
    })

-- all that an answer says
pub bound_says : (ts : List Task) → AllLawful ts → (k c : ℕ) → k < length ts → Class (at ts k) c → SaysBound ts k c (bound ts k c)
bound_says ts laws k c task class = at_answer (bound ts k c) refl
  where
    at_answer : (o : Option ℕ) → bound ts k c ≡ o → SaysBound ts k c o
    at_answer None e = bound_absent ts k c e
    at_answer (Some R) e = let l = bound_least ts k c task class R e in (l, higher_sooner ts laws k c R l.bounded)
