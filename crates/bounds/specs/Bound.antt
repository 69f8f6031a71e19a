-- The bound of a class: how old a job of that class can be when it ends. Assumes nothing.
use Rattle.std.specs.Prelude.{◌≡◌, ℕ, zero, suc, ◌+◌, ◌-◌, ◌/◌, ◌<◌, ◌≤◌, max, cond, ◌||◌, List, [], ◌∷◌, length, Some, Option, Result, MatchOption, ◌==◌, nat_le, nat_lt}
use Rattle.std.specs.Option.{option_or, option_map}
use Rattle.denial.specs.declared.Denial.{Denial}
use Rattle.denial.specs.declared.Rule.TheVariants.{TaskCount, NoTask, NoClass}
use Rattle.denial.specs.Numbers.{denied}
use Rattle.denial.specs.Checks.{when, unless}
use Rattle.find.specs.First.{first}
use Rattle.group.specs.declared.meaning.Terms.{Terms}
use Rattle.group.specs.Task.{Task, Class, terms_of, at}

-- f 0 + .. + f (n - 1)
abbrev pub sum : ℕ → (ℕ → ℕ) → ℕ
sum zero f = 0
sum (suc n) f = sum n f + f n

-- the most jobs of a task with this gap that can be released within R ticks: R divided by the gap, rounded up
abbrev pub jobs : (R gap : ℕ) → ℕ
jobs R gap = (R + (gap - 1)) / gap

-- the largest budget among the classes ranked p or higher
abbrev pub largest : ℕ → List Terms → ℕ
largest p [] = 0
largest p (c ∷ cs) = max (cond (nat_le p c.rank) c.budget 0) (largest p cs)

-- what task i can ask for above rank p within R ticks; task k itself counts for nothing here
abbrev pub request : List Task → (k R p i : ℕ) → ℕ
request ts k R p i = cond (i == k) 0 ((at ts i).demand (jobs R (at ts i).gap) p)

-- The ticks that a job of class c of task k and all that can run before it ask for within R ticks: one job of k itself, of
-- whatever class ranked as high, and of each other task all the jobs ranked above that can be released in the time.
abbrev pub workload : List Task → (k c R : ℕ) → ℕ
workload ts k c R =
    largest (terms_of (at ts k) c).rank (at ts k).classes + sum (length ts) (request ts k R (terms_of (at ts k) c).rank)

-- R ticks, at most the gap of k, are enough for a job of class c of task k
pub record Bounded (ts : List Task) (k c R : ℕ) : Type 0 where
  pub task : k < length ts
  pub class : Class (at ts k) c
  pub low : 1 ≤ R
  pub high : R ≤ (at ts k).gap
  pub enough : workload ts k c R ≤ R

-- the bound is the least such number
pub record LeastBound (ts : List Task) (k c R : ℕ) : Type 0 where
  pub bounded : Bounded ts k c R
  pub least : (Q : ℕ) → Bounded ts k c Q → R ≤ Q

-- there is no such number
abbrev pub Unbounded : List Task → (k c : ℕ) → Type 0
Unbounded ts k c = (R : ℕ) → Bounded ts k c R → ⊥

-- the bound of a class of a task, by trying 1, 2 and so on up to the gap
unfoldable pub bound : List Task → (k c : ℕ) → Option ℕ
bound ts k c = option_map suc (first (λ j. nat_le (workload ts k c (suc j)) (suc j)) (at ts k).gap)

-- every class of the same task that is ranked as high has a bound too, and one that is no larger
abbrev pub HigherSooner : List Task → (k c R : ℕ) → Type 0
HigherSooner ts k c R =
    (d : ℕ) → Class (at ts k) d → (terms_of (at ts k) c).rank ≤ (terms_of (at ts k) d).rank → (Q : ℕ) × (bound ts k d ≡ Some Q) × (Q ≤ R)

-- why a question about a group is refused: it has no task, or more than 64
abbrev pub count_fault : List Task → Option Denial
count_fault ts = when (length ts == 0 || nat_lt 64 (length ts)) (denied TaskCount 0 0)

-- about a task: there is none of that number
abbrev pub task_fault : List Task → ℕ → Option Denial
task_fault ts k = option_or (count_fault ts) (when (nat_le (length ts) k) (denied NoTask 0 0))

-- about a class: the task has none of that number
abbrev pub class_fault : List Task → (k c : ℕ) → Option Denial
class_fault ts k c = option_or (task_fault ts k) (when (c == 0 || nat_lt (length (at ts k).classes) c) (denied NoClass 0 0))

-- what is answered to the question for a bound
abbrev pub bound_answer : List Task → (k c : ℕ) → Result (Option ℕ) Denial
bound_answer ts k c = unless (class_fault ts k c) (bound ts k c)

-- what the answer of a bound says: the least number of ticks that is enough, or that there is none
abbrev pub SaysBound : List Task → (k c : ℕ) → Option ℕ → Type 0
SaysBound ts k c o = MatchOption o (Unbounded ts k c) (λ R. LeastBound ts k c R × HigherSooner ts k c R)
