-- What a plan's fault names: small numbers.
use Rattle.std.proofs.Common.{ℕ, suc, ◌<◌, Bool, List, length, IfSome, Some, None, Option, arith}
use Rattle.std.specs.Option.{option_map, option_or}
use Rattle.denial.specs.declared.Denial.{Denial}
use Rattle.denial.specs.Numbers.{number_of}
use Rattle.find.specs.First.{first_pair, SearchedPair}
use Rattle.find.proofs.Firsts.{pair_says}
use Rattle.group.specs.Task.{Task, Lawful, at}
use Rattle.admission.specs.Start.{sharing, lacking, plan_fault}
use Rattle.printed.specs.Sheet.{FewTasks}

-- what holds of a value that is there
abbrev pub WhenSome : {X : Type 0} → Option X → (X → Type 0) → Type 0
WhenSome o P = IfSome o P

if_either : {X : Type 0} (P : X → Type 0) (a b : Option X) → WhenSome a P → WhenSome b P → WhenSome (option_or a b) P
if_either P None b h k = k
if_either P (Some x) b h k = h

-- a first pair is below its limits
if_pair : {Y : Type 0} (f : ℕ × ℕ → Y) (P : Y → Type 0) (test : ℕ → ℕ → Bool) (m : ℕ) (limit : ℕ → ℕ)
    → ((i j : ℕ) → i < m → j < limit i → P (f (i, j))) → WhenSome (option_map f (first_pair test m limit)) P
if_pair f P test m limit h = each (first_pair test m limit) (pair_says test m limit)
  where
    each : (o : Option (ℕ × ℕ)) → SearchedPair test m limit o → WhenSome (option_map f o) P
    each None s = tt
    each (Some (i, j)) s = h i j s.0 s.2.0

-- a denial by a number of at most two digits, and two details that have at most two
pub record SmallDenial (d : Denial) : Type 0 where
  pub number : number_of d.rule < 32
  pub first : d.first < 32
  pub second : d.second < 32

pub fault_small : (ts : List Task) → FewTasks ts → ((k : ℕ) → k < length ts → Lawful (at ts k)) → WhenSome (plan_fault ts) SmallDenial
fault_small ts few lawful =
    if_either SmallDenial _ _
    (if_pair _ SmallDenial (sharing ts) (length ts) (λ _. length ts)
    (λ i j l h. record { number = omega arith; first = omega (arith, few.1); second = omega (arith, few.1) }))
    (if_pair _ SmallDenial (λ k j. lacking ts k (suc j)) (length ts) (λ k. length (at ts k).classes)
    (λ i j l h. record { number = omega arith; first = omega (arith, few.1); second = omega (arith, (lawful i l).classes_high) }))
