-- A task of a group by its meaning: its gap, its classes, its positions and how they move, and its demand.
-- None of these ever changes; the present position is no part of a task (a group has a list of them). Assumes nothing.
use Rattle.std.specs.Prelude.{◌≡◌, ℕ, zero, suc, ◌+◌, ◌*◌, ◌≤◌, Bool, true, false, cond, List, [], ◌∷◌, length, nat_lt, slice_index, slice_index_or, slice_set}
use Rattle.group.specs.declared.meaning.Outcome.{Outcome}
use Rattle.group.specs.declared.meaning.Outcome.TheVariants.{Finish, Miss}
use Rattle.group.specs.declared.meaning.Terms.{Terms}

-- A task: positions are numbers, each with its class, and demand N p is for N jobs in a row and the classes above rank p.
pub record Task : Type 0 where
  pub gap : ℕ
  pub classes : List Terms
  pub is_position : ℕ → Bool
  pub class_at : ℕ → ℕ
  pub after_finish : ℕ → ℕ
  pub after_miss : ℕ → ℕ
  pub demand : ℕ → ℕ → ℕ

-- the terms of a class that does not exist
abbrev pub no_terms : Terms
no_terms = record { rank = 0; budget = 0; tolerated = false }

-- the terms of a class; classes are numbered from 1, and there is no class 0
abbrev pub terms_of : Task → ℕ → Terms
terms_of t zero = no_terms
terms_of t (suc c) = slice_index_or t.classes c no_terms

-- a class that the task has
abbrev pub Class : Task → ℕ → Type 0
Class t c = (1 ≤ c) × (c ≤ length t.classes)

-- a position that the task can be at
abbrev pub Position : Task → ℕ → Type 0
Position t x = t.is_position x ≡ true

-- the position after a job that ended so
abbrev pub after : Task → Outcome → ℕ → ℕ
after t Finish x = t.after_finish x
after t Miss x = t.after_miss x

-- the budget of a class, if its rank is above p
abbrev pub above : Task → ℕ → ℕ → ℕ
above t p c = cond (nat_lt p (terms_of t c).rank) (terms_of t c).budget 0

-- the weights of the classes met along a succession of jobs, one for each outcome, from position x on
abbrev pub along : Task → (ℕ → ℕ) → ℕ → List Outcome → ℕ
along t weight x [] = 0
along t weight x (o ∷ os) = weight (t.class_at x) + along t weight (after t o x) os

-- What every task of a group keeps: the ranges; positions lead to positions and have a class; the demand covers every succession
-- of up to 4,095 jobs, never falls as they grow, never rises with the rank, and is that of 4,095 jobs beyond them.
pub record Lawful (t : Task) : Type 0 where
  pub gap_low : 1 ≤ t.gap
  pub gap_high : t.gap ≤ 4095
  pub classes_low : 1 ≤ length t.classes
  pub classes_high : length t.classes ≤ 8
  pub rank_low : (c : ℕ) → Class t c → 1 ≤ (terms_of t c).rank
  pub rank_high : (c : ℕ) → Class t c → (terms_of t c).rank ≤ 255
  pub budget_low : (c : ℕ) → Class t c → 1 ≤ (terms_of t c).budget
  pub budget_high : (c : ℕ) → Class t c → (terms_of t c).budget ≤ t.gap
  pub classed : (x : ℕ) → Position t x → Class t (t.class_at x)
  pub moves : (x : ℕ) (o : Outcome) → Position t x → Position t (after t o x)
  pub cover : (p x : ℕ) (os : List Outcome) → Position t x → length os ≤ 4095 → along t (above t p) x os ≤ t.demand (length os) p
  pub grows : (m n p : ℕ) → m ≤ n → t.demand m p ≤ t.demand n p
  pub falls : (n p q : ℕ) → p ≤ q → t.demand n q ≤ t.demand n p
  pub capped : (n p : ℕ) → t.demand n p ≤ n * 4095
  pub beyond : (n p : ℕ) → 4095 ≤ n → t.demand n p ≡ t.demand 4095 p

-- a task that does not exist: all is answered with zeros
abbrev pub no_task : Task
no_task = record { gap = 0; classes = []; is_position = λ _. false; class_at = λ _. 0; after_finish = λ x. x; after_miss = λ x. x; demand = λ _ _. 0 }

-- the task so numbered
abbrev pub at : List Task → ℕ → Task
at ts i = slice_index_or ts i no_task

-- the position of the task so numbered
abbrev pub place : List ℕ → ℕ → ℕ
place ps i = slice_index ps i

-- the positions once task i has ended a job so
abbrev pub settled : List Task → List ℕ → ℕ → Outcome → List ℕ
settled ts ps i o = slice_set ps i (after (at ts i) o (place ps i))

-- no smaller demand would cover: some succession asks for all of it
abbrev pub Attained : Task → Type 0
Attained t = (N p : ℕ) → N ≤ 4095 → (x : ℕ) × (os : List Outcome) × Position t x × (length os ≡ N) × (along t (above t p) x os ≡ t.demand N p)
