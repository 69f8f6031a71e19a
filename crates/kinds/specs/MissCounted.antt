-- The miss-counted kind: the class counts the misses in a row. Assumes nothing.
use Rattle.std.specs.Prelude.{◌≡◌, ℕ, ◌+◌, ◌*◌, ◌/◌, ◌%◌, ◌≤◌, min, Bool, true, false, cond, List, [], ◌∷◌, length, nat_le, nat_lt}
use Rattle.group.specs.declared.meaning.Terms.{Terms}
use Rattle.group.specs.Task.{Task, Class, Position, terms_of}
use Rattle.plate.specs.Rows.{Counted}
use Rattle.kinds.specs.Cycle.{within, next_class}

-- a class comes after this one
abbrev pub follows : List ℕ → Bool
follows [] = false
follows (_ ∷ _) = true

-- classes with one budget and these ranks; a miss is tolerated in every class but the last
abbrev pub classes_of : ℕ → List ℕ → List Terms
classes_of budget [] = []
classes_of budget (r ∷ rs) = record { rank = r; budget = budget; tolerated = follows rs } ∷ classes_of budget rs

-- how many ranks are above p
abbrev pub count_above : ℕ → List ℕ → ℕ
count_above p [] = 0
count_above p (r ∷ rs) = cond (nat_lt p r) 1 0 + count_above p rs

-- of N jobs in a row, the most that can be in the top n of k classes
abbrev pub most : ℕ → ℕ → ℕ → ℕ
most k n N = N / k * n + min (N % k) n

-- The task that a miss-counted row means. Its position is its class: a finish leads to class 1, a miss to the next class, and
-- a miss in the last class to class 1.
abbrev pub counted_task : Counted → Task
counted_task c = record {
  gap = c.gap;
  classes = classes_of c.budget c.ranks;
  is_position = within (length c.ranks);
  class_at = λ x. x;
  after_finish = λ x. 1;
  after_miss = next_class (length c.ranks);
  demand = λ N p. c.budget * most (length c.ranks) (count_above p c.ranks) (min N 4095);
}

-- Any task with the classes and moves of this kind, however its positions are numbered: so many misses in a row are tolerated.
pub record IsMissCounted (t : Task) : Type 0 where
  pub misses : ℕ
  pub few : misses ≤ 7
  pub classes : length t.classes ≡ misses + 1
  pub budget : ℕ
  pub budgets : (c : ℕ) → Class t c → (terms_of t c).budget ≡ budget
  pub rise : (c : ℕ) → 1 ≤ c → c ≤ misses → (terms_of t c).rank ≤ (terms_of t (c + 1)).rank
  pub tolerated : (c : ℕ) → Class t c → (terms_of t c).tolerated ≡ nat_le c misses
  pub finish : (x : ℕ) → Position t x → t.class_at (t.after_finish x) ≡ 1
  pub miss : (x : ℕ) → Position t x → t.class_at x ≤ misses → t.class_at (t.after_miss x) ≡ t.class_at x + 1
  pub last : (x : ℕ) → Position t x → t.class_at x ≡ misses + 1 → t.class_at (t.after_miss x) ≡ 1
