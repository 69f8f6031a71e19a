-- What a sheet tells of tasks, apart from how it is made. Assumes nothing.
use Rattle.std.specs.Prelude.{◌≡◌, ℕ, ◌+◌, ◌<◌, cond, List, [], ◌∷◌, ◌++◌, length, codes, MatchResult, ◌==◌}
use Rattle.denial.specs.Numbers.{report}
use Rattle.group.specs.Task.{Task, Class, at}
use Rattle.plate.specs.Plans.{decode}
use Rattle.bounds.specs.Bound.{sum, SaysBound}
use Rattle.admission.specs.Start.{Startable}
use Rattle.printed.specs.Lines.{line_of, line_text}
use Rattle.printed.specs.Sheet.{plan_tasks, sheet_text}

-- how many newlines a text has
abbrev pub newlines : List ℕ → ℕ
newlines [] = 0
newlines (b ∷ bs) = cond (b == 10) 1 0 + newlines bs

-- a line that stands in a text after so many others
abbrev pub HasLine : (others : ℕ) (line text : List ℕ) → Type 0
HasLine others line text = (front : List ℕ) × (rest : List ℕ) × (text ≡ front ++ (10 ∷ (line ++ rest))) × (newlines front + 1 ≡ others)

-- a line that is the last of a text
abbrev pub EndsIn : (line text : List ℕ) → Type 0
EndsIn line text = (front : List ℕ) × (text ≡ front ++ (10 ∷ line))

-- how many classes the tasks below k have
abbrev pub classes_below : List Task → ℕ → ℕ
classes_below ts k = sum k (λ i. length (at ts i).classes)

-- A sheet that is true of tasks: behind the heading each class has its line, in order of task and class, and the bound there is the
-- least number of ticks that is enough, or `-` where none is; then comes one last line, `accepted` exactly if the tasks may be started.
pub record Tells (ts : List Task) (text : List ℕ) : Type 0 where
  pub classes : (k c : ℕ) → k < length ts → Class (at ts k) c → HasLine (classes_below ts k + c) (line_text (line_of ts k c)) text
  pub bounds : (k c : ℕ) → k < length ts → Class (at ts k) c → SaysBound ts k c (line_of ts k c).bound
  pub lines : newlines text ≡ 2 + classes_below ts (length ts)
  pub startable : Startable ts → EndsIn (codes "accepted\n") text
  pub accepted : EndsIn (codes "accepted\n") text → Startable ts

-- the sheet of a plate tells of its tasks, or why it is refused
abbrev pub Told : List ℕ → Type 0
Told bs = MatchResult (decode bs) (λ plan. Tells (plan_tasks plan) (sheet_text bs)) (λ d. sheet_text bs ≡ report d ++ codes "\n")
