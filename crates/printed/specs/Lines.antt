-- The lines of the sheet, each ended by a newline. Assumes nothing.
use Rattle.std.specs.Prelude.{ℕ, suc, ◌<◌, ◌≤◌, List, [], ◌∷◌, ◌++◌, length, Some, None, codes, decimal, Option}
use Rattle.std.specs.List.{flat_map}
use Rattle.denial.specs.declared.Denial.{Denial}
use Rattle.denial.specs.Numbers.{report}
use Rattle.group.specs.Task.{Task, Class, terms_of, at}
use Rattle.bounds.specs.Bound.{bound}
use Rattle.printed.specs.declared.line.Line.{Line}
use Rattle.printed.specs.Text.{texts}

-- the names of the columns
abbrev pub heading : List ℕ
heading = codes "task class rank budget bound\n"

-- a number and a space behind it
abbrev pub column : ℕ → List ℕ
column n = decimal n ++ codes " "

-- the columns of a line in their order, but for the last
abbrev pub columns_of : Line → List ℕ
columns_of l = l.task ∷ (l.class ∷ (l.rank ∷ (l.budget ∷ [])))

-- the last column: the bound, or `-` where there is none
abbrev pub last_column : Option ℕ → List ℕ
last_column None = codes "-\n"
last_column (Some R) = decimal R ++ codes "\n"

-- a line by its columns
unfoldable pub line_text : Line → List ℕ
line_text l = flat_map column (columns_of l) ++ last_column l.bound

-- what the sheet says of class c of task k
abbrev pub line_of : List Task → (k c : ℕ) → Line
line_of ts k c = record { task = k; class = c; rank = (terms_of (at ts k) c).rank; budget = (terms_of (at ts k) c).budget; bound = bound ts k c }

-- a class of one of at most 64 tasks: the question for its bound is answered
abbrev pub Listed : List Task → (k c : ℕ) → Type 0
Listed ts k c = (length ts ≤ 64) × (k < length ts) × Class (at ts k) c

-- the line of class j + 1 of task k
abbrev pub class_text : List Task → (k j : ℕ) → List ℕ
class_text ts k j = line_text (line_of ts k (suc j))

-- the lines of task k, class 1 first
abbrev pub task_lines : List Task → ℕ → List ℕ
task_lines ts k = texts (class_text ts k) (length (at ts k).classes)

-- the lines of all tasks
abbrev pub all_lines : List Task → List ℕ
all_lines ts = texts (task_lines ts) (length ts)

-- the last line: what the start says
abbrev pub verdict_line : Option Denial → List ℕ
verdict_line None = codes "accepted\n"
verdict_line (Some d) = report d ++ codes "\n"
