-- The sheet of a plate. Assumes nothing.
use Rattle.std.specs.Prelude.{ℕ, ◌≤◌, List, [], ◌++◌, map, length, Some, Ok, Err, Option, Result, nat_lt}
use Rattle.denial.specs.declared.Denial.{Denial}
use Rattle.denial.specs.declared.Rule.TheVariants.{Room}
use Rattle.denial.specs.Numbers.{denied}
use Rattle.denial.specs.Checks.{when}
use Rattle.group.specs.Task.{Task}
use Rattle.group.specs.Joined.{joint}
use Rattle.plate.specs.Plans.{Plan, decode}
use Rattle.kinds.specs.MissCounted.{counted_task}
use Rattle.kinds.specs.Frames.{framed_task}
use Rattle.admission.specs.Start.{plan_fault, marks}
use Rattle.printed.specs.Lines.{heading, all_lines, verdict_line}

-- the tasks of a plan, miss-counted rows first
abbrev pub plan_tasks : Plan → List Task
plan_tasks plan = joint (map counted_task plan.counted) (map framed_task plan.framed)

-- as many tasks as a plate has rows
abbrev pub FewTasks : List Task → Type 0
FewTasks ts = (1 ≤ length ts) × (length ts ≤ 32)

-- what stands above the verdict; nothing, if the plate is refused
abbrev pub front_of : Result Plan Denial → List ℕ
front_of (Ok plan) = heading ++ all_lines (plan_tasks plan)
front_of (Err d) = []

-- the verdict: why the plate is refused, or why its tasks cannot be started
abbrev pub fault_of : Result Plan Denial → Option Denial
fault_of (Ok plan) = plan_fault (plan_tasks plan)
fault_of (Err d) = Some d

-- the sheet of a plate
unfoldable pub sheet_text : List ℕ → List ℕ
sheet_text bs = front_of (decode bs) ++ verdict_line (fault_of (decode bs))

-- the marks of ranks that the start leaves in the scratch; a refused plate is never started
abbrev pub marks_of : Result Plan Denial → (scratch : List ℕ) → List ℕ
marks_of (Ok plan) scratch = marks (plan_tasks plan)
marks_of (Err d) scratch = scratch

-- a buffer that is too short for the sheet: the detail is the bytes needed
abbrev pub sheet_fault : (needed room : ℕ) → Option Denial
sheet_fault needed room = when (nat_lt room needed) (denied Room needed 0)
