-- The start of a plan's tasks.
use Rattle.std.proofs.Common.{◌≡◌, ℕ, min, false, List, ◌++◌, map, length, None, ap, ◌∙◌, arith}
use Rattle.std.proofs.lemmas.List.{length-take, length-append, length-map, drop_all, append-nil}
use Rattle.std.proofs.lemmas.Bool.{ne_eqb, le-ltb}
use Rattle.group.specs.Task.{Task}
use Rattle.plate.specs.Plans.{Plan, Sound}
use Rattle.kinds.specs.MissCounted.{counted_task}
use Rattle.kinds.specs.Frames.{framed_task}
use Rattle.admission.specs.Start.{early_fault, scratch_after, marks}
use Rattle.printed.specs.Sheet.{plan_tasks, FewTasks}

-- a plan has as many tasks as rows
pub tasks_of_plan : (plan : Plan) → Sound plan → FewTasks (plan_tasks plan)
tasks_of_plan plan s =
    let xs = map counted_task plan.counted in
    let ys = map framed_task plan.framed in
    let n : length (plan_tasks plan) ≡ min 65535 (length (xs ++ ys)) = length-take 65535 (xs ++ ys) in
    let l = length-append xs ys in
    let a = length-map plan.counted counted_task in
    let b = length-map plan.framed framed_task in
    (omega (arith, s.some), omega (arith, s.few_counted, s.few_framed))

-- nothing keeps so many tasks from being looked at
pub no_early : (room : ℕ) (ts : List Task) → room ≡ 256 → FewTasks ts → early_fault false room ts ≡ None
no_early room ts e s =
    rw (e, ne_eqb (length ts) 0 (λ z. omega (arith, s.0, z)), le-ltb 64 (length ts) (omega (arith, s.1)))

-- what the scratch holds
pub marks_are : (scratch after : List ℕ) (ts : List Task) → length scratch ≡ 256 → FewTasks ts
    → after ≡ scratch_after (early_fault false (length scratch) ts) ts scratch → after ≡ marks ts
marks_are scratch after ts e s h =
    h ∙ ap (λ t. scratch_after t ts scratch) (no_early (length scratch) ts e s)
    ∙ ap (λ t. marks ts ++ t) (drop_all 256 scratch (omega arith)) ∙ append-nil (marks ts)
