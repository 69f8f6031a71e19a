use Rattle.std.proofs.Common.{◌≡◌, ◌++◌}
use Rattle.printed.specs.Lines.{task_lines}
use Rattle.printed.specs.Text.{texts}
use Rattle.printed.proofs.tasks.Lines.put_tasks.Given as goal

abbrev pub invariant-loop-task : goal.invariant-loop-task
invariant-loop-task g l = l.text.bytes ≡ l.initial.text.bytes ++ texts (task_lines (g.G.Group.tasks l.self.group.now)) l.task
