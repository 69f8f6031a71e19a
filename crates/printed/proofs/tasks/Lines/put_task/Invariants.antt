use Rattle.std.proofs.Common.{◌≡◌, ◌-◌, ◌++◌}
use Rattle.printed.specs.Lines.{class_text}
use Rattle.printed.specs.Text.{texts}
use Rattle.printed.proofs.tasks.Lines.put_task.Given as goal

abbrev pub invariant-loop-class : goal.invariant-loop-class
invariant-loop-class g l = l.text.bytes ≡ l.initial.text.bytes ++ texts (class_text (g.G.Group.tasks l.self.group.now) l.task) (l.class - 1)
