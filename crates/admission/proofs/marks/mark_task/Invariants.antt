use Rattle.std.proofs.Common.{◌+◌, ◌-◌, take}
use Rattle.group.specs.Task.{at}
use Rattle.admission.specs.Ranks.{MarkedBy}
use Rattle.admission.proofs.marks.mark_task.Given as goal

abbrev pub invariant-loop-class : goal.invariant-loop-class
invariant-loop-class g l = MarkedBy (take (l.class - 1) (at (g.G.Group.tasks l.group) l.task).classes) (l.task + 1) l.initial.scratch l.scratch
