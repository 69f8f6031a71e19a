use Rattle.admission.proofs.Marking.{MarkedBelow}
use Rattle.admission.proofs.marks.mark_ranks.Given as goal

abbrev pub invariant-loop-task : goal.invariant-loop-task
invariant-loop-task g l = MarkedBelow (g.G.Group.tasks l.group) l.task l.initial.scratch l.scratch
