use Rattle.std.proofs.Common.{◌-◌, ◌≤◌}
use Rattle.bounds.proofs.Least.{ShortBelow}
use Rattle.bounds.proofs.job.Job.bound.Given as goal

abbrev pub invariant-loop-gap : goal.invariant-loop-gap
invariant-loop-gap g l = record {
  low : 1 ≤ l.ticks;
  high : l.ticks ≤ l.gap;
  short : ShortBelow (g.G.Group.tasks l.self.group.now) l.self.task l.self.class l.ticks;
}

abbrev pub decreases-loop-gap : goal.decreases-loop-gap
decreases-loop-gap g l = l.gap - l.ticks
