use Rattle.std.proofs.Common.{◌≡◌}
use Rattle.bounds.specs.Bound.{bound}
use Rattle.bounds.proofs.Checked.{class_clear}
use Rattle.bounds.proofs.Least.{bound_says}
use Rattle.bounds.proofs.bound.Goals as goal

pub returns-clause-says : goal.returns-clause-says
returns-clause-says g c =
    let ts = g.G.Group.tasks c.args.group.now in
    let made = c.in_ok-of.ensures in
    let there = class_clear ts c.args.task c.args.class made.3 in
    let is : c.bound.result ≡ bound ts c.args.task c.args.class = cc (made.0, made.1, made.2) in
    rw is (bound_says ts (g.met.G.Group.lawful c.args.group.now) c.args.task c.args.class there.0 there.1)
