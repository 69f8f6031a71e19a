use Rattle.std.proofs.Common.{arith}
use Rattle.group.specs.JoinedLemmas.{joint_length}
use Rattle.group.proofs.join.JoinGroup.count.Goals as goal

pub returns : goal.returns
returns g c =
    omega (arith, c.count.ensures, c.count-2.ensures, c.together.ensures, joint_length 65535 (g.A.Group.tasks c.args.self.now.first) (g.B.Group.tasks c.args.self.now.second))
