use Rattle.std.proofs.Common.{sym, subst, arith}
use Rattle.group.specs.Joined.{Stands}
use Rattle.group.specs.JoinedLemmas.{stands}
use Rattle.group.proofs.join.Join.part.Goals as goal

pub returns : goal.returns
returns g c =
    let a = c.args.self.now.first in
    let b = c.args.self.now.second in
    subst (Stands (g.A.Group.tasks a) (g.B.Group.tasks b) (g.A.Group.places a) (g.B.Group.places b) c.args.task) (sym c.split.ensures)
    (stands (g.A.Group.tasks a) (g.B.Group.tasks b) (g.A.Group.places a) (g.B.Group.places b) (g.met.A.Group.placed a) c.count.result c.args.task (sym c.count.ensures) (omega arith))
