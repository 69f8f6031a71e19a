use Rattle.printed.proofs.Starts.{marks_are}
use Rattle.printed.proofs.sheet.start.Goals as goal

pub returns-clause-scratch : goal.returns-clause-scratch
returns-clause-scratch g c =
    marks_are c.args.scratch.now c.start.new.scratch (g.G.Group.tasks c.args.group) c.told-scratch c.requires
    (simp (c.new.ensures.group, c.new.ensures.started) at c.start.ensures.scratch)
