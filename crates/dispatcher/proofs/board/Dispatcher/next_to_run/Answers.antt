use Rattle.std.proofs.Common.{◌∙◌}
use Rattle.dispatcher.proofs.Chooses.{runner_found}
use Rattle.dispatcher.proofs.board.Dispatcher.next_to_run.Goals as goal

pub returns : goal.returns
returns g c =
    let d = c.args.self.now in
    c.numbered.ensures ∙ c.foremost.ensures.place
    ∙ runner_found (g.G.Group.tasks d.group) d.clock d.started (g.G.Group.places d.group) d.table.seats (g.met.G.Group.placed d.group) d.table.sized c.ranks.result c.ranks.ensures
