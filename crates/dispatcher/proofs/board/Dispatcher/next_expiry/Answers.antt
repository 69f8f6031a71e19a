use Rattle.std.proofs.Common.{◌∙◌}
use Rattle.dispatcher.proofs.Chooses.{expiry_found}
use Rattle.dispatcher.proofs.board.Dispatcher.next_expiry.Goals as goal

pub returns : goal.returns
returns g c =
    let d = c.args.self.now in
    c.numbered.ensures ∙ c.foremost.ensures.place
    ∙ expiry_found (g.G.Group.tasks d.group) d.clock d.started (g.G.Group.places d.group) d.table.seats (g.met.G.Group.placed d.group) d.table.sized c.all_left.result c.all_left.ensures
