use Rattle.std.proofs.Common.{◌≡◌, length, None, sym, ap, ◌∙◌}
use Rattle.bounds.proofs.Checked.{clear}
use Rattle.dispatcher.specs.Refusals.{unstarted_fault, no_task_fault}
use Rattle.dispatcher.proofs.Released.{known_checked}
use Rattle.dispatcher.proofs.board.Dispatcher.known.Goals as goal

pub returns : goal.returns
returns g c =
    let d = c.args.self.now in
    let ts = g.G.Group.tasks d.group in
    let n = c.count-count.ensures in
    let u : unstarted_fault d.started (length ts) ≡ None = ap (unstarted_fault d.started) (sym n) ∙ clear (unstarted_fault d.started c.count-count.result) tt _ c.in_ok-check_started.ensures in
    let k : no_task_fault (length ts) c.args.task ≡ None = ap (λ x. no_task_fault x c.args.task) (sym n) ∙ clear (no_task_fault c.count-count.result c.args.task) tt _ c.in_ok-check_number.ensures in
    known_checked ts d.clock d.started (g.G.Group.places d.group) d.table.seats (g.met.G.Group.placed d.group) c.args.task c.seat.result u k c.seat.ensures
