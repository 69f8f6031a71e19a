use Rattle.std.proofs.Common.{get_or, set, ap, ◌∙◌}
use Rattle.bounds.proofs.Checked.{clear}
use Rattle.dispatcher.specs.State.{state_of, new_seat, release_seat}
use Rattle.dispatcher.specs.Refusals.{release_fault}
use Rattle.dispatcher.proofs.Released.{release_kept}
use Rattle.dispatcher.proofs.board.Dispatcher.release.Goals as goal

pub returns-clause-state : goal.returns-clause-state
returns-clause-state g c =
    let d = c.args.self.now in
    let ts = g.G.Group.tasks d.group in
    let ps = g.G.Group.places d.group in
    let ss = d.table.seats in
    let k = c.args.task in
    release_kept ts d.clock d.started ps ss (g.met.G.Group.placed d.group) k c.meet.new.self.seats d.table.sized
    (clear (release_fault ts (state_of d.clock d.started ps ss) k) tt _ c.in_ok-check_release.ensures)
    (c.meet.ensures ∙ ap (λ x. set ss k (release_seat x d.clock (get_or ss k new_seat))) c.class_now-class.ensures)
