use Rattle.std.proofs.Common.{◌≡◌, length, None, ap, ◌∙◌}
use Rattle.bounds.proofs.Checked.{clear}
use Rattle.dispatcher.specs.State.{state_of, ticked}
use Rattle.dispatcher.specs.Refusals.{tick_fault}
use Rattle.dispatcher.proofs.Ticked.{ticked_is, tick_leaves}
use Rattle.dispatcher.proofs.board.Dispatcher.tick.Goals as goal

pub returns-clause-state : goal.returns-clause-state
returns-clause-state g c =
    let d = c.args.self.now in
    let ts = g.G.Group.tasks d.group in
    let ps = g.G.Group.places d.group in
    let s = state_of d.clock d.started ps d.table.seats in
    let mark = c.args.finish in
    let room = length c.args.ends.now in
    let f : tick_fault ts s mark room ≡ None = clear (tick_fault ts s mark room) tt _ c.in_ok-check_tick.ensures in
    let m = g.met.G.Group.placed d.group in
    let p = c.pass_all-count.ensures in
    let ran = c.next_to_run-ran.result in
    let ss = c.pass_all-count.new.table.seats in
    let qs = g.G.Group.places c.pass_all-count.new.group in
    tick_leaves ts s mark room f ran (state_of c.end-self.result d.started qs ss) c.next_to_run-ran.ensures
    (ap (λ x. state_of x d.started qs ss) c.end-self.ensures ∙ ticked_is ts c.clock.result d.started ps qs d.table.seats ss m mark ran p.passed
    ∙ ap (λ x. ticked ts mark ran (state_of x d.started ps d.table.seats)) c.clock.ensures)
