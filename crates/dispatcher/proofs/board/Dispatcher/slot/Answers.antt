use Rattle.std.proofs.Common.{◌≡◌, None, Ok, sym, ap, ◌∙◌}
use Rattle.denial.specs.Checks.{unless}
use Rattle.bounds.specs.Bound.{task_fault}
use Rattle.bounds.proofs.Checked.{clear, task_clear}
use Rattle.dispatcher.specs.State.{state_of, slot_of}
use Rattle.dispatcher.specs.Questions.{view_of}
use Rattle.dispatcher.proofs.Released.{seen_is}
use Rattle.dispatcher.proofs.board.Dispatcher.slot.Goals as goal

pub returns : goal.returns
returns g c =
    let d = c.args.self.now in
    let ts = g.G.Group.tasks d.group in
    let ps = g.G.Group.places d.group in
    let k = c.args.task in
    let s = state_of d.clock d.started ps d.table.seats in
    let f : task_fault ts k ≡ None = clear (task_fault ts k) tt _ c.in_ok-check_task.ensures in
    let e = seen_is ts d.clock d.started ps d.table.seats (g.met.G.Group.placed d.group) k (task_clear ts k f).2 c.seat.result.slot (ap (λ x. x.slot) c.seat.ensures) in
    ap Ok (c.seen.ensures ∙ ap (view_of d.clock) e) ∙ ap (λ x. unless x (view_of d.clock (slot_of s k))) (sym f)
