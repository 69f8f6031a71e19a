use Rattle.bounds.proofs.Checked.{clear}
use Rattle.dispatcher.specs.State.{state_of}
use Rattle.dispatcher.specs.Refusals.{resume_fault}
use Rattle.dispatcher.proofs.Released.{resume_kept}
use Rattle.dispatcher.proofs.board.Dispatcher.resume.Goals as goal

pub returns-clause-state : goal.returns-clause-state
returns-clause-state g c =
    let d = c.args.self.now in
    let ts = g.G.Group.tasks d.group in
    let ps = g.G.Group.places d.group in
    let ss = d.table.seats in
    let k = c.args.task in
    resume_kept ts d.clock d.started ps ss (g.met.G.Group.placed d.group) k c.meet.new.self.seats d.table.sized
    (clear (resume_fault ts (state_of d.clock d.started ps ss) k) tt _ c.in_ok-check_resume.ensures) c.meet.ensures
