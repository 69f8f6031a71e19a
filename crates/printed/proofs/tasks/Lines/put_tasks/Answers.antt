use Rattle.std.proofs.Common.{length, ◌<◌, arith}
use Rattle.printed.specs.Lines.{task_lines}
use Rattle.printed.proofs.Chains.{room_for}
use Rattle.printed.proofs.tasks.Lines.put_tasks.Goals as goal

pub put_task-requires-clause-room : goal.put_task-requires-clause-room
put_task-requires-clause-room g c =
    let ts = g.G.Group.tasks c.args.self.now.group.now in
    let there : c.loop-task.task < length ts = omega (arith, c.count-task-end.ensures) in
    room_for (task_lines ts) _ _ _ _ there c.loop-task.invariant c.requires
