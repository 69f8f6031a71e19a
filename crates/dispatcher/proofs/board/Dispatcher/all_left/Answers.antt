use Rattle.std.proofs.Common.{◌≡◌, ◌<◌, min, length, get_or, arith, rules}
use Rattle.group.specs.Task.{at}
use Rattle.dispatcher.specs.State.{new_seat}
use Rattle.dispatcher.specs.Keys.{expiry_key}
use Rattle.dispatcher.proofs.Chooses.{keys_none, keys_more, keys_all}
use Rattle.dispatcher.proofs.board.Dispatcher.all_left.Goals as goal

pub loop-task-init : goal.loop-task-init
loop-task-init g c = keys_none (λ i. expiry_key (at (g.G.Group.tasks c.args.self.now.group) i).gap i c.args.self.now.clock (get_or c.args.self.now.table.seats i new_seat).slot)

pub loop-task-preserved : goal.loop-task-preserved
loop-task-preserved g c =
    let l : c.loop-task.task < 64 = omega arith in
    let e : c.from.result ≡ c.loop-task.task = search rules in
    rw e
    (keys_more (λ i. expiry_key (at (g.G.Group.tasks c.args.self.now.group) i).gap i c.args.self.now.clock (get_or c.args.self.now.table.seats i new_seat).slot) c.loop-task.task c.loop-task.keys c.left.result l
    c.left.ensures c.loop-task.invariant)

pub returns : goal.returns
returns g c =
    let n = length (g.G.Group.tasks c.args.self.now.group) in
    let e : c.loop-task.task ≡ min n 64 = omega arith in
    keys_all (λ i. expiry_key (at (g.G.Group.tasks c.args.self.now.group) i).gap i c.args.self.now.clock (get_or c.args.self.now.table.seats i new_seat).slot) n c.loop-task.task c.loop-task.keys e c.loop-task.invariant
