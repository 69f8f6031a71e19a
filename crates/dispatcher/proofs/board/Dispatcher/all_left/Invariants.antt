use Rattle.std.proofs.Common.{get_or}
use Rattle.group.specs.Task.{at}
use Rattle.dispatcher.specs.State.{new_seat}
use Rattle.dispatcher.specs.Keys.{expiry_key, KeysOf}
use Rattle.dispatcher.proofs.board.Dispatcher.all_left.Given as goal

abbrev pub invariant-loop-task : goal.invariant-loop-task
invariant-loop-task g l = KeysOf (λ i. expiry_key (at (g.G.Group.tasks l.self.group) i).gap i l.self.clock (get_or l.self.table.seats i new_seat).slot) l.task l.keys
