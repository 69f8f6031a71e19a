use Rattle.std.proofs.Common.{◌≡◌, true, ◌++◌, length, drop}
use Rattle.dispatcher.specs.State.{state_of}
use Rattle.dispatcher.specs.Records.{ends_upto}
use Rattle.dispatcher.specs.Passing.{Passed}
use Rattle.dispatcher.proofs.passing.pass_all.Given as goal

abbrev pub invariant-loop-task : goal.invariant-loop-task
invariant-loop-task g l =
    let ts = g.G.Group.tasks l.initial.group in
    let s = state_of l.tick.clock true (g.G.Group.places l.initial.group) l.initial.table.seats in
    (g.G.Group.tasks l.group ≡ ts)
    × Passed ts l.tick.clock l.tick.mark l.tick.ran l.task l.initial.table.seats l.table.seats (g.G.Group.places l.initial.group) (g.G.Group.places l.group)
    × (l.records.count ≡ length (ends_upto ts s l.tick.mark l.tick.ran l.task))
    × (l.records.list.now ≡ ends_upto ts s l.tick.mark l.tick.ran l.task ++ drop l.records.count l.initial.records.list.now)
    × (l.records.list.ghost_name ≡ l.initial.records.list.ghost_name)
