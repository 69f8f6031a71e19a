use Rattle.std.proofs.Common.{rules}
use Rattle.kinds.specs.TablesLemmas.{looked_up}
use Rattle.kinds.proofs.table.Table.entry.Goals as goal

pub returns : goal.returns
returns g c = looked_up c.args.self.now c.args.task c.get.result (search rules)
