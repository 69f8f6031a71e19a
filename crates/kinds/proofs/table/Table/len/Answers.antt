use Rattle.kinds.specs.TablesLemmas.{all_sound}
use Rattle.kinds.proofs.table.Table.len.Goals as goal

pub returns-clause-sound : goal.returns-clause-sound
returns-clause-sound g c = all_sound c.args.self.now.entries.items
