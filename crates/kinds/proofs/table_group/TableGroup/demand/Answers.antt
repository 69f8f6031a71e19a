use Rattle.std.proofs.Common.{◌≡◌, rules}
use Rattle.group.specs.Task.{at}
use Rattle.kinds.specs.Held.{tasks_of}
use Rattle.kinds.specs.TablesLemmas.{lawfuls, attaineds, all_asked}
use Rattle.kinds.proofs.table_group.TableGroup.demand.Goals as goal

pub returns-clause-attained : goal.returns-clause-attained
returns-clause-attained g c =
    let t = c.args.self.now in
    let i = c.args.task in
    let value : c.map_or.result ≡ (at (tasks_of t) i).demand c.args.jobs c.args.rank = search rules in
    λ l. all_asked (at (tasks_of t) i) (lawfuls t i l) (attaineds t i l) c.args.jobs c.args.rank c.map_or.result value
