use Rattle.std.proofs.Common.{◌≡◌, ◌<◌, length, map, get_or, refl, ap, ◌∙◌, rules}
use Rattle.group.specs.Task.{settled}
use Rattle.kinds.specs.Held.{tasks_of, places_of}
use Rattle.kinds.specs.TablesLemmas.{moved, row_stays, place_moves}
use Rattle.kinds.proofs.table_group.TableGroup.settle.Goals as goal

pub invariant_of-entry : goal.invariant_of-entry
invariant_of-entry g c =
    let entry = c.in-Some.entry.now in
    let classes = moved entry c.args.outcome c.next-next.result c.next-next.ensures in
    record { keeps = entry.keeps; low = classes.0; high = classes.1 }

pub returns-in-Some-clause-tasks : goal.returns-in-Some-clause-tasks
returns-in-Some-clause-tasks g c =
    let t = c.args.self.now in
    let entry = c.in-Some.entry.now in
    let here : c.from.result < length t.entries.items = search rules in
    let stands : entry ≡ get_or t.entries.items c.from.result entry = search rules in
    ap (map g.R.TableRow.kind.task) (row_stays t c.from.result entry here stands _ refl)

pub returns-in-Some-clause-places : goal.returns-in-Some-clause-places
returns-in-Some-clause-places g c =
    let t = c.args.self.now in
    let entry = c.in-Some.entry.now in
    let here : c.from.result < length t.entries.items = search rules in
    let stands : entry ≡ get_or t.entries.items c.from.result entry = search rules in
    place_moves t c.from.result entry here stands _ c.args.outcome c.next-next.ensures
    ∙ ap (λ i. settled (tasks_of t) (places_of t) i c.args.outcome) c.from.ensures
