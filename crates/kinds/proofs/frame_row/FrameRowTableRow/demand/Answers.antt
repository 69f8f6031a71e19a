use Rattle.std.proofs.Common.{◌∙◌, arith}
use Rattle.kinds.specs.FramedRows.{demand_made, demand_small}
use Rattle.kinds.proofs.frame_row.FrameRowTableRow.demand.Goals as goal

pub turns_and_rest-requires-clause-small : goal.turns_and_rest-requires-clause-small
turns_and_rest-requires-clause-small c =
    let entry = c.args.entry.now in
    let made =
    demand_made entry.row entry.keeps c.args.rank c.args.jobs c.min-jobs.result c.from-count.result c.successive_above-turn.result
    c.largest_above-rest.result c.min-jobs.ensures c.from-count.ensures c.successive_above-turn.ensures c.largest_above-rest.ensures in
    omega (arith, demand_small entry.row entry.keeps c.args.rank c.args.jobs)

pub returns : goal.returns
returns c =
    let entry = c.args.entry.now in
    c.turns_and_rest.ensures
    ∙ demand_made entry.row entry.keeps c.args.rank c.args.jobs c.min-jobs.result c.from-count.result c.successive_above-turn.result
    c.largest_above-rest.result c.min-jobs.ensures c.from-count.ensures c.successive_above-turn.ensures c.largest_above-rest.ensures
