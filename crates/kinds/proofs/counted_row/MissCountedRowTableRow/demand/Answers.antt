use Rattle.std.proofs.Common.{◌+◌, ◌≤◌, ◌∙◌, arith}
use Rattle.kinds.specs.CountedRows.{demand_small, above_few}
use Rattle.kinds.proofs.counted_row.MissCountedRowTableRow.demand.Goals as goal

pub most_in_top-requires : goal.most_in_top-requires
most_in_top-requires c =
    let entry = c.args.entry.now in
    (omega arith, (omega (arith, above_few entry.row entry.keeps c.args.rank, c.ranked_above.ensures), (omega arith, omega arith)))

pub overflow_mul-result : goal.overflow_mul-result
overflow_mul-result c =
    let entry = c.args.entry.now in
    let few : c.from-n.result ≤ entry.row.misses + 1 = omega (arith, above_few entry.row entry.keeps c.args.rank, c.ranked_above.ensures) in
    omega (
      arith,
      demand_small entry.row entry.keeps c.from.result c.from-2.result c.from-n.result c.from-jobs.result c.most_in_top.result c.from.ensures
          (c.from-2.ensures ∙ c.classes.ensures) few (omega arith) c.most_in_top.ensures,
    )
