use Rattle.std.proofs.Common.{◌≡◌, ◌+◌, ◌-◌, ap, arith}
use Rattle.kinds.specs.Cycle.{successive}
use Rattle.kinds.specs.Rows.{row_above}
use Rattle.kinds.specs.CycleLemmas.{next_low, next_high, one_on}
use Rattle.kinds.specs.FramedRows.{sum_small}
use Rattle.kinds.proofs.frame_row.Entry+FrameRow.successive_above.Goals as goal

pub overflow_add-sum : goal.overflow_add-sum
overflow_add-sum c =
    let row = c.args.self.now.row in
    let on = one_on (row_above row c.args.rank) row.count c.loop.frame (c.args.number - c.loop.counter) (omega arith) in
    let small = sum_small row c.args.self.now.keeps c.args.rank c.args.start c.args.number c.requires.low c.requires.high in
    omega (arith, c.loop.invariant.2, c.budget_above-sum.ensures)

pub loop-preserved : goal.loop-preserved
loop-preserved c =
    let row = c.args.self.now.row in
    let left = c.args.number - c.loop.counter in
    let on = one_on (row_above row c.args.rank) row.count c.loop.frame left (omega arith) in
    let next = ap (λ x. successive (row_above row c.args.rank) row.count x (left - 1)) c.next_class-frame.ensures in
    let less : c.args.number - (c.loop.counter + 1) ≡ left - 1 = omega arith in (
      omega (arith, c.next_class-frame.ensures, next_low row.count c.loop.frame),
      omega (arith, c.next_class-frame.ensures, next_high row.count c.loop.frame c.args.self.now.keeps.some),
      rw less (omega (arith, c.loop.invariant.2, c.budget_above-sum.ensures)),
    )
