use Rattle.std.proofs.Common.{◌+◌, arith}
use Rattle.kinds.specs.CountedRows.{refused_many, refused}
use Rattle.kinds.proofs.counted_row.MissCountedRowTableRow.check.Goals as goal

pub returns-then-self-gt7-clause-value : goal.returns-then-self-gt7-clause-value
returns-then-self-gt7-clause-value c = refused_many c.args.self.now c.if-self-gt7.true c.denies.result c.denies.ensures

pub returns-clause-value : goal.returns-clause-value
returns-clause-value c =
    refused c.args.self.now (c.from-classes.result + 1) c.check_miss_counted.result (omega (arith, c.from-classes.ensures)) c.if-self-gt7.false
    c.check_miss_counted.ensures.value
