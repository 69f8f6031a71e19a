use Rattle.kinds.specs.FramedRows.{refused_many, refused}
use Rattle.kinds.proofs.frame_row.FrameRowTableRow.check.Goals as goal

pub returns-then-self-gt8-clause-value : goal.returns-then-self-gt8-clause-value
returns-then-self-gt8-clause-value c = refused_many c.args.self.now c.if-self-gt8.true c.denies.result c.denies.ensures

pub returns-clause-value : goal.returns-clause-value
returns-clause-value c =
    refused c.args.self.now c.from.result c.check_frames.result c.from.ensures c.if-self-gt8.false c.check_frames.ensures.value
