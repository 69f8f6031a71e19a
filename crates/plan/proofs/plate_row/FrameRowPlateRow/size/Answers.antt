use Rattle.std.proofs.Common.{rules}
use Rattle.kinds.specs.Rows.{framed_of}
use Rattle.plan.proofs.Handed.{taken_again, framed_size}
use Rattle.plan.proofs.plate_row.FrameRowPlateRow.size.Goals as goal

pub returns : goal.returns
returns c = framed_size (framed_of c.args.entry.now.row) _ (search (rules, taken_again))
