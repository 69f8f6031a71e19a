use Rattle.std.proofs.Common.{rules}
use Rattle.kinds.specs.Rows.{framed_of}
use Rattle.plan.proofs.Handed.{taken_again, framed_handed}
use Rattle.plan.proofs.plate_row.FrameRowPlateRow.write.Goals as goal

pub returns : goal.returns
returns c =
    let entry = c.args.entry.now in
    let told = c.write_frames.ensures in
    let written =
    framed_handed c.args.out.now c.write_frames.new.out c.args.at (framed_of entry.row) _ c.write_frames.result entry.keeps.sound c.requires
    told.result told.out (search (rules, taken_again)) in
    record { end = written.0; out = written.1 }
