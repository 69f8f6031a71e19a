use Rattle.std.proofs.Common.{rules}
use Rattle.kinds.specs.Rows.{counted_of}
use Rattle.plan.proofs.Handed.{taken_again, counted_handed}
use Rattle.plan.proofs.plate_row.MissCountedRowPlateRow.write.Goals as goal

pub returns : goal.returns
returns c =
    let entry = c.args.entry.now in
    let told = c.write_miss_counted.ensures in
    let written =
    counted_handed c.args.out.now c.write_miss_counted.new.out c.args.at (counted_of entry.row) _ c.write_miss_counted.result entry.keeps.sound
    c.requires told.result told.out (search (rules, taken_again)) in
    record { end = written.0; out = written.1 }
