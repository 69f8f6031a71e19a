use Rattle.std.proofs.Common.{ap}
use Rattle.plate.specs.Reading.{handed}
use Rattle.plan.proofs.Takes.{counted_taken, framed_taken, as_counted, as_framed}
use Rattle.plan.proofs.load.Plan.take.Goals as goal

pub frame_row-requires : goal.frame_row-requires
frame_row-requires c =
    let it = as_framed (handed c.args.row) _ _ _ (ap handed c.in-Frames.is) in
    (it.sound c.requires.sound).classes.1

pub returns-in-MissCounted : goal.returns-in-MissCounted
returns-in-MissCounted c =
    let it = as_counted (handed c.args.row) _ _ _ _ (ap handed c.in-MissCounted.is) in
    let taken =
    counted_taken c.args.self.now.counted c.add.new.self c.counted_row.result _ c.add.result
    (it.room _ _ c.requires.room) c.counted_row.ensures.few c.counted_row.ensures.says (it.sound c.requires.sound)
    c.add.ensures.result c.add.ensures.table in
    record { result = taken.0; rows = it.added _ _ _ taken.1; first = λ f. (taken.2 f.0, f.1) }

pub returns-in-Frames : goal.returns-in-Frames
returns-in-Frames c =
    let it = as_framed (handed c.args.row) _ _ _ (ap handed c.in-Frames.is) in
    let taken =
    framed_taken c.args.self.now.frames c.add-in-Frames.new.self c.frame_row.result _ c.add-in-Frames.result
    (it.room _ _ c.requires.room) c.frame_row.ensures.few c.frame_row.ensures.says (it.sound c.requires.sound)
    c.add-in-Frames.ensures.result c.add-in-Frames.ensures.table in
    record { result = taken.0; rows = it.added _ _ _ taken.1; first = λ f. (f.0, taken.2 f.1) }
