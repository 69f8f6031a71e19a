use Rattle.std.proofs.Common.{◌/◌, length, take, sym, ap, ◌∙◌, arith}
use Rattle.plate.specs.Rows.{frames_of}
use Rattle.plate.proofs.Frames.{frames_length, padded_few}
use Rattle.plan.proofs.load.frame_row.Goals as goal

pub overflow_cast-result : goal.overflow_cast-result
overflow_cast-result c = let n = frames_length c.args.bytes.now in record { fits = omega arith }

pub returns : goal.returns
returns c =
    let bs = c.args.bytes.now in
    let n = frames_length bs in
    let all = ap (take (length bs / 3)) c.unpack.ensures ∙ padded_few (frames_of bs) (length bs / 3) (sym n) (omega arith) in
    record { says = rw all; few = omega arith }
