use Rattle.std.proofs.Common.{arith, rules}
use Rattle.plate.specs.Faults.{frame_at}
use Rattle.plate.specs.Rows.{frames_of}
use Rattle.plate.proofs.Frames.{made_at, padded_at}
use Rattle.plate.proofs.frame.unpack.Goals as goal

pub returns : goal.returns
returns c =
    let bs = c.args.bytes.now in
    let made = c.from_fn.ensures.items in
    padded_at (frames_of bs) c.from_fn.result made.long
    (λ i l. made_at _ _ (frame_at (frames_of bs)) c.from_fn.result _ (λ q k y call. search rules) 8 0 made.each i i l (omega arith))
