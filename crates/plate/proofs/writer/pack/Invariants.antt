use Rattle.std.proofs.Common.{◌≡◌, take}
use Rattle.std.specs.List.{flat_map}
use Rattle.plate.specs.Plans.{bytes_of_frame}
use Rattle.plate.proofs.writer.pack.Given as goal

abbrev pub invariant-loop-frame : goal.invariant-loop-frame
invariant-loop-frame l = l.bytes.items ≡ flat_map bytes_of_frame (take l.frame-index l.frames)
