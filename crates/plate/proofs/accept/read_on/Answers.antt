use Rattle.std.proofs.Common.{sym, ◌∙◌}
use Rattle.plate.specs.Readers.{state, plate_of}
use Rattle.plate.proofs.Rests.{reads_more}
use Rattle.plate.proofs.accept.read_on.Goals as goal

pub loop-preserved : goal.loop-preserved
loop-preserved c =
    let r = c.loop.reader in
    let told = c.in_ok-next_row.ensures in
    let is = rw c.in-Some.is at told.result in
    let more = reads_more (plate_of r) (state r) (state c.next_row.new.self) _ c.loop.invariant.1 is told.after in
    (told.plate ∙ c.loop.invariant.0, more.1, rw told.plate (sym more.0 ∙ c.loop.invariant.2))
