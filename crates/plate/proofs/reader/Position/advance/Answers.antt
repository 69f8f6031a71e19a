use Rattle.std.proofs.Common.{refl}
use Rattle.plate.specs.Reading.{Kept}
use Rattle.plate.specs.Readers.{state_at, plate_at}
use Rattle.plate.proofs.Steps.{step_counted, step_framed}
use Rattle.plate.proofs.reader.Position.advance.Goals as goal

pub past-requires : goal.past-requires
past-requires c =
    let at = c.args.self.now in
    let start = c.row_start-start.ensures in
    let kept : Kept (state_at at) = record { aligned = at.aligned; within = at.within; few = at.few; counts = at.counts } in
    let result = rw (start.0, start.1) at c.in_ok-row.ensures.result in
    let place = rw start.1 at (c.in_ok-row.ensures.place refl) in
    (step_counted (plate_at at) (state_at at) _ _ c.counted_row.new.cursor.place c.if-self-gt0.true kept result place refl).kept

pub past-requires-then-self-gt0-2 : goal.past-requires-then-self-gt0-2
past-requires-then-self-gt0-2 c =
    let at = c.args.self.now in
    let start = c.row_start-start.ensures in
    let kept : Kept (state_at at) = record { aligned = at.aligned; within = at.within; few = at.few; counts = at.counts } in
    let result = rw (start.0, start.1) at c.in_ok-row-2.ensures.result in
    let place = rw start.1 at (c.in_ok-row-2.ensures.place refl) in
    (step_framed (plate_at at) (state_at at) _ _ c.framed_row.new.cursor.place c.if-self-gt0.false c.if-self-gt0-2.true kept result place refl).kept
