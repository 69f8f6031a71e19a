use Rattle.std.proofs.Common.{◌≡◌, ◌+◌, ◌<◌}
use Rattle.plate.specs.Reading.{rest_of}
use Rattle.plate.specs.Readers.{state, plate_of}
use Rattle.kinds.specs.Listed.{counted_rows, framed_rows}
use Rattle.plan.specs.Loads.{AtFirst, Room}
use Rattle.plan.specs.Rows.{after_rows}
use Rattle.plan.proofs.load.Plan.fill.Given as goal

-- the rows taken in and the rows to come are the rows that were to come
abbrev pub invariant-loop-row : goal.invariant-loop-row
invariant-loop-row l =
    (plate_of l.reader ≡ plate_of l.initial.reader) × (0 < (state l.reader).place)
    × Room (state l.reader) l.self.counted l.self.frames × AtFirst l.self.counted l.self.frames
    × (after_rows (counted_rows l.self.counted) (framed_rows l.self.frames) (rest_of (plate_of l.reader) (state l.reader))
    ≡ after_rows (counted_rows l.initial.self.counted) (framed_rows l.initial.self.frames) (rest_of (plate_of l.reader) (state l.initial.reader)))

abbrev pub decreases-loop-row : goal.decreases-loop-row
decreases-loop-row l = (state l.reader).counted + (state l.reader).framed
