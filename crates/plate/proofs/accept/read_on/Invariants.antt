use Rattle.std.proofs.Common.{◌≡◌, ◌+◌, ◌<◌}
use Rattle.plate.specs.Reading.{fault_of, rest_of}
use Rattle.plate.specs.Readers.{state, plate_of}
use Rattle.plate.proofs.accept.read_on.Given as goal

-- what is at fault in the rows to come stays
abbrev pub invariant-loop : goal.invariant-loop
invariant-loop l =
    (plate_of l.reader ≡ plate_of l.initial.reader) × (0 < (state l.reader).place)
    × (fault_of (rest_of (plate_of l.reader) (state l.reader)) ≡ fault_of (rest_of (plate_of l.reader) (state l.initial.reader)))

abbrev pub decreases-loop : goal.decreases-loop
decreases-loop l = (state l.reader).counted + (state l.reader).framed
