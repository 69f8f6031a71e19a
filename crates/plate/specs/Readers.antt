-- What a reader holds. Assumes nothing.
use Rattle.std.specs.Prelude.{ℕ, List}
use Rattle.plate.specs.declared.reader.Counts.{Counts}
use Rattle.plate.specs.declared.reader.Position.{Position}
use Rattle.plate.specs.declared.reader.Reader.{Reader}
use Rattle.plate.specs.Reading.{State}

abbrev pub state_at : Position → State
state_at at = record { place = at.cursor.place; row = at.row; counted = at.counted; framed = at.framed }

-- how far it has come
abbrev pub state : Reader → State
state r = state_at r.at

-- the plate
abbrev pub plate_at : Position → List ℕ
plate_at at = at.cursor.plate.now

abbrev pub plate_of : Reader → List ℕ
plate_of r = plate_at r.at

-- the rows of each kind to come
abbrev pub to_come : State → Counts
to_come s = record { counted = s.counted; framed = s.framed }
