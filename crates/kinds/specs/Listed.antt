-- What the two tables hold: their rows as a plate tells them, the tasks that these mean, and the present positions. Assumes nothing.
use Rattle.std.specs.Prelude.{ℕ, List}
use Rattle.group.specs.Task.{Task}
use Rattle.plate.specs.Rows.{Counted, Framed}
use Rattle.kinds.specs.declared.table.Table.{Table}
use Rattle.kinds.specs.declared.rows.MissCountedRow.{MissCountedRow}
use Rattle.kinds.specs.declared.rows.FrameRow.{FrameRow}
use Rattle.kinds.specs.Rows.{counted_blank, framed_blank}
use Rattle.kinds.specs.CountedRows.{counted_kind}
use Rattle.kinds.specs.FramedRows.{framed_kind}
use Rattle.kinds.specs.Held.{rows_of, tasks_of, places_of, Held, Added}

-- the table of miss-counted rows; their number stands on a plate from bit 4 on
abbrev pub MissCountedTable : Type 0
MissCountedTable = Table MissCountedRow (record { kind = counted_kind; blank = counted_blank; NUMBER_AT = 4 })

-- the table of frame rows; their number stands on a plate from bit 10 on
abbrev pub FrameTable : Type 0
FrameTable = Table FrameRow (record { kind = framed_kind; blank = framed_blank; NUMBER_AT = 10 })

-- the rows of a miss-counted table
abbrev pub counted_rows : MissCountedTable → List Counted
counted_rows = rows_of

-- the tasks that they mean
abbrev pub counted_tasks : MissCountedTable → List Task
counted_tasks = tasks_of

-- their present positions
abbrev pub counted_places : MissCountedTable → List ℕ
counted_places = places_of

-- row i of a table
abbrev pub CountedRow : MissCountedTable → ℕ → MissCountedRow → Type 0
CountedRow = Held

-- the table with one row more
abbrev pub CountedAdded : MissCountedTable → MissCountedRow → MissCountedTable → Type 0
CountedAdded = Added

-- the rows of a frame table
abbrev pub framed_rows : FrameTable → List Framed
framed_rows = rows_of

-- the tasks that they mean
abbrev pub framed_tasks : FrameTable → List Task
framed_tasks = tasks_of

-- their present positions
abbrev pub framed_places : FrameTable → List ℕ
framed_places = places_of

-- row i of a table
abbrev pub FramedRow : FrameTable → ℕ → FrameRow → Type 0
FramedRow = Held

-- the table with one row more
abbrev pub FramedAdded : FrameTable → FrameRow → FrameTable → Type 0
FramedAdded = Added
