-- What is shown of the two kinds, beyond the laws of a group. Assumes nothing.
use Rattle.std.specs.Prelude.{◌≡◌, ℕ, ◌<◌, ◌≤◌, length}
use Rattle.std.specs.List.{AllByRecursion}
use Rattle.group.specs.Task.{Attained, at}
use Rattle.plate.specs.Rows.{Counted, Framed}
use Rattle.plate.specs.Plans.{SoundCounted, SoundFramed}
use Rattle.kinds.specs.MissCounted.{counted_task, IsMissCounted}
use Rattle.kinds.specs.Frames.{framed_task}
use Rattle.kinds.specs.Listed.{MissCountedTable, FrameTable, counted_rows, counted_tasks, framed_rows}

-- no smaller demand of a miss-counted row would cover: for each number of jobs and each rank some succession asks for all of it
abbrev pub CountedAttained : Type 0
CountedAttained = (c : Counted) → SoundCounted c → Attained (counted_task c)

-- and none of a frame row
abbrev pub FramedAttained : Type 0
FramedAttained = (f : Framed) → SoundFramed f → Attained (framed_task f)

-- every task of a miss-counted table has the classes and moves of that kind
abbrev pub TableCounts : Type 0
TableCounts = (t : MissCountedTable) (i : ℕ) → i < length (counted_tasks t) → IsMissCounted (at (counted_tasks t) i)

-- and so has a task of one frame
abbrev pub OneFrameCounts : Type 0
OneFrameCounts = (f : Framed) → SoundFramed f → length f.frames ≡ 1 → IsMissCounted (framed_task f)

-- what the tables hold keeps the rules of its kind, as a plate has them, and is never more than 16 rows
abbrev pub TablesSound : Type 0
TablesSound =
    ((t : MissCountedTable) → AllByRecursion SoundCounted (counted_rows t) × (length (counted_rows t) ≤ 16))
    × ((t : FrameTable) → AllByRecursion SoundFramed (framed_rows t) × (length (framed_rows t) ≤ 16))
