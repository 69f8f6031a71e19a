-- The rows of the two tables: what each says, its first fault, and the rules that it keeps. Assumes nothing.
use Rattle.std.specs.Prelude.{ℕ, ◌+◌, ◌-◌, ◌<◌, ◌≤◌, length, take, Option, nat_le, nat_lt, slice_index, replicate}
use Rattle.std.specs.Option.{option_or}
use Rattle.denial.specs.declared.Denial.{Denial}
use Rattle.denial.specs.declared.Rule.TheVariants.{Ranks}
use Rattle.denial.specs.Numbers.{denied}
use Rattle.group.specs.declared.meaning.Outcome.{Outcome}
use Rattle.group.specs.declared.meaning.Outcome.TheVariants.{Finish, Miss}
use Rattle.group.specs.declared.meaning.Terms.{Terms}
use Rattle.group.specs.Task.{Task}
use Rattle.denial.specs.Checks.{when}
use Rattle.plate.specs.Faults.{frame_at, counted_fault, framed_fault}
use Rattle.plate.specs.Plans.{SoundCounted, SoundFramed}
use Rattle.plate.specs.Rows.{Counted, Framed}
use Rattle.kinds.specs.declared.rows.MissCountedRow.{MissCountedRow}
use Rattle.kinds.specs.declared.rows.FrameRow.{FrameRow}
use Rattle.kinds.specs.Cycle.{next_class}
use Rattle.kinds.specs.MissCounted.{counted_task}
use Rattle.kinds.specs.Frames.{framed_task, frame_terms, frame_above}

-- how many classes a miss-counted row has
abbrev pub counted_classes : MissCountedRow → ℕ
counted_classes r = r.misses + 1

-- what a miss-counted row says: its ranks are the first of its array
abbrev pub counted_of : MissCountedRow → Counted
counted_of r = record { gap = r.gap; budget = r.budget; ranks = take (r.misses + 1) r.ranks }

-- its first fault: more than 7 misses, and then the rules of its kind
unfoldable pub counted_row_fault : MissCountedRow → Option Denial
counted_row_fault r =
    option_or (when (nat_lt 7 r.misses) (denied Ranks 0 32)) (counted_fault 0 0 r.gap r.budget (take (r.misses + 1) r.ranks))

-- a row whose ranks are all there and that keeps the rules of its kind
pub record GoodCounted (r : MissCountedRow) : Type 0 where
  pub few : r.misses ≤ 7
  pub whole : r.misses < length r.ranks
  pub sound : SoundCounted (counted_of r)

-- the terms of one of its classes, from 1 on
abbrev pub counted_class : MissCountedRow → ℕ → Terms
counted_class r c = record { rank = slice_index r.ranks (c - 1); budget = r.budget; tolerated = nat_le c r.misses }

-- the class of a miss-counted task of k classes after a job
abbrev pub counted_next : ℕ → Outcome → ℕ → ℕ
counted_next k Finish x = 1
counted_next k Miss x = next_class k x

-- the task that it means
abbrev pub counted_row_task : MissCountedRow → Task
counted_row_task r = counted_task (counted_of r)

-- how many classes a frame row has
abbrev pub framed_classes : FrameRow → ℕ
framed_classes r = r.count

-- what a frame row says: its frames are the first of its array
abbrev pub framed_of : FrameRow → Framed
framed_of r = record { gap = r.gap; frames = take r.count r.frames }

-- its first fault: more than 8 frames, and then the rules of its kind
unfoldable pub framed_row_fault : FrameRow → Option Denial
framed_row_fault r =
    option_or (when (nat_lt 8 r.count) (denied Ranks 0 28)) (framed_fault 0 0 r.gap (take r.count r.frames))

-- a row whose frames are all there and that keeps the rules of its kind
pub record GoodFramed (r : FrameRow) : Type 0 where
  pub some : 1 ≤ r.count
  pub few : r.count ≤ 8
  pub whole : r.count ≤ length r.frames
  pub sound : SoundFramed (framed_of r)

-- the terms of one of its frames, from 1 on
abbrev pub framed_class : FrameRow → ℕ → Terms
framed_class r c = frame_terms (frame_at r.frames (c - 1))

-- the task that it means
abbrev pub framed_row_task : FrameRow → Task
framed_row_task r = framed_task (framed_of r)

-- the budgets of its frames whose rank is above p
abbrev pub row_above : FrameRow → ℕ → ℕ → ℕ
row_above r p = frame_above (take r.count r.frames) p

-- the rows that stand in the places of a table that no task has
abbrev pub counted_blank : MissCountedRow
counted_blank = record { gap = 1; budget = 1; misses = 0; ranks = replicate 8 1 }

abbrev pub framed_blank : FrameRow
framed_blank = record { gap = 1; count = 1; frames = replicate 8 (record { budget = 1; rank = 1 }) }
