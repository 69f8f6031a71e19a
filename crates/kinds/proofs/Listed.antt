-- The rows that the two tables hold keep the rules of their kind, as a plate has them.
use Rattle.std.proofs.Common.{ℕ, ◌<◌, ◌≤◌, length}
use Rattle.std.specs.List.{AllByRecursion}
use Rattle.group.specs.Task.{at}
use Rattle.plate.specs.Plans.{SoundCounted, SoundFramed}
use Rattle.kinds.specs.MissCounted.{IsMissCounted}
use Rattle.kinds.specs.Rows.{counted_of}
use Rattle.kinds.specs.Listed.{MissCountedTable, FrameTable, counted_rows, counted_tasks, framed_rows}
use Rattle.kinds.specs.TablesLemmas.{all_sound, each, few_rows}
use Rattle.kinds.specs.Counting.{counted_counts}

module _ (t : MissCountedTable) where
  pub counted_sound : AllByRecursion SoundCounted (counted_rows t)
  counted_sound = all_sound t.entries.items

  pub counted_few : length (counted_rows t) ≤ 16
  counted_few = few_rows t

  pub table_counts : (i : ℕ) → i < length (counted_tasks t) → IsMissCounted (at (counted_tasks t) i)
  table_counts = each (λ t _. IsMissCounted t) (λ e. counted_counts (counted_of e.row) e.keeps.sound) t.entries.items

module _ (t : FrameTable) where
  pub framed_sound : AllByRecursion SoundFramed (framed_rows t)
  framed_sound = all_sound t.entries.items

  pub framed_few : length (framed_rows t) ≤ 16
  framed_few = few_rows t
