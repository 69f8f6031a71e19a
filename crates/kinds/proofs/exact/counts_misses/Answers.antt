use Rattle.kinds.specs.Counting.{one_frame_counts}
use Rattle.kinds.proofs.Listed.{table_counts}
use Rattle.kinds.proofs.exact.counts_misses.Goals as goal

pub returns : goal.returns
returns c = record { counted = table_counts; framed = one_frame_counts }
