use Rattle.kinds.specs.Attained.{counted_attained, framed_attained}
use Rattle.kinds.proofs.exact.demands_are_attained.Goals as goal

pub returns : goal.returns
returns c = record { counted = counted_attained; framed = framed_attained }
