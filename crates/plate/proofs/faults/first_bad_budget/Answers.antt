use Rattle.std.proofs.Common.{length, sym, rules}
use Rattle.std.proofs.iter.runs.Made.{chains}
use Rattle.find.proofs.Firsts.{first_is}
use Rattle.plate.specs.Faults.{frame_at, bad_budget}
use Rattle.plate.proofs.faults.first_bad_budget.Goals as goal

pub returns-clause-value : goal.returns-clause-value
returns-clause-value c =
    sym (first_is (λ i. bad_budget c.args.gap (frame_at c.args.frames.now i).budget) (length c.args.frames.now) c.position.result (search (rules, chains)))
