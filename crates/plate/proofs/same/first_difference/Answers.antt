use Rattle.std.proofs.Common.{min, not, ◌==◌, length, slice_index, sym, rules}
use Rattle.std.proofs.iter.runs.Made.{chains}
use Rattle.find.proofs.Firsts.{first_is}
use Rattle.plate.proofs.same.first_difference.Goals as goal

pub returns : goal.returns
returns c =
    let a = c.args.a.now in
    let b = c.args.b.now in
    sym (first_is (λ i. not (slice_index a i == slice_index b i)) (min (length a) (length b)) c.position.result (search (rules, chains)))
