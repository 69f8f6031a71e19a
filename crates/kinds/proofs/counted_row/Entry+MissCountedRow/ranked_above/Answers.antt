use Rattle.std.proofs.Common.{◌≡◌, ◌+◌, cond, ltb, take, sym, ◌∙◌, rules}
use Rattle.std.specs.List.{sum_by}
use Rattle.kinds.specs.CountedRows.{above_sum}
use Rattle.kinds.proofs.counted_row.Entry+MissCountedRow.ranked_above.Goals as goal

pub returns : goal.returns
returns c =
    let row = c.args.self.now.row in
    let ranks = take (row.misses + 1) row.ranks in
    let sum : c.sum.result ≡ sum_by (λ r. cond (ltb c.args.rank r) 1 0) ranks = search rules in
    sum ∙ sym (above_sum c.args.rank ranks)
