use Rattle.std.proofs.Common.{ℕ, ◌∙◌, sym, ap, rules, unwrap_or}
use Rattle.std.proofs.lemmas.Iterator.{YieldsList-from_map}
use Rattle.std.proofs.lemmas.Iterator.Adapters.{option_map_id}
use Rattle.std.proofs.lemmas.Iterator.Consumers.{YieldsList-at, max_from_yields_List}
use Rattle.kinds.specs.Cycle.{successive}
use Rattle.kinds.specs.Rows.{row_above}
use Rattle.group.specs.Ranges.{YieldsList-from_inclusive}
use Rattle.kinds.proofs.Chains.{largest_found}
use Rattle.kinds.proofs.frame_row.Entry+FrameRow.largest_above.Goals as goal

pub returns : goal.returns
returns c =
    let row = c.args.self.now.row in
    let f = λ (x : ℕ). successive (row_above row c.args.rank) row.count x c.args.number in
    let found = max_from_yields_List c.map.result c.max.result c.max.ensures.ran
    (YieldsList-from_map _ f
    (YieldsList-at c.map.ensures.source (YieldsList-from_inclusive row.count c.new.ensures.start c.new.ensures.end c.new.ensures.exhausted))
    c.map.ensures.closure (λ x r q k. search rules)) in
    c.unwrap_or.ensures ∙ ap (λ o. unwrap_or o 0) (sym (option_map_id c.max.result) ∙ found) ∙ largest_found row.count f
