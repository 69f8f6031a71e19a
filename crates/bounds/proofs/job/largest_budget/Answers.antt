use Rattle.std.proofs.Common.{◌≡◌, ◌∙◌, sym, ap, max, length, nat_le, rules, unwrap_or, arith}
use Rattle.std.specs.List.{reduce}
use Rattle.std.proofs.lemmas.Iterator.{YieldsList-from_map}
use Rattle.std.proofs.lemmas.Iterator.Adapters.{option_map_id}
use Rattle.std.proofs.lemmas.Iterator.Consumers.{YieldsList-at, YieldsList-from_filter, max_from_yields_List}
use borrow.Author.Tests.{tests}
use Rattle.group.specs.Task.{at, terms_of}
use Rattle.group.specs.Ranges.{YieldsList-from_inclusive}
use Rattle.bounds.proofs.Chains.{terms_listed, budgets, largest_found}
use Rattle.bounds.proofs.job.largest_budget.Goals as goal

pub returns : goal.returns
returns g c =
    let t = at (g.G.Group.tasks c.args.group.now) c.args.task in
    let p = c.args.least in
    let n : c.new.result.end ≡ length t.classes = omega arith in
    let found = max_from_yields_List c.map-2.result c.max.result c.max.ensures.ran
    (YieldsList-from_map _ (λ x. x.budget)
    (YieldsList-at c.map-2.ensures.source (YieldsList-from_filter _ (λ x. nat_le p x.rank)
    (YieldsList-at c.filter.ensures.source (YieldsList-from_map _ (terms_of t)
    (YieldsList-at c.map.ensures.source (YieldsList-from_inclusive (length t.classes) c.new.ensures.start n c.new.ensures.exhausted))
    c.map.ensures.closure (λ x r q k. search rules)))
    c.filter.ensures.closure (λ x r q k. search (rules, tests))))
    c.map-2.ensures.closure (λ x r q k. search rules)) in
    c.unwrap_or.ensures ∙ ap (λ o. unwrap_or o 0) (sym (option_map_id c.max.result) ∙ found)
    ∙ ap (λ cs. unwrap_or (reduce max (budgets p cs)) 0) (terms_listed t) ∙ largest_found p t.classes
