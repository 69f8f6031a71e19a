use Rattle.std.proofs.Common.{◌≡◌, ◌∙◌, sym, ap, min, length, nat_lt, None, MatchOption, rules, arith}
use borrow.Author.Tests.{tests}
use Rattle.std.specs.Bool.{then_some}
use Rattle.std.specs.List.{reduce, filter_map}
use Rattle.std.proofs.lemmas.Iterator.{YieldsList-from_map}
use Rattle.std.proofs.lemmas.Iterator.Adapters.{option_map_id}
use Rattle.std.proofs.lemmas.Iterator.Consumers.{YieldsList-at, YieldsList-from_filter_map, min_from_yields_List}
use Rattle.find.specs.First.{first}
use Rattle.group.specs.declared.meaning.Terms.{Terms}
use Rattle.group.specs.Task.{at, terms_of}
use Rattle.group.specs.Ranges.{YieldsList-from_inclusive}
use Rattle.bounds.proofs.Chains.{terms_listed}
use Rattle.admission.specs.Start.{uses, share}
use Rattle.admission.proofs.Pairs.{with}
use Rattle.admission.proofs.Searches.{sharer_found, first_below}
use Rattle.admission.proofs.marked.Marked.shared_with.Goals as goal

pub returns : goal.returns
returns g c =
    let ts = g.G.Group.tasks c.args.self.now.group.now in
    let t = at ts c.args.task in
    let user = λ (d : Terms). first (λ i. uses (at ts i).classes d.rank) (length ts) in
    let n : c.new.result.end ≡ length t.classes = omega arith in
    let found = min_from_yields_List c.filter_map.result c.min.result c.min.ensures.ran
    (YieldsList-from_filter_map _ user
    (YieldsList-at c.filter_map.ensures.source (YieldsList-from_map _ (terms_of t)
    (YieldsList-at c.map.ensures.source (YieldsList-from_inclusive (length t.classes) c.new.ensures.start n c.new.ensures.exhausted))
    c.map.ensures.closure (λ x r q k. search rules)))
    c.filter_map.ensures.closure (λ x r q k. search rules)) in
    let lowest : c.min.result ≡ first (λ i. share (at ts i).classes t.classes) (length ts) =
    sym (option_map_id c.min.result) ∙ found ∙ ap (λ ds. reduce min (filter_map user ds)) (terms_listed t) ∙ sharer_found ts (length ts) t.classes in
    let kept : MatchOption c.min.result (c.filter.result ≡ None) (λ x. c.filter.result ≡ then_some (nat_lt x c.args.task) x) = search (rules, tests) in
    let below = first_below (λ i. share (at ts i).classes t.classes) (length ts) c.args.task c.min.result c.filter.result lowest kept in
    let made : c.map-2.result ≡ with c.args.task c.filter.result = search (rules, tests) in
    made ∙ ap (with c.args.task) below
