use Rattle.std.proofs.Common.{◌∙◌, length, rules, arith}
use Rattle.std.proofs.lemmas.Iterator.{YieldsList-from_range}
use Rattle.std.proofs.lemmas.Iterator.Consumers.{YieldsList-from_filter_map, reduce_from_yields_List}
use Rattle.admission.specs.Start.{sharing}
use Rattle.admission.proofs.Pairs.{earlier, found_with, pair_found}
use Rattle.admission.proofs.marked.Marked.shared_pair.Goals as goal

pub returns : goal.returns
returns g c =
    let ts = g.G.Group.tasks c.args.self.now.group.now in
    reduce_from_yields_List earlier c.filter_map.result c.min.result c.min.ensures.ran
    (YieldsList-from_filter_map _ (found_with (sharing ts) (length ts)) (YieldsList-from_range 0 c.count.result (length ts) c.filter_map.ensures.source (omega arith))
    c.filter_map.ensures.closure (λ x r q k. search rules))
    ∙ pair_found (sharing ts) (length ts)
