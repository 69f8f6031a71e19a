use Rattle.std.proofs.Common.{◌≡◌, ◌∙◌, length, sym, rules, arith}
use Rattle.std.proofs.lemmas.Iterator.Adapters.{option_map_id}
use Rattle.std.proofs.lemmas.Iterator.Search.{find_from_yields_List}
use borrow.Author.Tests.{tests}
use Rattle.group.specs.Task.{at}
use Rattle.group.specs.Ranges.{YieldsList-from_inclusive}
use Rattle.admission.specs.Start.{lacking}
use Rattle.admission.proofs.Searches.{find_listed}
use Rattle.admission.proofs.marked.Marked.lowest_lacking.Goals as goal

pub returns : goal.returns
returns g c =
    let ts = g.G.Group.tasks c.args.self.now.group.now in
    let n : c.new.result.end ≡ length (at ts c.args.task).classes = omega arith in
    sym (option_map_id c.find.result)
    ∙ find_from_yields_List (lacking ts c.args.task) _ _ c.find.result c.find.ensures.ran
    (YieldsList-from_inclusive (length (at ts c.args.task).classes) c.new.ensures.start n c.new.ensures.exhausted)
    (λ x b q k. search (rules, tests))
    ∙ find_listed (lacking ts c.args.task) (length (at ts c.args.task).classes)
