use Rattle.std.proofs.Common.{◌≡◌, ◌∙◌, ap, length, rules, arith}
use borrow.Author.Tests.{tests}
use Rattle.std.specs.Result.{result_from_control_flow, IsErr, IsErrAnd}
use Rattle.denial.specs.Checks.{unless}
use Rattle.admission.specs.Ranks.{classes_fault}
use Rattle.admission.proofs.Tries.{tried, err_is, tasks_fault}
use Rattle.admission.proofs.marked.Marked.check_bounds.Goals as goal

pub returns : goal.returns
returns g c =
    let ts = g.G.Group.tasks c.args.self.now.group.now in
    let e : c.count.result ≡ length ts = omega arith in
    tried (λ v c. v ≡ result_from_control_flow c) (λ x r. IsErr r × IsErrAnd r (λ d. d ≡ x.0)) _ c.try_for_each.result c.try_for_each.ensures.runs (length ts) (ap (λ n. record { start = 0; end = n }) e) (classes_fault ts)
    (λ x v q k. search (rules, tests)) (λ v h. h) (λ v r x h k. (x.0, h, err_is r x.0 k.1))
    ∙ ap (λ o. unless o tt) (tasks_fault ts)
