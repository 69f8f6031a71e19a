use Rattle.std.proofs.Common.{◌≡◌, length, drop, None, sym, ap, ◌∙◌}
use Rattle.std.specs.Option.{option_or}
use Rattle.bounds.proofs.Checked.{clear}
use Rattle.admission.specs.Start.{early_fault, plan_fault, start_fault, scratch_after}
use Rattle.admission.proofs.Marking.{marks_held}
use Rattle.admission.proofs.Verdict.{start_says, early_passed, answer}
use Rattle.admission.proofs.admit.Goals as goal

pub invariant_of-marked : goal.invariant_of-marked
invariant_of-marked g c =
    let ts = g.G.Group.tasks c.args.group.now in
    let s = c.args.scratch.now in
    let passed = early_passed ts c.args.started (length s) (clear _ tt _ c.in_ok-prepare.ensures.result) in
    record { few = passed.3; held = marks_held ts (drop 256 s) c.prepare.new.scratch c.in_ok-prepare.ensures.scratch }

pub returns-clause-scratch : goal.returns-clause-scratch
returns-clause-scratch g c =
    let ts = g.G.Group.tasks c.args.group.now in
    let s = c.args.scratch.now in
    let e : early_fault c.args.started (length s) ts ≡ None = clear _ tt _ c.in_ok-prepare.ensures.result in
    c.in_ok-prepare.ensures.scratch ∙ sym (ap (λ x. scratch_after x ts s) e)

pub returns-clause-law : goal.returns-clause-law
returns-clause-law g c =
    let ts = g.G.Group.tasks c.args.group.now in
    let s = c.args.scratch.now in
    let e : early_fault c.args.started (length s) ts ≡ None = clear _ tt _ c.in_ok-prepare.ensures.result in
    let r : c.check.result ≡ answer (start_fault c.args.started (length s) ts) = c.check.ensures ∙ sym (ap (λ x. answer (option_or x (plan_fault ts))) e) in
    rw r (start_says ts c.args.started (length s))
