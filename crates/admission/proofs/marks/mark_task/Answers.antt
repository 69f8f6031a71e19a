use Rattle.std.proofs.Common.{◌≡◌, ◌+◌, ◌-◌, ◌≤◌, length, sym, ap, ◌∙◌, arith}
use Rattle.std.proofs.lemmas.List.{take_all}
use Rattle.group.specs.Task.{at}
use Rattle.admission.proofs.Marking.{marked_class}
use Rattle.admission.proofs.marks.mark_task.Goals as goal

pub loop-class-preserved : goal.loop-class-preserved
loop-class-preserved g c =
    let e : c.loop-class.class + 1 - 1 ≡ c.loop-class.class = omega arith in
    rw e (marked_class (at (g.G.Group.tasks c.args.group.now) c.args.task) c.loop-class.class c.from-rank.result (c.args.task + 1) c.first_mark.result
    c.args.scratch.now c.loop-class.scratch (omega arith, omega arith) (c.from-rank.ensures ∙ ap (λ x. x.rank) c.terms.ensures) (omega arith) (omega arith) (omega arith)
    c.first_mark.ensures c.loop-class.invariant)

pub returns-2 : goal.returns-2
returns-2 g c =
    let t = at (g.G.Group.tasks c.args.group.now) c.args.task in
    let h : length t.classes ≤ c.loop-class.class = omega arith in
    rw (sym (take_all c.loop-class.class t.classes h)) (marked_class t c.loop-class.class c.from-rank.result (c.args.task + 1) c.first_mark.result
    c.args.scratch.now c.loop-class.scratch (omega arith, omega arith) (c.from-rank.ensures ∙ ap (λ x. x.rank) c.terms.ensures) (omega arith) (omega arith) (omega arith)
    c.first_mark.ensures c.loop-class.invariant)
