use Rattle.std.proofs.Common.{◌≡◌, ◌≤◌, ◌++◌, length, drop, replicate, ap, ◌∙◌, arith}
use Rattle.std.proofs.lemmas.List.{length-take-le, drop_at}
use Rattle.admission.specs.Start.{marks}
use Rattle.admission.proofs.Marking.{below_none, below_more, below_all}
use Rattle.admission.proofs.marks.mark_ranks.Goals as goal

pub loop-task-init : goal.loop-task-init
loop-task-init g c =
    let n = length-take-le 256 c.args.scratch.now c.requires.room in
    below_none (g.G.Group.tasks c.args.group.now) c.fill.new.self _ (c.fill.ensures.after (λ y e. e) ∙ ap (λ t. replicate t 0) n)

pub loop-task-preserved : goal.loop-task-preserved
loop-task-preserved g c =
    below_more (g.G.Group.tasks c.args.group.now) c.loop-task.task _ c.loop-task.scratch c.mark_task.new.scratch c.loop-task.invariant c.mark_task.ensures

pub returns : goal.returns
returns g c =
    let ts = g.G.Group.tasks c.args.group.now in
    let e : c.loop-task.task ≡ length ts = omega arith in
    let room : 256 ≤ length c.loop-task.scratch = omega (arith, c.requires.room, c.loop-task.auto.scratch) in
    let len : length c.fill.new.self ≡ 256 = c.fill.ensures.len ∙ length-take-le 256 c.args.scratch.now c.requires.room in
    let all = below_all ts _ c.loop-task.scratch room (rw e at c.loop-task.invariant) in
    all ∙ ap (λ x. marks ts ++ x) (drop_at c.fill.new.self (drop 256 c.args.scratch.now) 256 len)
