use Rattle.std.proofs.Common.{◌≡◌, ◌+◌, ◌-◌, ◌≤◌, length, ap, ◌∙◌, arith}
use Rattle.group.specs.Task.{at}
use Rattle.printed.specs.Lines.{line_text}
use Rattle.printed.proofs.Chains.{room_for_line, line_more}
use Rattle.printed.proofs.tasks.Lines.put_task.Goals as goal

pub push_str-requires : goal.push_str-requires
push_str-requires g c =
    let ts = g.G.Group.tasks c.args.self.now.group.now in
    let line = c.as_str.ensures.value ∙ c.text.ensures ∙ ap line_text c.of.ensures in
    let high : c.loop-class.class ≤ length (at ts c.args.task).classes = omega (arith, c.class_count-class-end.ensures) in
    let room = room_for_line ts c.args.task c.loop-class.class _ _ _ c.loop-class.auto.class high c.loop-class.invariant c.requires.room in
    omega (arith, ap length line, room)

pub loop-class-preserved : goal.loop-class-preserved
loop-class-preserved g c =
    let line = c.as_str.ensures.value ∙ c.text.ensures ∙ ap line_text c.of.ensures in
    let same : c.loop-class.class + 1 - 1 ≡ c.loop-class.class = omega arith in
    rw same
    (line_more (g.G.Group.tasks c.args.self.now.group.now) c.args.task c.loop-class.class _ _ _ _ c.loop-class.auto.class c.loop-class.invariant c.push_str.ensures.bytes line)

pub returns-2 : goal.returns-2
returns-2 g c =
    let ts = g.G.Group.tasks c.args.self.now.group.now in
    let line = c.as_str.ensures.value ∙ c.text.ensures ∙ ap line_text c.of.ensures in
    let last : length (at ts c.args.task).classes ≡ c.loop-class.class = omega (arith, c.class_count-class-end.ensures) in
    rw last
    (line_more ts c.args.task c.loop-class.class _ _ _ _ c.loop-class.auto.class c.loop-class.invariant c.push_str.ensures.bytes line)
