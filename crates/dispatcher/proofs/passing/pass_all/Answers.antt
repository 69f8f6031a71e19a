use Rattle.std.proofs.Common.{◌≡◌, ◌+◌, ◌<◌, true, ◌++◌, length, get_or, drop, set, sym, refl, ap, ◌∙◌, add-zero, arith}
use Rattle.std.proofs.lemmas.List.{length-append}
use Rattle.group.specs.Task.{at, place}
use Rattle.dispatcher.specs.Slots.{way_of}
use Rattle.dispatcher.specs.State.{state_of, new_seat, is_running, tick_seat, settled_place}
use Rattle.dispatcher.specs.Records.{ends_upto}
use Rattle.dispatcher.specs.Passing.{listed}
use Rattle.dispatcher.proofs.Ends.{ends_none, ends_more}
use Rattle.dispatcher.proofs.Passes.{passed_none, passed_more, noted, noted_more, noted_long, end_at, end_fits}
use Rattle.dispatcher.proofs.passing.pass_all.Goals as goal
use Rattle.dispatcher.proofs.passing.pass_all.Goals.{in-Some, in_default}

pub loop-task-init : goal.loop-task-init
loop-task-init g c =
    let ts = g.G.Group.tasks c.args.group.now in
    let ps = g.G.Group.places c.args.group.now in
    let ss = c.args.table.now.seats in
    let n = ends_none ts (state_of c.args.tick.clock true ps ss) c.args.tick.mark c.args.tick.ran in
    (refl, passed_none ts c.args.tick.clock c.args.tick.mark c.args.tick.ran ss ps, ap length (sym n), ap (λ x. x ++ c.args.ends.now) (sym n), refl)

pub push-requires : goal.push-requires
push-requires g c =
    let ts = g.G.Group.tasks c.args.group.now in
    let ps = g.G.Group.places c.args.group.now in
    let ss = c.args.table.now.seats in
    let n = c.loop-task.task in
    let l : n < length ts = omega (arith, c.count-task-end.ensures) in
    let i = c.loop-task.invariant in
    let e = end_at ts (g.G.Group.tasks c.loop-task.group) c.args.tick.clock ps ss c.loop-task.table.seats c.args.tick.mark c.args.tick.ran n
    (listed c.pass_task.result) (g.met.G.Group.placed c.args.group.now) l i.0 (i.1.seat_left n (omega arith)) c.pass_task.ensures.end in
    let f = end_fits ts (state_of c.args.tick.clock true ps ss) c.args.tick.mark c.args.tick.ran n c.loop-task.records.count (length c.args.ends.now) (listed c.pass_task.result) l e i.2 c.requires.room in
    let o : length (listed c.pass_task.result) ≡ 1 = ap (λ x. length (listed x)) c.in-Some.is in
    let m = noted_long (ends_upto ts (state_of c.args.tick.clock true ps ss) c.args.tick.mark c.args.tick.ran n) c.args.ends.now c.loop-task.records.list.now c.loop-task.records.count i.2 (omega (arith, f)) i.3 in
    omega (arith, f, o, m)

pub loop-task-preserved : goal.loop-task-preserved
loop-task-preserved g c =
    let ts = g.G.Group.tasks c.args.group.now in
    let ts₁ = g.G.Group.tasks c.loop-task.group in
    let ps = g.G.Group.places c.args.group.now in
    let ps₁ = g.G.Group.places c.loop-task.group in
    let ss = c.args.table.now.seats in
    let ss₁ = c.loop-task.table.seats in
    let clock = c.args.tick.clock in
    let mark = c.args.tick.mark in
    let n = c.loop-task.task in
    let s = state_of clock true ps ss in
    let m = g.met.G.Group.placed c.args.group.now in
    let l : n < length ts = omega (arith, c.count-task-end.ensures) in
    let h : n < length ss = omega (arith, l, c.requires.few, c.args.table.now.sized) in
    let p : n < length ps = omega (arith, l, m) in
    let i = c.loop-task.invariant in
    let o = c.pass_task.result in
    let now = c.match-pass_task.records in
    let step : (now.count ≡ c.loop-task.records.count + length (listed o)) × (now.list.now ≡ noted c.loop-task.records.list.now c.loop-task.records.count o)
    × (now.list.ghost_name ≡ c.loop-task.records.list.ghost_name) =
    elim c.match-pass_task.branch [
      | in-Some w ↦ (
        ap (λ x. x.count) w.records-is ∙ w.push.ensures.count ∙ ap (λ x. c.loop-task.records.count + length (listed x)) (sym w.in-Some.is),
        ap (λ x. x.list.now) w.records-is ∙ w.push.ensures.list ∙ ap (noted c.loop-task.records.list.now c.loop-task.records.count) (sym w.in-Some.is),
        ap (λ x. x.list.ghost_name) w.records-is ∙ w.push.ensures.same,
      )
      | in_default w ↦ (
        ap (λ x. x.count) w.records-is ∙ sym (add-zero c.loop-task.records.count) ∙ ap (λ x. c.loop-task.records.count + length (listed x)) (sym w.in_default.is),
        ap (λ x. x.list.now) w.records-is ∙ ap (noted c.loop-task.records.list.now c.loop-task.records.count) (sym w.in_default.is),
        ap (λ x. x.list.ghost_name) w.records-is,
      )
    ] in
    let e = end_at ts ts₁ clock ps ss ss₁ mark c.args.tick.ran n (listed o) m l i.0 (i.1.seat_left n (omega arith)) c.pass_task.ensures.end in
    let f = end_fits ts s mark c.args.tick.ran n c.loop-task.records.count (length c.args.ends.now) (listed o) l e i.2 c.requires.room in
    let seats = c.pass_task.ensures.seats
    ∙ ap (λ x. set ss₁ n (tick_seat (at x n) clock (is_running c.args.tick.ran n) mark (get_or ss₁ n new_seat))) i.0 in
    let places = c.pass_task.ensures.places
    ∙ ap (λ x. set ps₁ n (settled_place (at x n) (way_of (at x n) clock (is_running c.args.tick.ran n) mark (get_or ss₁ n new_seat).slot) (place ps₁ n))) i.0 in
    let more : ends_upto ts s mark c.args.tick.ran (n + 1) ≡ ends_upto ts s mark c.args.tick.ran n ++ listed o =
    ends_more ts s mark c.args.tick.ran n ∙ ap (λ x. ends_upto ts s mark c.args.tick.ran n ++ x) (sym e) in (
      c.pass_task.ensures.tasks ∙ i.0,
      passed_more ts clock mark c.args.tick.ran n ss ss₁ c.pass_task.new.table.seats ps ps₁ (g.G.Group.places c.pass_task.new.group) i.1 h p seats places,
      step.0 ∙ ap (λ x. x + length (listed o)) i.2 ∙ sym (ap length more ∙ length-append (ends_upto ts s mark c.args.tick.ran n) (listed o)),
      step.1 ∙ noted_more (ends_upto ts s mark c.args.tick.ran n) c.args.ends.now c.loop-task.records.list.now c.loop-task.records.count o i.2 i.3 f
          ∙ ap (λ x. x ++ drop (c.loop-task.records.count + length (listed o)) c.args.ends.now) (sym more)
          ∙ ap (λ x. ends_upto ts s mark c.args.tick.ran (n + 1) ++ drop x c.args.ends.now) (sym step.0),
      step.2 ∙ i.4,
    )
