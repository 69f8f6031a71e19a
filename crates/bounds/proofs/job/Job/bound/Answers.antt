use Rattle.std.proofs.Common.{◌∙◌, sym, arith}
use Rattle.std.proofs.lemmas.Bool.{leb-false}
use Rattle.group.specs.Task.{at}
use Rattle.bounds.proofs.Own.{own_low, own_high, within, beyond}
use Rattle.bounds.proofs.Least.{short_own, short_on, bound_none}
use Rattle.bounds.proofs.job.Job.bound.Goals as goal

pub loop-gap-init : goal.loop-gap-init
loop-gap-init g c =
    let j = c.args.self.now in
    let ts = g.G.Group.tasks j.group.now in
    let l = g.met.G.Group.lawful j.group.now j.task j.has_task in
    let high = own_high (at ts j.task) l j.rank j.own j.asks in
    record {
      low = own_low (at ts j.task) l j.class j.rank j.own j.has_class j.ranked j.asks;
      high = omega arith;
      short = short_own ts j.task j.class j.rank j.own j.ranked j.asks;
    }

pub returns-in_err-ticks : goal.returns-in_err-ticks
returns-in_err-ticks g c =
    let j = c.args.self.now in
    let ts = g.G.Group.tasks j.group.now in
    let w = c.workload-work.result in
    let over = beyond w c.gap-gap.result c.in_err-ticks.ensures in
    c.from_residual.ensures ∙ bound_none ts j.task j.class w (omega arith)
    (short_on ts (g.met.G.Group.lawful j.group.now) j.task j.class c.loop-gap.ticks w c.loop-gap.invariant.short c.workload-work.ensures)

pub loop-gap-preserved : goal.loop-gap-preserved
loop-gap-preserved g c =
    let j = c.args.self.now in
    let ts = g.G.Group.tasks j.group.now in
    let w = c.workload-work.result in
    let s = within w c.gap-gap.result c.in_ok-ticks.ticks c.in_ok-ticks.ensures in
    let more = leb-false w c.loop-gap.ticks (sym c.is_enough.ensures ∙ c.if-is_enough.false) in
    record {
      low = omega (arith, s.0, more);
      high = omega (arith, s.0, s.1);
      short = short_on ts (g.met.G.Group.lawful j.group.now) j.task j.class c.loop-gap.ticks c.in_ok-ticks.ticks c.loop-gap.invariant.short (s.0 ∙ c.workload-work.ensures);
    }
