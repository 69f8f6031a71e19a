use Rattle.std.proofs.Common.{sym, ap, ◌∙◌, arith}
use Rattle.std.proofs.lemmas.Result.{err_from_is_err_and}
use Rattle.plate.specs.Readers.{state, plate_of}
use Rattle.plate.proofs.Rests.{reads_row, reads_err, reads_end}
use Rattle.kinds.specs.Listed.{counted_rows, framed_rows}
use Rattle.plan.specs.Rows.{after_rows}
use Rattle.plan.proofs.Afters.{after_none}
use Rattle.plan.proofs.Fills.{filled, after_err}
use Rattle.plan.proofs.load.Plan.fill.Goals as goal

pub returns-in_err-row : goal.returns-in_err-row
returns-in_err-row c =
    let r = c.loop-row.reader in
    let told = c.in_err-row.ensures in
    let err = reads_err (plate_of r) (state r) _ _ c.loop-row.invariant.1 told.result in
    let p = err_from_is_err_and c.from_residual.result c.from_residual.ensures.1 in
    let kept = sym c.loop-row.invariant.4 ∙ ap (after_rows (counted_rows c.loop-row.self.counted) (framed_rows c.loop-row.self.frames)) err in
    rw (p.1, p.2, ← c.loop-row.invariant.0) (after_err _ _ _ _ kept)

pub loop-row-preserved : goal.loop-row-preserved
loop-row-preserved c =
    let r = c.loop-row.reader in
    let told = c.in_ok-row.ensures in
    let is = rw c.in-Some.is at told.result in
    let took = reads_row (plate_of r) (state r) (state c.next_row.new.self) _ c.loop-row.invariant.1 is told.after in
    let all = filled (plate_of r) (state r) _ _ _ _ _ _ took c.take.ensures.rows in (
      told.plate ∙ c.loop-row.invariant.0,
      all.place,
      (omega (arith, all.counted, c.loop-row.invariant.2), omega (arith, all.framed, c.loop-row.invariant.2)),
      c.take.ensures.first c.loop-row.invariant.3,
      rw told.plate (all.rows ∙ c.loop-row.invariant.4),
    )

pub returns : goal.returns
returns c =
    let r = c.loop-row.reader in
    let told = c.in_ok-row.ensures in
    let is = rw c.in_default.is at told.result in
    let end = reads_end (plate_of r) (state r) c.loop-row.invariant.1 is in
    let cs = counted_rows c.loop-row.self.counted in
    let fs = framed_rows c.loop-row.self.frames in
    (rw (← c.loop-row.invariant.0) (sym c.loop-row.invariant.4 ∙ ap (after_rows cs fs) end ∙ after_none cs fs), c.loop-row.invariant.3)
