use Rattle.std.proofs.Common.{◌+◌, ◌≤◌, length, take, refl, sym, ◌∙◌, arith}
use Rattle.std.specs.List.{flat_map}
use Rattle.std.proofs.lemmas.List.Folds.{length-flat_map-take}
use Rattle.plan.specs.Saved.{size_more, put_more, same_end}
use Rattle.plan.proofs.save.write_all.Goals as goal

pub write-requires : goal.write-requires
write-requires g c =
    let xs = c.entries-entry-items.result.now in
    let room : c.args.at + length (flat_map (λ e. g.R.PlateRow.bytes e.row) xs) ≤ length c.args.out.now = rw c.entries-entry-items.ensures c.requires in
    let fits = rw (← c.entry-item.is) at (length-flat_map-take (λ e. g.R.PlateRow.bytes e.row) xs c.loop-entry.entry-index c.entry-item.result (omega arith)) in
    omega arith

pub loop-entry-preserved : goal.loop-entry-preserved
loop-entry-preserved g c =
    let xs = c.entries-entry-items.result.now in
    let i = c.loop-entry.entry-index in
    let x = c.entry-item.result in
    let room : c.args.at + length (flat_map (λ e. g.R.PlateRow.bytes e.row) xs) ≤ length c.args.out.now = rw c.entries-entry-items.ensures c.requires in
    let end = same_end c.in_ok-end.end (c.loop-entry.end + length (g.R.PlateRow.bytes x.row)) (sym c.in_ok-end.was ∙ c.write.ensures.end) in
    let more = size_more (λ e. g.R.PlateRow.bytes e.row) xs i (length (flat_map (λ e. g.R.PlateRow.bytes e.row) (take i xs))) x
    (omega arith) (sym c.entry-item.is) refl in (
      omega (arith, c.loop-entry.invariant.0),
      put_more (λ e. g.R.PlateRow.bytes e.row) c.args.out.now c.loop-entry.out c.write.new.out xs c.args.at i c.loop-entry.end x (omega arith)
          (sym c.entry-item.is) room c.loop-entry.invariant.0 c.loop-entry.invariant.1 c.write.ensures.out,
    )
