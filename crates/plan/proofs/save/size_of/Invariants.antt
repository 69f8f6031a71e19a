use Rattle.std.proofs.Common.{◌≡◌, ◌*◌, ◌≤◌, length, take}
use Rattle.std.specs.List.{flat_map}
use Rattle.plan.proofs.save.size_of.Given as goal

abbrev pub invariant-loop-entry : goal.invariant-loop-entry
invariant-loop-entry g l =
    (l.size ≡ length (flat_map (λ e. g.R.PlateRow.bytes e.row) (take l.entry-index l.entry-items))) × (l.size ≤ 26 * l.entry-index)
