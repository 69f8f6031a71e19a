use Rattle.std.proofs.Common.{◌≡◌, ◌+◌, length, take}
use Rattle.std.specs.List.{flat_map}
use Rattle.plate.specs.Writing.{put_at}
use Rattle.plan.proofs.save.write_all.Given as goal

abbrev pub invariant-loop-entry : goal.invariant-loop-entry
invariant-loop-entry g l =
    (l.end ≡ l.at + length (flat_map (λ e. g.R.PlateRow.bytes e.row) (take l.entry-index l.entry-items)))
    × (l.out ≡ put_at l.initial.out l.at (flat_map (λ e. g.R.PlateRow.bytes e.row) (take l.entry-index l.entry-items)))
