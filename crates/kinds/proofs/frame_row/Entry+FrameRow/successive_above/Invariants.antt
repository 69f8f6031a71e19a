use Rattle.std.proofs.Common.{◌≡◌, ◌+◌, ◌-◌, ◌≤◌}
use Rattle.kinds.specs.Cycle.{successive}
use Rattle.kinds.specs.Rows.{row_above}
use Rattle.kinds.proofs.frame_row.Entry+FrameRow.successive_above.Given as goal

abbrev pub invariant-loop : goal.invariant-loop
invariant-loop l =
    (1 ≤ l.frame) × (l.frame ≤ l.self.row.count)
    × (l.sum + successive (row_above l.self.row l.rank) l.self.row.count l.frame (l.number - l.counter)
    ≡ successive (row_above l.self.row l.rank) l.self.row.count l.start l.number)
