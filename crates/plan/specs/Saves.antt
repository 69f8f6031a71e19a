-- Saving two tables as a plate. Assumes nothing.
use Rattle.std.specs.Prelude.{ℕ, ◌+◌, List, length, Option, ◌==◌, nat_lt}
use Rattle.std.specs.Option.{option_or}
use Rattle.std.specs.List.{flat_map}
use Rattle.denial.specs.declared.Denial.{Denial}
use Rattle.denial.specs.declared.Rule.TheVariants.{RowCounts, Room}
use Rattle.denial.specs.Numbers.{denied}
use Rattle.denial.specs.Checks.{when}
use Rattle.plate.specs.Plans.{Plan, encode}
use Rattle.kinds.specs.declared.table.Table.{Table}
use Rattle.kinds.specs.declared.table_row.TableRow.{Ghosts}

-- why so many rows of so many bytes in all are not saved in a buffer: there is none, or it has not room; the detail is the bytes needed
abbrev pub save_refusal : (rows size len : ℕ) → Option Denial
save_refusal rows size len = option_or (when (rows == 0) (denied RowCounts 255 4)) (when (nat_lt len size) (denied Room size 0))

abbrev pub save_fault : Plan → (len : ℕ) → Option Denial
save_fault plan len = save_refusal (length plan.counted + length plan.framed) (length (encode plan)) len

-- lists one after another
abbrev pub concat : List (List ℕ) → List ℕ
concat xss = flat_map (λ xs. xs) xss

-- the bytes of a table's rows, one after another
abbrev pub bytes_of : {R : Type 0} {g : Ghosts R} → (R → List ℕ) → Table R g → List ℕ
bytes_of bytes t = flat_map (λ e. bytes e.row) t.entries.items
