-- What a table holds: its rows as a plate tells them, the tasks that these mean, and the present positions. Assumes nothing.
use Rattle.std.specs.Prelude.{◌≡◌, ℕ, List, map}
use Rattle.group.specs.Task.{Task, place}
use Rattle.kinds.specs.declared.entry.Entry.{Entry}
use Rattle.kinds.specs.declared.table.Table.{Table}
use Rattle.kinds.specs.declared.table_row.TableRow.{Ghosts}
use Rattle.kinds.specs.Tables.{RowAt, NoRowAt, Grown}

-- the task that a row means
abbrev pub meant : {R : Type 0} (g : Ghosts R) → R → Task
meant g r = g.kind.task (g.kind.says r)

module _ {R : Type 0} {g : Ghosts R} where
  -- the rows of a table
  abbrev pub rows_of : Table R g → List g.kind.Said
  rows_of t = map (λ e. g.kind.says e.row) t.entries.items

  -- the tasks that they mean
  abbrev pub tasks_of : Table R g → List Task
  tasks_of t = map g.kind.task (rows_of t)

  -- their present positions
  abbrev pub places_of : Table R g → List ℕ
  places_of t = map (λ e. e.place) t.entries.items

  -- row i of a table
  abbrev pub Held : Table R g → ℕ → R → Type 0
  Held t = RowAt g.kind.good g.kind.classes g.kind.says g.kind.task (rows_of t)

  -- and its entry
  abbrev pub HeldEntry : Table R g → ℕ → Entry R g → Type 0
  HeldEntry t i e = Held t i e.row × (place (places_of t) i ≡ e.place)

  -- there is no row i
  abbrev pub Absent : Table R g → ℕ → Type 0
  Absent t = NoRowAt g.kind.task (rows_of t)

  -- the table with one row more
  abbrev pub Added : Table R g → R → Table R g → Type 0
  Added t r t' = Grown g.kind.task (g.kind.says r) (rows_of t) (rows_of t') (places_of t) (places_of t')
