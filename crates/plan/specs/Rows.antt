-- Rows that were read, and the rows to come. Assumes nothing.
use Rattle.std.specs.Prelude.{ℕ, List, ◌++◌, map, Ok, Err, Result}
use Rattle.denial.specs.declared.Denial.{Denial}
use Rattle.plate.specs.Rows.{Counted, Framed}
use Rattle.plate.specs.Plans.{Plan}

-- rows that were read, before those to come
abbrev pub after_rows : List Counted → List Framed → Result Plan Denial → Result Plan Denial
after_rows cs fs (Ok plan) = Ok (record { counted = cs ++ plan.counted; framed = fs ++ plan.framed })
after_rows cs fs (Err d) = Err d

-- every row at its first position
abbrev pub firsts : {X : Type 0} → List X → List ℕ
firsts rows = map (λ _. 1) rows
