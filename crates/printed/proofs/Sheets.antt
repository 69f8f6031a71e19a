-- The sheet of a plate, by its parts.
use Rattle.std.proofs.Common.{◌≡◌, List, ℕ, ◌++◌, Some, None, Option, Result, refl, ap}
use Rattle.std.specs.Result.{result_err}
use Rattle.denial.specs.declared.Denial.{Denial}
use Rattle.denial.specs.Checks.{unless}
use Rattle.plate.specs.Plans.{decode}
use Rattle.printed.specs.Lines.{verdict_line}
use Rattle.printed.specs.Sheet.{front_of, fault_of, sheet_text}

fault_back : (o : Option Denial) → result_err (unless o (tt {0})) ≡ o
fault_back None = refl
fault_back (Some d) = refl

-- what stands above the verdict, and the verdict
pub by_parts : (bs : List ℕ) (started : Result (Unit {0}) Denial) → started ≡ unless (fault_of (decode bs)) tt
    → front_of (decode bs) ++ verdict_line (result_err started) ≡ sheet_text bs
unfolding sheet_text
by_parts bs started e = rw e (ap (λ f. front_of (decode bs) ++ verdict_line f) (fault_back (fault_of (decode bs))))
