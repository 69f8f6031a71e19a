-- Tests that end in a denial, one after another. Assumes nothing.
use Rattle.std.specs.Prelude.{ℕ, min, nat_lt, Bool, cond, Some, None, Ok, Err, Option, Result}
use Rattle.denial.specs.declared.Denial.{Denial}
use Rattle.denial.specs.declared.Rule.TheVariants.{Room}
use Rattle.denial.specs.Numbers.{denied}

-- a denial where a test passes
abbrev pub when : Bool → Denial → Option Denial
when test d = cond test (Some d) None

-- a value, unless there is a fault
abbrev pub unless : {A : Type 0} → Option Denial → A → Result A Denial
unless None x = Ok x
unless (Some d) x = Err d

-- what comes after, unless there is a fault
abbrev pub past : {A : Type 0} → Option Denial → Result A Denial → Result A Denial
past None r = r
past (Some d) r = Err d

-- the refusal of a buffer that is shorter than what is needed
abbrev pub short_of : (needed room : ℕ) → Option Denial
short_of needed room = when (nat_lt room needed) (denied Room (min needed 65535) 0)
