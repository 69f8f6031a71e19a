use Rattle.std.proofs.Common.{ℕ, ◌<◌, false}
use Rattle.find.proofs.first_of.Given as goal

abbrev pub invariant-loop-i : goal.invariant-loop-i
invariant-loop-i g l = (j : ℕ) → j < l.i → goal.F-post g l.passes j false
