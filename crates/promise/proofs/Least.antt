-- The bound is the least number of ticks that is enough, and what its public answer says.
use Rattle.std.proofs.Common.{ℕ, List, Some}
use Rattle.group.specs.Task.{Task}
use Rattle.bounds.specs.Bound.{bound, Bounded, class_fault}
use Rattle.bounds.proofs.Least.{bound_least, bound_within}
use Rattle.bounds.proofs.Checked.{class_clear}
use Rattle.promise.specs.Promise.{HasBound, BoundIsLeast}
use Rattle.dispatcher.proofs.Faults.{unless_ok}

pub bound_is_least : BoundIsLeast
bound_is_least ts k c task class = (bound_least ts k c task class, bound_within ts k c)

-- a class with a bound is a class of a task, and the bound is enough
pub has_bound : (ts : List Task) (k c R : ℕ) → HasBound ts k c R → Bounded ts k c R
has_bound ts k c R e =
    let u = unless_ok (class_fault ts k c) (bound ts k c) (Some R) e in
    let q = class_clear ts k c u.0 in
    (bound_least ts k c q.0 q.1 R u.1).bounded
