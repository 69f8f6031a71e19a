-- The run that breaks a bound by the class's own budget, by computation.
use Rattle.std.proofs.Common.{refl, arith}
use Rattle.find.specs.First.{first}
use Rattle.bounds.specs.Bound.{bound}
use Rattle.choose.specs.Foremost.{foremost}
use Rattle.dispatcher.specs.Records.{ends_upto}
use Rattle.promise.specs.OwnBudget.{OwnBudgetFails}

pub own_budget_fails : OwnBudgetFails
unfolding bound first foremost ends_upto
own_budget_fails = record { would_fit = omega arith; no_bound = refl; late = refl }
