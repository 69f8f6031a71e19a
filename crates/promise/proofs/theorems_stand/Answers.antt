use Rattle.promise.proofs.Closed.{window_theorem}
use Rattle.dispatcher.proofs.Foremosts.{foremost_found}
use Rattle.promise.proofs.Least.{bound_is_least}
use Rattle.promise.proofs.Led.{no_choice}
use Rattle.promise.proofs.OwnBudgets.{own_budget_fails}
use Rattle.promise.proofs.PrintedRuns.{printed_run}
use Rattle.promise.proofs.theorems_stand.Goals as goal

pub returns : goal.returns
returns c = record { window = window_theorem; least = bound_is_least; choice = no_choice; foremost = foremost_found; own = own_budget_fails; run = printed_run }
