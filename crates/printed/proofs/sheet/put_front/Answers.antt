use Rattle.std.proofs.Common.{arith}
use Rattle.printed.proofs.Starts.{tasks_of_plan}
use Rattle.printed.proofs.sheet.put_front.Goals as goal

pub invariant_of-put : goal.invariant_of-put
invariant_of-put c = let n = tasks_of_plan _ c.in_ok-plan.ensures.sound in omega arith

pub start-requires : goal.start-requires
start-requires c = tasks_of_plan _ c.in_ok-plan.ensures.sound

pub returns-clause-text : goal.returns-clause-text
returns-clause-text c = rw c.in_ok-plan.ensures.decoded c.put.ensures

pub returns-clause-scratch : goal.returns-clause-scratch
returns-clause-scratch c = rw c.in_ok-plan.ensures.decoded c.start.ensures.scratch
