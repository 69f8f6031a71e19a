use Rattle.std.proofs.Common.{ℕ, Bool, Some, None, sym, arith}
use Rattle.find.specs.First.{Agrees, Searched}
use Rattle.find.proofs.Firsts.{first_is}
use Rattle.find.proofs.first_of.Goals as goal

pub returns-then-passes : goal.returns-then-passes
returns-then-passes g c =
    let n = c.args.count in
    let says : (t : ℕ → Bool) → Agrees (goal.F-post g c.args.passes) n t → Searched t n (Some c.loop-i.i) =
    λ t is. (omega arith, sym (is c.loop-i.i _ (omega arith) c.if-passes.ensures), λ j h. sym (is j _ (omega arith) (c.loop-i.invariant j h))) in
    record { within = omega arith; value = λ t is. sym (first_is t n _ (says t is)); says = says }

pub returns : goal.returns
returns g c =
    let n = c.args.count in
    let says : (t : ℕ → Bool) → Agrees (goal.F-post g c.args.passes) n t → Searched t n None =
    λ t is j h. sym (is j _ h (c.loop-i.invariant j (omega arith))) in
    record { within = tt; value = λ t is. sym (first_is t n _ (says t is)); says = says }
