use Rattle.std.proofs.Common.{◌≡◌, ℕ, ◌-◌, Bool, cond, length, get_or, refl, ap, ◌∙◌, rules, tests, arith}
use Rattle.std.proofs.lemmas.Iterator.{YieldsList-from_range}
use Rattle.std.proofs.lemmas.Iterator.Consumers.{count_from_yields_List, YieldsList-at, YieldsList-from_filter}
use Rattle.dispatcher.specs.Slots.{is_pending}
use Rattle.dispatcher.specs.State.{state_of, slot_of, new_seat}
use Rattle.dispatcher.proofs.Counts.{counted, sum_same}
use Rattle.dispatcher.proofs.Released.{seen_is}
use Rattle.dispatcher.proofs.board.Dispatcher.pending.Goals as goal

pub returns : goal.returns
returns g c =
    let d = c.args.self.now in
    let ts = g.G.Group.tasks d.group in
    let n = length ts in
    let s = state_of d.clock d.started (g.G.Group.places d.group) d.table.seats in
    let p : ℕ → Bool = λ i. is_pending (get_or d.table.seats i new_seat).slot in
    let e : c.count.result - 0 ≡ n = omega (arith, c.count.ensures) in
    count_from_yields_List c.filter.result c.count-2.result c.count-2.ensures.ran
    (YieldsList-from_filter _ p (YieldsList-at c.filter.ensures.source (YieldsList-from_range 0 c.count.result n (cc) e)) c.filter.ensures.closure
    (λ x b q k. search (rules, tests)))
    ∙ counted p n
    ∙ sum_same n (λ i. cond (p i) 1 0) (λ i. cond (is_pending (slot_of s i)) 1 0)
    (λ i l. ap (λ x. cond (is_pending x) 1 0) (seen_is ts d.clock d.started (g.G.Group.places d.group) d.table.seats (g.met.G.Group.placed d.group) i l (get_or d.table.seats i new_seat).slot refl))
