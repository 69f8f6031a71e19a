use Rattle.std.proofs.Common.{◌≡◌, ◌∙◌, length, rules, arith}
use Rattle.std.proofs.lemmas.Iterator.{YieldsList-from_range, YieldsList-from_map}
use Rattle.std.proofs.lemmas.Iterator.Consumers.{sum_from_yields_List, fits_from_yields_list}
use Rattle.bounds.specs.Bound.{sum, request}
use Rattle.bounds.proofs.Grows.{requests_small}
use Rattle.bounds.proofs.Chains.{sum_listed}
use Rattle.bounds.proofs.job.Job.requests.Goals as goal

pub sum-requires-clause-fits : goal.sum-requires-clause-fits
sum-requires-clause-fits g c =
    let j = c.args.self.now in
    let ts = g.G.Group.tasks j.group.now in
    let f = request ts j.task c.args.ticks j.rank in
    let small = requests_small ts (g.met.G.Group.lawful j.group.now) j.task c.args.ticks j.rank j.few in
    fits_from_yields_list c.map.result _ (YieldsList-from_map _ f (YieldsList-from_range 0 c.count.result (length ts) c.map.ensures.source (omega arith))
    c.map.ensures.closure (λ x r q k. search rules)) (omega (arith, sum_listed (length ts) f))

pub returns : goal.returns
returns g c =
    let j = c.args.self.now in
    let ts = g.G.Group.tasks j.group.now in
    let f = request ts j.task c.args.ticks j.rank in
    let small = requests_small ts (g.met.G.Group.lawful j.group.now) j.task c.args.ticks j.rank j.few in
    let e : c.sum.result ≡ sum (length ts) f = sum_from_yields_List c.map.result c.sum.result c.sum.ensures.ran
    (YieldsList-from_map _ f (YieldsList-from_range 0 c.count.result (length ts) c.map.ensures.source (omega arith)) c.map.ensures.closure (λ x r q k. search rules))
    ∙ sum_listed (length ts) f in
    record { value = e; small = omega arith }
