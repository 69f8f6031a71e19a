use Rattle.std.proofs.Common.{◌≡◌, ap, ◌∙◌, rules, tests}
use Rattle.std.specs.Option.{option_map}
use Rattle.std.proofs.lemmas.Iterator.{YieldsList-from_slice}
use Rattle.std.proofs.lemmas.Iterator.Consumers.{reduce_from_yields_List, YieldsList-at, YieldsList-from_enumerate, YieldsList-from_filter_map}
use Rattle.std.specs.List.{filter_map, enumerate_from, reduce}
use Rattle.choose.proofs.Chosen.{paired, least_pair, picks, least_is_foremost, foremost_law}
use Rattle.choose.proofs.foremost.Goals as goal

pub returns-clause-place : goal.returns-clause-place
returns-clause-place g c =
    let keys = c.args.keys.now in
    let p = picks g.K.Ord.cmp _ _ _ (λ x k q h. search (rules, tests)) (λ x y k l q r h m. search (rules, tests)) c.filter_map.result c.min_by_key.result c.filter_map.ensures.runs c.min_by_key.ensures.ran in
    let e : c.min_by_key.result ≡ reduce (least_pair g.K.Ord.cmp) (filter_map paired (enumerate_from 0 keys)) =
    reduce_from_yields_List (least_pair g.K.Ord.cmp) c.filter_map.result c.min_by_key.result p
    (YieldsList-from_filter_map _ paired
    (YieldsList-at c.filter_map.ensures.source (YieldsList-from_enumerate (YieldsList-at c.enumerate.ensures.source (YieldsList-from_slice keys cc)) (cc)))
    c.filter_map.ensures.closure (λ x r q k. search (rules, tests))) in
    let m : c.map.result ≡ option_map (λ p. p.0) c.min_by_key.result = search rules in
    least_is_foremost g.K.Ord.cmp g.met.K.Ord.total keys c.map.result (m ∙ ap (option_map (λ p. p.0)) e)

pub returns-clause-law : goal.returns-clause-law
returns-clause-law g c = rw (returns-clause-place g c) (foremost_law g.K.Ord.cmp g.met.K.Ord.total c.args.keys.now)
