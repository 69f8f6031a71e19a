use Rattle.std.proofs.Common.{sym, ap, ◌∙◌}
use Rattle.std.proofs.lemmas.Result.{err_from_is_err_and}
use Rattle.plate.specs.Reading.{fault_of}
use Rattle.plate.proofs.Trips.{read_is_written}
use Rattle.plate.proofs.Verdicts.{header_refused, rows_refused, decode_rows, opened_ok, opened_err, opened_rest}
use Rattle.plan.proofs.Afters.{after_none_read}
use Rattle.plan.proofs.load.plan_from.Goals as goal

pub returns-in_err-open : goal.returns-in_err-open
returns-in_err-open c =
    let p = err_from_is_err_and c.from_residual.result c.from_residual.ensures.1 in
    let bs = c.args.plate.now in
    let told = c.in_err-open.ensures in
    let none = opened_err bs _ _ _ c.new-reader.ensures.plate c.new-reader.ensures.state told.result in
    rw (p.1, p.2) (header_refused bs _ none)

pub returns-in_err-fill : goal.returns-in_err-fill
returns-in_err-fill c =
    let p = err_from_is_err_and c.from_residual-in_err-fill.result c.from_residual-in_err-fill.ensures.1 in
    let bs = c.args.plate.now in
    let told = c.in_ok-open.ensures in
    let first = opened_ok bs _ _ _ c.new-reader.ensures.plate c.new-reader.ensures.state told.result in
    let rest = opened_rest bs _ _ _ _ c.new-reader.ensures.plate told.plate c.new-reader.ensures.state told.after in
    let fault = ap fault_of (sym c.in_err-fill.ensures ∙ rest.1) in
    rw (p.1, p.2) (rows_refused bs _ first.0 fault)

pub returns : goal.returns
returns c =
    let bs = c.args.plate.now in
    let told = c.in_ok-open.ensures in
    let first = opened_ok bs _ _ _ c.new-reader.ensures.plate c.new-reader.ensures.state told.result in
    let rest = opened_rest bs _ _ _ _ c.new-reader.ensures.plate told.plate c.new-reader.ensures.state told.after in
    let all = c.in_ok-fill.ensures in
    let start = after_none_read _ _ _ c.new-plan.ensures.rows.0 c.new-plan.ensures.rows.1 rest.1 in
    let decoded = decode_rows bs first.0 ∙ sym start ∙ all.0 in
    let back = read_is_written bs (λ i. (c.type_inv.plate i).fits) _ decoded in
    record { decoded = decoded; sound = back.0; encoded = back.1; first = all.1 }
