use Rattle.std.proofs.Common.{◌≡◌, ◌+◌, length, Ok, refl, sym, ap, ◌∙◌}
use Rattle.std.proofs.lemmas.Result.{err_from_is_err_and}
use Rattle.plate.specs.Plans.{encode, unless}
use Rattle.plate.specs.Writing.{left}
use Rattle.plate.proofs.Trips.{written_is_read}
use Rattle.plan.specs.Loads.{plan_of}
use Rattle.plan.specs.Saved.{tables_size, plan_sound, plan_refused, plan_goes, plan_headed, tables_written, no_refusal, same_end}
use Rattle.plan.proofs.save.save.Goals as goal

pub returns-in_err-check_save-clause-result : goal.returns-in_err-check_save-clause-result
returns-in_err-check_save-clause-result c =
    let p = err_from_is_err_and c.from_residual.result c.from_residual.ensures.1 in
    rw (p.1, p.2)
    (plan_refused c.args.counted.now c.args.frames.now _ _ _ _ (length c.args.out.now) c.len.ensures.rows c.len-2.ensures.rows
    c.size_of.ensures.value c.size_of-2.ensures.value _ (sym c.check_save.ensures ∙ c.in_err-check_save.was))

pub returns-in_err-at : goal.returns-in_err-at
returns-in_err-at c =
    let t = c.args.counted.now in
    let u = c.args.frames.now in
    let len = length c.args.out.now in
    let goes =
    plan_goes t u _ _ _ _ len c.len.ensures.rows c.len-2.ensures.rows c.size_of.ensures.value c.size_of-2.ensures.value _
    (sym c.check_save.ensures ∙ c.in_ok-check_save.was) in
    let head = plan_headed t u _ _ c.len-3.ensures.rows c.len-4.ensures.rows len _ goes.1 goes.2 c.write_header.ensures.result in
    absurd (no_refusal c.write_header.result 2 _ head c.in_err-at.was)

pub returns-in_err-at-2 : goal.returns-in_err-at-2
returns-in_err-at-2 c = absurd (no_refusal c.write_all.result _ _ c.write_all.ensures.end c.in_err-at-2.was)

pub returns : goal.returns
returns c =
    let t = c.args.counted.now in
    let u = c.args.frames.now in
    let out = c.args.out.now in
    let goes =
    plan_goes t u _ _ _ _ (length out) c.len.ensures.rows c.len-2.ensures.rows c.size_of.ensures.value c.size_of-2.ensures.value _
    (sym c.check_save.ensures ∙ c.in_ok-check_save.was) in
    let head = plan_headed t u _ _ c.len-3.ensures.rows c.len-4.ensures.rows (length out) _ goes.1 goes.2 c.write_header.ensures.result in
    let at = same_end c.in_ok-at.at 2 (sym c.in_ok-at.was ∙ head) in
    let at-2 = same_end c.in_ok-at-2.at (c.in_ok-at.at + _) (sym c.in_ok-at-2.was ∙ c.write_all.ensures.end) in
    let rows = rw at at c.write_all.ensures.out in
    let rows-2 = rw (at-2, at) at c.write_all-2.ensures.out in
    let written =
    tables_written t u _ _ c.len-3.ensures.rows c.len-4.ensures.rows out _ _ _ _ goes.1 goes.2 c.write_header.ensures.result
    c.write_header.ensures.out rows rows-2 in
    let end = rw (at-2, at) at c.write_all-2.ensures.end in
    let done : c.write_all-2.result ≡ Ok (length (encode (plan_of t u))) = end ∙ ap Ok (tables_size t u _ _ refl refl) in
    record {
      result = done ∙ ap (λ o. unless o (length (encode (plan_of t u)))) (sym goes.0);
      out = written ∙ ap (λ r. left r out 0 (encode (plan_of t u))) (sym done);
      back = rw done (written_is_read (plan_of t u) (plan_sound t u goes.1));
    }
