use Rattle.std.proofs.Common.{◌+◌, ◌*◌, ◌/◌, ◌%◌, ◌≤◌, length, get_or, refl, rules}
use Rattle.std.proofs.lemmas.Bool.{eq-eqb}
use Rattle.plate.specs.Plans.{counts_fault}
use Rattle.plate.proofs.Denials.{header_counts, header_whole, header_ends}
use Rattle.plate.proofs.Nones.{unless_ok}
use Rattle.plate.proofs.reading.header.Goals as goal

pub returns : goal.returns
returns c =
    let bs = c.args.plate.now in
    let long : 2 ≤ length bs = search rules in
    let whole = header_whole bs long (c.type_inv.plate 0).fits (c.type_inv.plate 1).fits in
    let counts = header_counts bs (c.type_inv.plate 0).fits (c.type_inv.plate 1).fits in
    let fault = counts_fault (get_or bs 0 0 % 16 * 4 + get_or bs 1 0 / 64) (get_or bs 1 0 % 64) in (
      rw (whole, eq-eqb (get_or bs 0 0 / 16) 1 c.if-first-ne1.false, (unless_ok fault tt tt c.in_ok-check_counts.ensures.value).0),
      refl,
      rw (header_ends bs long, counts.1, counts.2),
    )
