use Rattle.std.proofs.Common.{ℕ, ◌+◌, ◌≤◌, length, ap, ◌∙◌, arith}
use Rattle.std.proofs.lemmas.List.{length-append}
use Rattle.plate.specs.Plans.{Bytes, decode}
use Rattle.printed.specs.Sheet.{front_of, sheet_text}
use Rattle.printed.proofs.Sheets.{by_parts}
use Rattle.printed.proofs.Plans.{told, short, front_room}
use Rattle.printed.proofs.sheet.put_sheet.Goals as goal

pub put_front-started-requires : goal.put_front-started-requires
put_front-started-requires c = rw c.requires (front_room c.args.plate.now (λ i. (c.type_inv.plate i).fits))

pub push_str-requires : goal.push_str-requires
push_str-requires c =
    let bs = c.args.plate.now in
    let bytes : Bytes bs = λ i. (c.type_inv.plate i).fits in
    let front = rw c.requires at c.put_front-started.ensures.text in
    let verdict = ap length (c.as_str.ensures.value ∙ c.verdict.ensures) in
    let whole = ap length (by_parts bs c.put_front-started.result c.put_front-started.ensures.result) in
    let h : length (sheet_text bs) ≤ length (front_of (decode bs)) + 38 = omega (arith, length-append {A = ℕ}, c.as_str.ensures.fits) in
    omega (arith, short bs bytes h, ap length front, length-append {A = ℕ})

pub returns-clause-text : goal.returns-clause-text
returns-clause-text c =
    rw (c.push_str.ensures.bytes, c.put_front-started.ensures.text, c.requires, c.as_str.ensures.value, c.verdict.ensures)
    (by_parts c.args.plate.now c.put_front-started.result c.put_front-started.ensures.result)

pub returns-clause-told : goal.returns-clause-told
returns-clause-told c = told c.args.plate.now (λ i. (c.type_inv.plate i).fits)
