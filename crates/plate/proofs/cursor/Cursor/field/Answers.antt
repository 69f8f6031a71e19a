use Rattle.std.proofs.Common.{◌≡◌, ℕ, ◌+◌, ◌-◌, ◌*◌, ◌%◌, ◌^◌, refl, ◌∙◌, arith, rules}
use Rattle.std.proofs.lemmas.Nat.{one_shl}
use Rattle.plate.specs.Bits.{field}
use Rattle.plate.proofs.Fields.{field_one, field_two, field_below}
use Rattle.plate.proofs.cursor.Cursor.field.Goals as goal

pub returns-then-from-n-le8 : goal.returns-then-from-n-le8
returns-then-from-n-le8 c =
    let value =
    c.within_byte.ensures
    ∙ field_one c.args.self.now.plate.now c.args.self.now.place c.args.n c.if-from-n-le8.true in
    let below = field_below c.args.self.now.plate.now c.args.self.now.place c.args.n in
    record { plate = refl; value = value; small = rw value below; place = search rules }

pub returns : goal.returns
returns c =
    let bs = c.args.self.now.plate.now in
    let p = c.args.self.now.place in
    let n = c.args.n in
    let low : ℕ = p % 8 + n - 8 in
    let shift = one_shl low 16 (omega arith) in
    let two = field_two bs p n c.if-from-n-le8.false c.requires.width.1 in
    let value : c.within_byte-2.result * (1 * 2 ^ low % 65536) + c.within_byte-3.result ≡ field bs p n = cc in
    record { plate = refl; value = value; small = rw value (field_below bs p n); place = search rules }
