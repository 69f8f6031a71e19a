-- Fields of bits, most significant first, in a list of bytes. Assumes nothing.
use Rattle.std.specs.Prelude.{ℕ, zero, suc, ◌+◌, ◌-◌, ◌*◌, ◌/◌, ◌%◌, ◌^◌, List, slice_index}

-- bit p of the bytes: bit 0 is the top one of byte 0
unfoldable pub bit : List ℕ → ℕ → ℕ
bit bs p = slice_index bs (p / 8) / 2 ^ (7 - p % 8) % 2

-- the number in the n bits from bit p on
unfoldable pub field : List ℕ → ℕ → ℕ → ℕ
field bs p zero = 0
field bs p (suc n) = field bs p n * 2 + bit bs (p + n)
