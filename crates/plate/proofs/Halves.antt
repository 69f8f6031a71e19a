-- Numbers packed into bytes by halves.
use Rattle.std.proofs.Common.{◌≡◌, ℕ, ◌+◌, ◌*◌, ◌/◌, ◌%◌, ◌<◌, ◌≤◌, mod-eq_of_lt, arith}
use Rattle.std.proofs.lemmas.Nat.{div-mul-add, mod-mul-add, div-add-mod', shr-shr}

-- two numbers below 16 in a byte
pub high_half : (x y : ℕ) → y < 16 → (x * 16 + y) / 16 ≡ x
high_half x y h = div-mul-add x 16 y h

pub low_half : (x y : ℕ) → y < 16 → (x * 16 + y) % 16 ≡ y
low_half x y h = mod-mul-add x 16 y h

-- a number of 12 bits by its parts
pub by_sixteen : (g : ℕ) → g ≤ 4095 → g / 16 % 256 * 16 + g % 16 % 16 ≡ g
by_sixteen g h =
    let a : g / 16 % 256 ≡ g / 16 = (let h' : g / 16 < 256 = omega arith in mod-eq_of_lt h') in
    let b : g % 16 % 16 ≡ g % 16 = (let h' : g % 16 < 16 = omega arith in mod-eq_of_lt h') in
    rw (a, b) (div-add-mod' g 16)

pub by_byte : (b : ℕ) → b / 256 * 256 + b % 256 % 256 ≡ b
by_byte b =
    let a : b % 256 % 256 ≡ b % 256 = (let h' : b % 256 < 256 = omega arith in mod-eq_of_lt h') in
    rw a (div-add-mod' b 256)

pub by_nibble : (r : ℕ) → r / 16 * 16 + r % 16 * 16 / 16 % 16 ≡ r
by_nibble r =
    let a : r % 16 * 16 / 16 % 16 ≡ r % 16 = omega arith in
    rw a (div-add-mod' r 16)

-- a byte whose last bit is zero, by its first four bits and the three after them
pub four_three : (b : ℕ) → b % 2 ≡ 0 → b / 16 * 16 + b / 2 % 8 * 2 ≡ b
four_three b h =
    let a : b / 2 / 8 ≡ b / 16 = shr-shr b 1 3 in
    let c : b / 2 / 8 * 8 + b / 2 % 8 ≡ b / 2 = div-add-mod' (b / 2) 8 in
    omega arith
