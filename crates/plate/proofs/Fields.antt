-- Laws of bit fields.
use Rattle.std.proofs.Common.{◌≡◌, ℕ, zero, suc, ◌+◌, ◌-◌, ◌*◌, ◌/◌, ◌%◌, ◌^◌, ◌<◌, ◌≤◌, List, get_or, drop, sym, refl, ap, ◌∙◌, add-zero, add_assoc, add-suc, mul_assoc, pow-suc, add-one, arith, pow_mono}
use Rattle.std.proofs.lemmas.List.{get_or-drop}
use Rattle.std.proofs.lemmas.Nat.{mod_below, mod-pow-add, shr-shr}
use Rattle.plate.specs.Bits.{bit, field}

pub bit_below : (bs : List ℕ) (p : ℕ) → bit bs p < 2
unfolding bit
bit_below bs p = mod_below (get_or bs (p / 8) 0 / 2 ^ (7 - p % 8)) 2 (omega arith)

pub field_more : (bs : List ℕ) (p n : ℕ) → field bs p (n + 1) ≡ field bs p n * 2 + bit bs (p + n)
unfolding field
field_more bs p n = rw add-one

pub field_none : (bs : List ℕ) (p : ℕ) → field bs p 0 ≡ 0
unfolding field
field_none bs p = refl

pub field_below : (bs : List ℕ) (p n : ℕ) → field bs p n < 2 ^ n
unfolding field
field_below bs p zero = omega arith
field_below bs p (suc n) = omega (arith, field_below bs p n, bit_below bs (p + n), pow-suc 2 n)

-- a field of at most k bits
pub field_low : (bs : List ℕ) (p n k : ℕ) → n ≤ k → field bs p n < 2 ^ k
field_low bs p n k h = omega (arith, field_below bs p n, pow_mono {i = n} {j = k} h)

-- a field is its first m bits and then its other n
pub field_split : (bs : List ℕ) (p m n : ℕ) → field bs p (m + n) ≡ field bs p m * 2 ^ n + field bs (p + m) n
unfolding field
field_split bs p m zero = rw add-zero (omega arith)
field_split bs p m (suc n) =
    rw (add-suc m n)
    (omega (
      arith,
      field_split bs p m n,
      mul_assoc (field bs p m) (2 ^ n) 2,
      pow-suc 2 n,
      ap (λ t. field bs p m * t) (pow-suc 2 n),
      ap (bit bs) (add_assoc p m n),
    ))

bit_within : (bs : List ℕ) (k i p : ℕ) → p ≡ 8 * k + i → i < 8 → bit bs p ≡ get_or bs k 0 / 2 ^ (7 - i) % 2
unfolding bit
bit_within bs k i p e h =
    let a : p / 8 ≡ k = omega arith in
    let b : p % 8 ≡ i = omega arith in
    rw (a, b)

-- n bits within byte k, from its bit i on
pub field_within : (bs : List ℕ) (k i n : ℕ) → i + n ≤ 8
    → field bs (8 * k + i) n ≡ get_or bs k 0 / 2 ^ (8 - (i + n)) % 2 ^ n
unfolding field
field_within bs k i zero h = omega arith
field_within bs k i (suc n) h =
    let j : ℕ = 7 - (i + n) in
    let q : ℕ = get_or bs k 0 / 2 ^ j in
    let a : 8 - (i + n) ≡ j + 1 = omega arith in
    let b : 8 - (i + suc n) ≡ j = omega arith in
    let here : bit bs (8 * k + i + n) ≡ q % 2 = bit_within bs k (i + n) (8 * k + i + n) (omega arith) (omega arith) in
    let ih : field bs (8 * k + i) n ≡ q / 2 % 2 ^ n =
    field_within bs k i n (omega arith) ∙ rw a (ap (λ t. t % 2 ^ n) (sym (shr-shr (get_or bs k 0) j 1))) in
    let whole : q % 2 ^ (n + 1) ≡ q / 2 % 2 ^ n * 2 + q % 2 = mod-pow-add q n 1 in
    rw (b, ← add-one n) (omega (arith, ih, here, whole))

-- a field that ends in the byte in which it begins, and one that ends in the next, by places
pub field_one : (bs : List ℕ) (p n : ℕ) → p % 8 + n ≤ 8
    → get_or bs (p / 8) 0 / 2 ^ (8 - (p % 8 + n)) % 2 ^ n ≡ field bs p n
field_one bs p n h =
    let e : 8 * (p / 8) + p % 8 ≡ p = omega arith in
    rw e at (sym (field_within bs (p / 8) (p % 8) n h))

pub field_two : (bs : List ℕ) (p n : ℕ) → 8 < p % 8 + n → p % 8 + n ≤ 16
    → get_or bs (p / 8) 0 / 2 ^ (8 - (p % 8 + (8 - p % 8))) % 2 ^ (8 - p % 8) * 2 ^ (p % 8 + n - 8)
    + get_or bs (p / 8 + 1) 0 / 2 ^ (8 - (0 + (p % 8 + n - 8))) % 2 ^ (p % 8 + n - 8)
    ≡ field bs p n
field_two bs p n h l =
    let i : ℕ = p % 8 in
    let low : ℕ = i + n - 8 in
    let e : 8 * (p / 8) + i ≡ p = omega arith in
    let f : 8 * (p / 8 + 1) + 0 ≡ p + (8 - i) = omega arith in
    let g : 8 - i + low ≡ n = omega arith in
    let a = rw e at (field_within bs (p / 8) i (8 - i) (omega arith)) in
    let b = rw f at (field_within bs (p / 8 + 1) 0 low (omega arith)) in
    let s : field bs p n ≡ field bs p (8 - i) * 2 ^ low + field bs (p + (8 - i)) low = rw g at (field_split bs p (8 - i) low) in
    sym (s ∙ rw (a, b))

-- a field of what is left after k bytes
pub field_drop : (bs : List ℕ) (k p n : ℕ) → field (drop k bs) p n ≡ field bs (8 * k + p) n
unfolding field bit
field_drop bs k p zero = refl
field_drop bs k p (suc n) =
    let q : ℕ = p + n in
    let a : (8 * k + p + n) / 8 ≡ k + q / 8 = omega arith in
    let b : (8 * k + p + n) % 8 ≡ q % 8 = omega arith in
    let here : bit (drop k bs) (p + n) ≡ bit bs (8 * k + p + n) = rw (a, b, get_or-drop k bs (q / 8) 0) in
    rw (field_drop bs k p n, here)

-- 12 bits from the top of byte k, 12 from its middle, and 8 from its middle
pub field_high : (bs : List ℕ) (k : ℕ) → field bs (8 * k) 12 ≡ get_or bs k 0 % 256 * 16 + get_or bs (k + 1) 0 / 16 % 16
field_high bs k =
    let p : 8 * k + 0 ≡ 8 * k = omega arith in
    let q : 8 * (k + 1) + 0 ≡ 8 * k + 8 = omega arith in
    let a : field bs (8 * k) 8 ≡ get_or bs k 0 / 1 % 256 = rw p at (field_within bs k 0 8 (omega arith)) in
    let b : field bs (8 * k + 8) 4 ≡ get_or bs (k + 1) 0 / 16 % 16 = rw q at (field_within bs (k + 1) 0 4 (omega arith)) in
    omega (arith, field_split bs (8 * k) 8 4)

pub field_middle : (bs : List ℕ) (k : ℕ) → field bs (8 * k + 4) 12 ≡ get_or bs k 0 % 16 * 256 + get_or bs (k + 1) 0 % 256
field_middle bs k =
    let q : 8 * (k + 1) + 0 ≡ 8 * k + 4 + 4 = omega arith in
    let a : field bs (8 * k + 4) 4 ≡ get_or bs k 0 / 1 % 16 = field_within bs k 4 4 (omega arith) in
    let b : field bs (8 * k + 4 + 4) 8 ≡ get_or bs (k + 1) 0 / 1 % 256 = rw q at (field_within bs (k + 1) 0 8 (omega arith)) in
    omega (arith, field_split bs (8 * k + 4) 4 8)

pub field_byte : (bs : List ℕ) (k : ℕ) → field bs (8 * k + 4) 8 ≡ get_or bs k 0 % 16 * 16 + get_or bs (k + 1) 0 / 16 % 16
field_byte bs k =
    let q : 8 * (k + 1) + 0 ≡ 8 * k + 4 + 4 = omega arith in
    let a : field bs (8 * k + 4) 4 ≡ get_or bs k 0 / 1 % 16 = field_within bs k 4 4 (omega arith) in
    let b : field bs (8 * k + 4 + 4) 4 ≡ get_or bs (k + 1) 0 / 16 % 16 = rw q at (field_within bs (k + 1) 0 4 (omega arith)) in
    omega (arith, field_split bs (8 * k + 4) 4 4)

-- the fields of the header
pub header_edition : (bs : List ℕ) → field bs 0 4 ≡ get_or bs 0 0 / 16 % 16
header_edition bs = field_within bs 0 0 4 (omega arith)

pub header_counted : (bs : List ℕ) → field bs 4 6 ≡ get_or bs 0 0 % 16 * 4 + get_or bs 1 0 / 64 % 4
header_counted bs =
    let a : field bs 4 4 ≡ get_or bs 0 0 / 1 % 16 = field_within bs 0 4 4 (omega arith) in
    let b : field bs 8 2 ≡ get_or bs 1 0 / 64 % 4 = field_within bs 1 0 2 (omega arith) in
    omega (arith, field_split bs 4 4 2)

pub header_framed : (bs : List ℕ) → field bs 10 6 ≡ get_or bs 1 0 % 64
header_framed bs = omega (arith, field_within bs 1 2 6 (omega arith))
