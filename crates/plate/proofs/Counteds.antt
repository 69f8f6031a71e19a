-- Miss-counted rows: what is read is written, and what is written is read.
use Rattle.std.proofs.Common.{◌≡◌, ℕ, zero, suc, ◌+◌, ◌-◌, ◌*◌, ◌/◌, ◌%◌, ◌<◌, ◌≤◌, false, ltb, List, ◌∷◌, ◌++◌, length, get_or, take, drop, None, sym, refl, ap, ◌∙◌, arith}
use Rattle.std.proofs.lemmas.List.{drop_more, drop-drop, get_or-drop, length-take-le, length-drop, length-append, take-append-drop, take_at}
use Rattle.std.proofs.ByRecursion.{All-from_get_or, All-get_or}
use Rattle.std.proofs.lemmas.Bool.{or_parts, or_from, ltb-false, le-ltb}
use Rattle.plate.specs.Bits.{field}
use Rattle.plate.specs.Faults.{spare_fault, no_rank, bad_rank, counted_fault}
use Rattle.plate.specs.Rows.{Counted, short_fault, ranks_count, rank_bytes, counted_at, counted_denial}
use Rattle.plate.specs.Plans.{Within, Bytes, SoundCounted, counted_bytes}
use Rattle.plate.proofs.Fields.{field_within, field_high, field_middle}
use Rattle.plate.proofs.Halves.{high_half, low_half, by_sixteen, by_byte}
use Rattle.plate.proofs.Nones.{ranged, in_range, or_none, when_none, mapped_none, first_all, all_first}

-- the fixed fields of a row from byte k on
pub record Fixed (bs : List ℕ) (k : ℕ) : Type 0 where
  pub gap : field bs (8 * k) 12 ≡ get_or bs k 0 % 256 * 16 + get_or bs (k + 1) 0 / 16 % 16
  pub budget : field bs (8 * k + 12) 12 ≡ get_or bs (k + 1) 0 % 16 * 256 + get_or bs (k + 2) 0 % 256
  pub misses : field bs (8 * k + 24) 3 ≡ get_or bs (k + 3) 0 / 32 % 8
  pub spare : field bs (8 * k + 27) 5 ≡ get_or bs (k + 3) 0 % 32

pub fixed : (bs : List ℕ) (k : ℕ) → Fixed bs k
fixed bs k =
    let p : 8 * (k + 1) + 4 ≡ 8 * k + 12 = omega arith in
    let q : 8 * (k + 3) + 0 ≡ 8 * k + 24 = omega arith in
    let r : 8 * (k + 3) + 3 ≡ 8 * k + 27 = omega arith in
    let two : k + 1 + 1 ≡ k + 2 = omega arith in
    let s = rw r at (field_within bs (k + 3) 3 5 (omega arith)) in
    record {
      gap = field_high bs k;
      budget = rw (p, two) at (field_middle bs (k + 1));
      misses = rw q at (field_within bs (k + 3) 0 3 (omega arith));
      spare = omega (arith, s);
    }

-- the first four of what is left after k bytes
pub drop_four : (bs : List ℕ) (k : ℕ) → k + 4 ≤ length bs
    → drop k bs ≡ get_or bs k 0 ∷ (get_or bs (k + 1) 0 ∷ (get_or bs (k + 2) 0 ∷ (get_or bs (k + 3) 0 ∷ drop (k + 4) bs)))
drop_four bs k h =
    let e1 : k + 1 + 1 ≡ k + 2 = omega arith in
    let e2 : k + 2 + 1 ≡ k + 3 = omega arith in
    let e3 : k + 3 + 1 ≡ k + 4 = omega arith in
    let d0 = drop_more bs k 0 (omega arith) in
    let d1 = rw e1 at (drop_more bs (k + 1) 0 (omega arith)) in
    let d2 = rw e2 at (drop_more bs (k + 2) 0 (omega arith)) in
    let d3 = rw e3 at (drop_more bs (k + 3) 0 (omega arith)) in
    d0 ∙ ap (λ t. get_or bs k 0 ∷ t) (d1 ∙ ap (λ t. get_or bs (k + 1) 0 ∷ t) (d2 ∙ ap (λ t. get_or bs (k + 2) 0 ∷ t) d3))

-- What it says of a row of numbers that nothing is at fault in it.
pub record Clean (g b : ℕ) (rs : List ℕ) : Type 0 where
  pub gap : Within 1 4095 g
  pub budget : Within 1 g b
  pub classes : Within 1 8 (length rs)
  pub each : (i : ℕ) → i < length rs → bad_rank rs i ≡ false

pub clean : (row p gap budget : ℕ) (ranks : List ℕ) → counted_fault row p gap budget ranks ≡ None → Clean gap budget ranks
clean row p gap budget ranks e =
    let a = or_none _ _ e in
    let b = or_none _ _ a.1 in
    let c = or_none _ _ b.1 in
    record {
      gap = ranged gap 4095 (when_none _ _ b.0);
      budget = ranged budget gap (when_none _ _ c.0);
      classes = ranged (length ranks) 8 (when_none _ _ a.0);
      each = first_all (bad_rank ranks) (length ranks) (mapped_none _ _ c.1);
    }

pub faultless : (row p gap budget : ℕ) (ranks : List ℕ) → Clean gap budget ranks → counted_fault row p gap budget ranks ≡ None
faultless row p gap budget ranks w =
    rw (
      in_range (length ranks) 8 w.classes,
      in_range gap 4095 w.gap,
      in_range budget gap w.budget,
      all_first (bad_rank ranks) (length ranks) w.each,
    )

-- the same, by the rules of the kind
pub sound_clean : (c : Counted) → SoundCounted c → Clean c.gap c.budget c.ranks
sound_clean c s = record {
  gap = s.gap;
  budget = s.budget;
  classes = s.classes;
  each = λ i l.
      let here = All-get_or (Within 1 255) c.ranks i 0 l s.ranks in
      or_from (no_rank (get_or c.ranks i 0)) (ltb (get_or c.ranks i 0) (get_or c.ranks (i - 1) 0))
      (in_range (get_or c.ranks i 0) 255 here)
      (le-ltb (get_or c.ranks i 0) (get_or c.ranks (i - 1) 0) (before i l));
}
  where
    before : (i : ℕ) → i < length c.ranks → get_or c.ranks (i - 1) 0 ≤ get_or c.ranks i 0
    before zero l = omega arith
    before (suc i) l =
        let e : suc i - 1 ≡ i = omega arith in
        let f : i + 1 ≡ suc i = omega arith in
        rw e (rw f at (s.rise i (omega arith)))

pub clean_sound : (c : Counted) → Clean c.gap c.budget c.ranks → SoundCounted c
clean_sound c w = record {
  gap = w.gap;
  budget = w.budget;
  classes = w.classes;
  ranks = All-from_get_or (Within 1 255) c.ranks 0
      (λ i l. ranged (get_or c.ranks i 0) 255 (or_parts (no_rank (get_or c.ranks i 0)) _ (w.each i l)).0);
  rise = λ i l.
      let both = or_parts (no_rank (get_or c.ranks (i + 1) 0)) (ltb (get_or c.ranks (i + 1) 0) (get_or c.ranks (i + 1 - 1) 0)) (w.each (i + 1) l) in
      let e : i + 1 - 1 ≡ i = omega arith in
      rw e at (ltb-false (get_or c.ranks (i + 1) 0) (get_or c.ranks (i + 1 - 1) 0) both.1);
}

-- a row of numbers with nothing at fault keeps the rules of its kind
pub fault_sound : (row p gap budget : ℕ) (ranks : List ℕ) → counted_fault row p gap budget ranks ≡ None
    → SoundCounted (record { gap = gap; budget = budget; ranks = ranks })
fault_sound row p gap budget ranks e = clean_sound (record { gap = gap; budget = budget; ranks = ranks }) (clean row p gap budget ranks e)

-- what it says that nothing is at fault in a row that is read
parts : (bs : List ℕ) (p row : ℕ) → counted_denial bs p row ≡ None
    → ((p + 32) / 8 + ranks_count bs p ≤ length bs) × (field bs (p + 27) 5 ≡ 0)
    × (counted_fault row p (field bs p 12) (field bs (p + 12) 12) (rank_bytes bs p) ≡ None)
unfolding counted_denial
parts bs p row e =
    let a = or_none (short_fault bs row (p / 8 + 4)) _ e in
    let b = or_none (short_fault bs row ((p + 32) / 8 + ranks_count bs p)) _ a.1 in
    let c = or_none (spare_fault row (p + 27) (field bs (p + 27) 5)) _ b.1 in (
      ltb-false (length bs) ((p + 32) / 8 + ranks_count bs p) (when_none _ _ b.0),
      (let z = ltb-false 0 (field bs (p + 27) 5) (when_none _ _ c.0) in omega (arith, z)),
      c.1,
    )

pub denial_sound : (bs : List ℕ) (p row : ℕ) → counted_denial bs p row ≡ None → SoundCounted (counted_at bs p)
denial_sound bs p row e = fault_sound row p (field bs p 12) (field bs (p + 12) 12) (rank_bytes bs p) (parts bs p row e).2

-- A row that is read, written again.
pub record Back (bs : List ℕ) (k : ℕ) : Type 0 where
  pub sound : SoundCounted (counted_at bs (8 * k))
  pub bytes : drop k bs ≡ counted_bytes (counted_at bs (8 * k)) ++ drop (k + 4 + ranks_count bs (8 * k)) bs

ranks_are : (bs : List ℕ) (k : ℕ) → rank_bytes bs (8 * k) ≡ take (ranks_count bs (8 * k)) (drop (k + 4) bs)
ranks_are bs k =
    let e : (8 * k + 32) / 8 ≡ k + 4 = omega arith in
    ap (λ t. take (ranks_count bs (8 * k)) (drop t bs)) e

-- its bytes, where it is complete and its spare bits are zero
row_bytes : (bs : List ℕ) (k : ℕ) → Bytes bs → k + 4 + ranks_count bs (8 * k) ≤ length bs → field bs (8 * k + 27) 5 ≡ 0
    → drop k bs ≡ counted_bytes (counted_at bs (8 * k)) ++ drop (k + 4 + ranks_count bs (8 * k)) bs
row_bytes bs k small long spare =
    let n : ℕ = ranks_count bs (8 * k) in
    let f = fixed bs k in
    let s0 = small k in
    let s1 = small (k + 1) in
    let s2 = small (k + 2) in
    let s3 = small (k + 3) in
    let rs : rank_bytes bs (8 * k) ≡ take n (drop (k + 4) bs) = ranks_are bs k in
    let left : n ≤ length (drop (k + 4) bs) = rw (length-drop (k + 4) bs) (omega arith) in
    let count : length (rank_bytes bs (8 * k)) ≡ n = ap length rs ∙ length-take-le n (drop (k + 4) bs) left in
    let e0 : field bs (8 * k) 12 / 16 ≡ get_or bs k 0 = omega (arith, f.gap) in
    let e1 : field bs (8 * k) 12 % 16 * 16 + field bs (8 * k + 12) 12 / 256 ≡ get_or bs (k + 1) 0 = omega (arith, f.gap, f.budget) in
    let e2 : field bs (8 * k + 12) 12 % 256 ≡ get_or bs (k + 2) 0 = omega (arith, f.budget) in
    let e3 : (length (rank_bytes bs (8 * k)) - 1) * 32 ≡ get_or bs (k + 3) 0 = omega (arith, f.misses, f.spare, count) in
    let e4 : rank_bytes bs (8 * k) ++ drop (k + 4 + n) bs ≡ drop (k + 4) bs =
    rw (rs, ← drop-drop n (k + 4) bs) (take-append-drop n (drop (k + 4) bs)) in
    drop_four bs k (omega arith) ∙ rw (e0, e1, e2, e3, e4)

pub counted_back : (bs : List ℕ) (k row : ℕ) → Bytes bs → counted_denial bs (8 * k) row ≡ None → Back bs k
counted_back bs k row small e =
    let w = parts bs (8 * k) row e in
    let long : k + 4 + ranks_count bs (8 * k) ≤ length bs = omega (arith, w.0) in
    record { sound = denial_sound bs (8 * k) row e; bytes = row_bytes bs k small long w.1 }

-- A row that is written, read again.
pub record Forth (bs : List ℕ) (k row : ℕ) (c : Counted) : Type 0 where
  pub fits : counted_denial bs (8 * k) row ≡ None
  pub same : counted_at bs (8 * k) ≡ c
  pub count : ranks_count bs (8 * k) ≡ length c.ranks

pub counted_forth : (bs rest : List ℕ) (k row : ℕ) (c : Counted) → SoundCounted c → drop k bs ≡ counted_bytes c ++ rest
    → Forth bs k row c
unfolding counted_denial
counted_forth bs rest k row c s e =
    let f = fixed bs k in
    let w = s.gap in
    let v = s.budget in
    let u = s.classes in
    let n : ℕ = length c.ranks in
    let long : length bs - k ≡ 4 + n + length rest =
    sym (length-drop k bs) ∙ ap length e ∙ (omega (arith, length-append c.ranks rest)) in
    let at : (j x : ℕ) → get_or (counted_bytes c ++ rest) j 0 ≡ x → get_or bs (k + j) 0 ≡ x =
    λ j x h. sym (get_or-drop k bs j 0) ∙ ap (λ t. get_or t j 0) e ∙ h in
    let k0 : k + 0 ≡ k = omega arith in
    let b0 : get_or bs k 0 ≡ c.gap / 16 = rw k0 at (at 0 (c.gap / 16) refl) in
    let b1 : get_or bs (k + 1) 0 ≡ c.gap % 16 * 16 + c.budget / 256 = at 1 _ refl in
    let b2 : get_or bs (k + 2) 0 ≡ c.budget % 256 = at 2 _ refl in
    let b3 : get_or bs (k + 3) 0 ≡ (n - 1) * 32 = at 3 _ refl in
    let q : ℕ = c.gap % 16 in
    let r : ℕ = c.budget / 256 in
    let high = high_half q r (omega arith) in
    let low = low_half q r (omega arith) in
    let gap : field bs (8 * k) 12 ≡ c.gap = f.gap ∙ rw (b0, b1, high) (by_sixteen c.gap w.1) in
    let budget : field bs (8 * k + 12) 12 ≡ c.budget = f.budget ∙ rw (b1, b2, low) (by_byte c.budget) in
    let count : field bs (8 * k + 24) 3 + 1 ≡ n = omega (arith, f.misses) in
    let spare : field bs (8 * k + 27) 5 ≡ 0 = omega (arith, f.spare) in
    let tail : drop (k + 4) bs ≡ c.ranks ++ rest = sym (drop-drop 4 k bs) ∙ ap (drop 4) e in
    let ranks : rank_bytes bs (8 * k) ≡ c.ranks =
    ranks_are bs k ∙ rw (count, tail) (take_at c.ranks rest n refl) in
    let p4 : 8 * k / 8 + 4 ≤ length bs = omega arith in
    let p32 : (8 * k + 32) / 8 + n ≤ length bs = omega arith in
    let none = faultless row (8 * k) c.gap c.budget c.ranks (sound_clean c s) in
    record {
      fits = rw (gap, budget, ranks, spare, count, none, le-ltb (length bs) (8 * k / 8 + 4) p4, le-ltb (length bs) ((8 * k + 32) / 8 + n) p32);
      same = rw (gap, budget, ranks);
      count = count;
    }
