-- Whole plates: what is read is written, and what is written is read.
use Rattle.std.proofs.Common.{◌≡◌, ℕ, zero, suc, ◌+◌, ◌*◌, ◌/◌, ◌%◌, ◌≤◌, false, not, ◌&&◌, eqb, ltb, List, [], ◌∷◌, ◌++◌, length, get_or, drop, Some, None, Ok, Err, Option, Result, sym, refl, ap, ◌∙◌, inl, inr, append_assoc, arith}
use Rattle.std.specs.List.{flat_map, AllByRecursion}
use Rattle.std.proofs.lemmas.List.{drop-drop, drop_all, drop_at, length-append, length-drop}
use Rattle.std.proofs.lemmas.Bool.{ltb-false, le-ltb, eqb-false, eqb-true, ne_eqb, or_parts, and_left, and_cases, not-false}
use Rattle.denial.specs.declared.Denial.{Denial}
use Rattle.plate.specs.Bits.{field}
use Rattle.plate.specs.Rows.{Counted, Framed, counted_at, counted_denial, counted_bits, ranks_count, framed_at, framed_denial, framed_bits, frames_count}
use Rattle.denial.specs.Checks.{past}
use Rattle.plate.specs.Plans.{Plan, with_counted, with_framed, extra_fault, framed_from, counted_from, counts_fault, header_denial, header_bytes, decode, Bytes, SoundCounted, SoundFramed, counted_bytes, framed_bytes, encode, ReadIsWritten, WrittenIsRead, FewBytes}
use Rattle.std.proofs.lemmas.Nat.{div-mul-add, mod-mul-add}
use Rattle.plate.proofs.Fields.{header_edition, header_counted, header_framed}
use Rattle.plate.proofs.Nones.{unless_ok}
use Rattle.plate.proofs.Nones.{or_none, when_none}
use Rattle.plate.proofs.Counteds
use Rattle.plate.proofs.Frameds

past_ok : (o : Option Denial) (r : Result Plan Denial) (plan : Plan) → past o r ≡ Ok plan → (o ≡ None) × (r ≡ Ok plan)
past_ok None r plan e = (refl, e)
past_ok (Some d) r plan e = let z : ◌≡◌ {A = ℕ} 0 1 = cc in absurd (omega arith)

-- the plan that one row was put in front of
tail_of : (c : Counted) (r : Result Plan Denial) (plan : Plan) → with_counted c r ≡ Ok plan
    → (rest : Plan) × (r ≡ Ok rest) × (plan.counted ≡ c ∷ rest.counted) × (plan.framed ≡ rest.framed)
tail_of c (Ok rest) plan e = (rest, refl, cc, cc)
tail_of c (Err d) plan e = let z : ◌≡◌ {A = ℕ} 0 1 = cc in absurd (omega arith)

tail_of_framed : (f : Framed) (r : Result Plan Denial) (plan : Plan) → with_framed f r ≡ Ok plan
    → (rest : Plan) × (r ≡ Ok rest) × (plan.counted ≡ rest.counted) × (plan.framed ≡ f ∷ rest.framed)
tail_of_framed f (Ok rest) plan e = (rest, refl, cc, cc)
tail_of_framed f (Err d) plan e = let z : ◌≡◌ {A = ℕ} 0 1 = cc in absurd (omega arith)

-- what a plan that was read says of the bytes from k on
pub record Read (bs : List ℕ) (m n k : ℕ) (plan : Plan) : Type 0 where
  pub counts : (length plan.counted ≡ m) × (length plan.framed ≡ n)
  pub counted : AllByRecursion SoundCounted plan.counted
  pub framed : AllByRecursion SoundFramed plan.framed
  pub bytes : flat_map counted_bytes plan.counted ++ flat_map framed_bytes plan.framed ≡ drop k bs

more_framed : (bs : List ℕ) (n k j : ℕ) (plan rest : Plan) (f : Framed)
    → plan.counted ≡ rest.counted → plan.framed ≡ f ∷ rest.framed → rest.counted ≡ [] → Read bs 0 n j rest
    → SoundFramed f → drop k bs ≡ framed_bytes f ++ drop j bs
    → (plan.counted ≡ []) × Read bs 0 (suc n) k plan
more_framed bs n k j plan rest f ec ef none r sound e =
    let empty : plan.counted ≡ [] = ec ∙ none in
    let bytes : framed_bytes f ++ flat_map framed_bytes rest.framed ≡ drop k bs =
    ap (λ t. framed_bytes f ++ t) (rw none at r.bytes) ∙ sym e in (
      empty,
      record {
        counts = (rw empty, rw ef (ap suc r.counts.1));
        counted = rw empty tt;
        framed = rw ef (sound, r.framed);
        bytes = rw (empty, ef) bytes;
      },
    )

more_counted : (bs : List ℕ) (m n k j : ℕ) (plan rest : Plan) (c : Counted)
    → plan.counted ≡ c ∷ rest.counted → plan.framed ≡ rest.framed → Read bs m n j rest
    → SoundCounted c → drop k bs ≡ counted_bytes c ++ drop j bs
    → Read bs (suc m) n k plan
more_counted bs m n k j plan rest c ec ef r sound e =
    let later = flat_map framed_bytes rest.framed in
    let bytes : (counted_bytes c ++ flat_map counted_bytes rest.counted) ++ later ≡ drop k bs =
    append_assoc (counted_bytes c) (flat_map counted_bytes rest.counted) later
    ∙ ap (λ t. counted_bytes c ++ t) r.bytes ∙ sym e in
    record {
      counts = (rw ec (ap suc r.counts.0), rw ef r.counts.1);
      counted = rw ec (sound, r.counted);
      framed = rw ef r.framed;
      bytes = rw (ec, ef) bytes;
    }

read_framed : (bs : List ℕ) → Bytes bs → (n k row : ℕ) (plan : Plan) → framed_from bs n (8 * k) row ≡ Ok plan
    → (plan.counted ≡ []) × Read bs 0 n k plan
unfolding framed_from
read_framed bs small zero k row plan e =
    let got = unless_ok (extra_fault bs (8 * k)) (record { counted = []; framed = [] }) plan (sym e) in
    let none = ltb-false (8 * k) (8 * length bs) (when_none _ _ got.0) in
    let done = drop_all k bs (omega arith) in
    rw got.1 (refl, record { counts = (refl, refl); counted = tt; framed = tt; bytes = sym done })
read_framed bs small (suc n) k row plan e =
    let got = past_ok (framed_denial bs (8 * k) row) (with_framed (framed_at bs (8 * k)) (framed_from bs n (8 * k + framed_bits bs (8 * k)) (row + 1))) plan e in
    let back = Frameds.framed_back bs k row small got.0 in
    let rest = tail_of_framed (framed_at bs (8 * k)) (framed_from bs n (8 * k + framed_bits bs (8 * k)) (row + 1)) plan got.1 in
    let j : ℕ = k + 2 + 3 * frames_count bs (8 * k) in
    let p : 8 * k + framed_bits bs (8 * k) ≡ 8 * j = omega arith in
    let ih = read_framed bs small n j (row + 1) rest.0 (ap (λ q. framed_from bs n q (row + 1)) (sym p) ∙ rest.1) in
    more_framed bs n k j plan rest.0 (framed_at bs (8 * k)) rest.2 rest.3 ih.0 ih.1 back.sound back.bytes

read_counted : (bs : List ℕ) → Bytes bs → (m n k row : ℕ) (plan : Plan) → counted_from bs m n (8 * k) row ≡ Ok plan
    → Read bs m n k plan
unfolding counted_from
read_counted bs small zero n k row plan e =
    let all = read_framed bs small n k row plan e in
    record { counts = (ap length all.0, all.1.counts.1); counted = all.1.counted; framed = all.1.framed; bytes = all.1.bytes }
read_counted bs small (suc m) n k row plan e =
    let got = past_ok (counted_denial bs (8 * k) row) (with_counted (counted_at bs (8 * k)) (counted_from bs m n (8 * k + counted_bits bs (8 * k)) (row + 1))) plan e in
    let back = Counteds.counted_back bs k row small got.0 in
    let rest = tail_of (counted_at bs (8 * k)) (counted_from bs m n (8 * k + counted_bits bs (8 * k)) (row + 1)) plan got.1 in
    let j : ℕ = k + 4 + ranks_count bs (8 * k) in
    let p : 8 * k + counted_bits bs (8 * k) ≡ 8 * j = omega arith in
    let r = read_counted bs small m n j (row + 1) rest.0 (ap (λ q. counted_from bs m n q (row + 1)) (sym p) ∙ rest.1) in
    more_counted bs m n k j plan rest.0 (counted_at bs (8 * k)) rest.2 rest.3 r back.sound back.bytes

-- what is left after k bytes is what was put there
later : (bs xs ys : List ℕ) (k n : ℕ) → drop k bs ≡ xs ++ ys → length xs ≡ n → drop (k + n) bs ≡ ys
later bs xs ys k n e l = sym (drop-drop n k bs) ∙ ap (drop n) e ∙ drop_at xs ys n l

write_framed : (bs : List ℕ) (fs : List Framed) (k row : ℕ) → AllByRecursion SoundFramed fs → drop k bs ≡ flat_map framed_bytes fs
    → framed_from bs (length fs) (8 * k) row ≡ Ok (record { counted = []; framed = fs })
unfolding framed_from
write_framed bs [] k row s e =
    let gone = sym (length-drop k bs) ∙ ap length e in
    let over : 8 * length bs ≤ 8 * k = omega arith in
    rw (le-ltb (8 * k) (8 * length bs) over)
write_framed bs (f ∷ fs) k row s e =
    let forth = Frameds.framed_forth bs (flat_map framed_bytes fs) k row f s.0 e in
    let n : ℕ = length f.frames in
    let size = Frameds.joined_length f.frames in
    let j : ℕ = k + (2 + 3 * n) in
    let left = later bs (framed_bytes f) (flat_map framed_bytes fs) k (2 + 3 * n) e (omega arith) in
    let ih = write_framed bs fs j (row + 1) s.1 left in
    let p : 8 * k + (16 + 24 * n) ≡ 8 * j = omega arith in
    rw (forth.fits, forth.same, forth.count, p, ih)

write_counted : (bs : List ℕ) (cs : List Counted) (fs : List Framed) (k row : ℕ) → AllByRecursion SoundCounted cs → AllByRecursion SoundFramed fs
    → drop k bs ≡ flat_map counted_bytes cs ++ flat_map framed_bytes fs
    → counted_from bs (length cs) (length fs) (8 * k) row ≡ Ok (record { counted = cs; framed = fs })
unfolding counted_from
write_counted bs [] fs k row s t e = write_framed bs fs k row t e
write_counted bs (c ∷ cs) fs k row s t e =
    let rest = flat_map counted_bytes cs ++ flat_map framed_bytes fs in
    let e' = e ∙ append_assoc (counted_bytes c) (flat_map counted_bytes cs) (flat_map framed_bytes fs) in
    let forth = Counteds.counted_forth bs rest k row c s.0 e' in
    let n : ℕ = length c.ranks in
    let j : ℕ = k + (4 + n) in
    let left = later bs (counted_bytes c) rest k (4 + n) e' (omega arith) in
    let ih = write_counted bs cs fs j (row + 1) s.1 t left in
    let p : 8 * k + (32 + 8 * n) ≡ 8 * j = omega arith in
    rw (forth.fits, forth.same, forth.count, p, ih)

-- the numbers of rows in a header
header_fields : (bs rest : List ℕ) (m n : ℕ) → m ≤ 16 → n ≤ 16 → bs ≡ header_bytes m n ++ rest
    → (field bs 0 4 ≡ 1) × (field bs 4 6 ≡ m) × (field bs 10 6 ≡ n)
header_fields bs rest m n hm hn e =
    let b0 : get_or bs 0 0 ≡ 16 + m / 4 = ap (λ t. get_or t 0 0) e in
    let b1 : get_or bs 1 0 ≡ m % 4 * 64 + n = ap (λ t. get_or t 1 0) e in
    let small : m / 4 ≤ 4 = omega arith in
    let q : (m % 4 * 64 + n) / 64 ≡ m % 4 = div-mul-add (m % 4) 64 n (omega arith) in (
      omega (arith, header_edition bs),
      header_counted bs ∙ rw (b0, b1, q) (omega arith),
      header_framed bs ∙ rw b1 (mod-mul-add (m % 4) 64 n (omega arith)),
    )

-- what the header asks of the numbers of rows
both_zero : (m n : ℕ) → 1 ≤ m + n → (eqb m 0 && eqb n 0) ≡ false
both_zero zero n h = ne_eqb n 0 (omega arith)
both_zero (suc m) n h = and_left (eqb (suc m) 0) (eqb n 0) (ne_eqb (suc m) 0 (omega arith))

pub counts_fit : (m n : ℕ) → m ≤ 16 → n ≤ 16 → 1 ≤ m + n → counts_fault m n ≡ None
counts_fit m n hm hn h = rw (le-ltb 16 m hm, le-ltb 16 n hn, both_zero m n h)

counts_say : (m n : ℕ) → counts_fault m n ≡ None → (m ≤ 16) × (n ≤ 16) × (1 ≤ m + n)
counts_say m n e =
    let a = or_none _ _ e in
    let b = or_parts (ltb 16 m) (eqb m 0 && eqb n 0) (when_none _ _ a.0) in (
      ltb-false 16 m b.0,
      ltb-false 16 n (when_none _ _ a.1),
      elim (and_cases (eqb m 0) (eqb n 0) b.1) [
        | inl f ↦ (let x = eqb-false m 0 f in omega arith)
        | inr f ↦ (let x = eqb-false n 0 f in omega arith)
      ],
    )

pub written_is_read : WrittenIsRead
unfolding decode header_denial
written_is_read plan s =
    let m : ℕ = length plan.counted in
    let n : ℕ = length plan.framed in
    let rows : List ℕ = flat_map counted_bytes plan.counted ++ flat_map framed_bytes plan.framed in
    let h = header_fields (encode plan) rows m n s.few_counted s.few_framed refl in
    let all = write_counted (encode plan) plan.counted plan.framed 2 0 s.counted s.framed refl in
    let long : ltb (length (encode plan)) 2 ≡ false = le-ltb (length (encode plan)) 2 (omega arith) in
    let fit = counts_fit m n s.few_counted s.few_framed s.some in
    rw (long, h.0, h.1, h.2, fit) all

pub read_is_written : ReadIsWritten
unfolding decode header_denial
read_is_written bs small plan e =
    let got = past_ok (header_denial bs) (counted_from bs (field bs 4 6) (field bs 10 6) 16 0) plan e in
    let a = or_none _ _ got.0 in
    let b = or_none _ _ a.1 in
    let long = ltb-false (length bs) 2 (when_none _ _ a.0) in
    let edition = not_from_eqb (field bs 0 4) 1 (when_none _ _ b.0) in
    let few = counts_say (field bs 4 6) (field bs 10 6) b.1 in
    let r = read_counted bs small (field bs 4 6) (field bs 10 6) 2 0 plan got.1 in
    let s0 = small 0 in
    let s1 = small 1 in
    let e0 : 16 + field bs 4 6 / 4 ≡ get_or bs 0 0 = omega (arith, header_edition bs, header_counted bs) in
    let e1 : field bs 4 6 % 4 * 64 + field bs 10 6 ≡ get_or bs 1 0 = omega (arith, header_counted bs, header_framed bs) in
    let front = Frameds.drop_two bs 0 long in (
      record {
        some = rw (r.counts.0, r.counts.1) few.2;
        few_counted = rw r.counts.0 few.0;
        few_framed = rw r.counts.1 few.1;
        counted = r.counted;
        framed = r.framed;
      },
      rw (r.counts.0, r.counts.1, e0, e1, r.bytes) (sym front),
    )
  where
    not_from_eqb : (x y : ℕ) → not (eqb x y) ≡ false → x ≡ y
    not_from_eqb x y h = eqb-true x y (not-false (eqb x y) h)

-- how long rows are
counted_long : (cs : List Counted) → AllByRecursion SoundCounted cs → length (flat_map counted_bytes cs) ≤ 12 * length cs
counted_long [] s = omega arith
counted_long (c ∷ cs) s =
    let w = s.0.classes in
    omega (arith, counted_long cs s.1, length-append (counted_bytes c) (flat_map counted_bytes cs))

framed_long : (fs : List Framed) → AllByRecursion SoundFramed fs → length (flat_map framed_bytes fs) ≤ 26 * length fs
framed_long [] s = omega arith
framed_long (f ∷ fs) s =
    let w = s.0.classes in
    omega (arith, framed_long fs s.1, Frameds.joined_length f.frames, length-append (framed_bytes f) (flat_map framed_bytes fs))

pub few_bytes : FewBytes
few_bytes plan s =
    omega (
      arith,
      length-append (flat_map counted_bytes plan.counted) (flat_map framed_bytes plan.framed),
      counted_long plan.counted s.counted,
      framed_long plan.framed s.framed,
      s.few_counted,
      s.few_framed,
    )

-- an accepted plate has as many rows as its header says
pub read_counts : (bs : List ℕ) → Bytes bs → (plan : Plan) → decode bs ≡ Ok plan
    → (length plan.counted ≡ field bs 4 6) × (length plan.framed ≡ field bs 10 6)
unfolding decode
read_counts bs small plan e =
    let got = past_ok (header_denial bs) (counted_from bs (field bs 4 6) (field bs 10 6) 16 0) plan e in
    (read_counted bs small (field bs 4 6) (field bs 10 6) 2 0 plan got.1).counts
