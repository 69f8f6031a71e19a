-- Frame rows: what is read is written, and what is written is read.
use Rattle.std.proofs.Common.{◌≡◌, ℕ, zero, suc, ◌+◌, ◌-◌, ◌*◌, ◌/◌, ◌%◌, ◌<◌, ◌≤◌, Bool, false, ltb, List, [], ◌∷◌, ◌++◌, length, get_or, take, drop, None, sym, refl, ap, ◌∙◌, inl, inr, arith}
use Rattle.std.specs.List.{flat_map, AllByRecursion}
use Rattle.std.proofs.lemmas.List.{drop_more, drop-drop, get_or-drop, get_or-take, length-take, length-take-le, length-drop, length-append, take-append-drop, take_at, get_or_past}
use Rattle.std.proofs.ByRecursion.{All-from_get_or, All-get_or, All-weaker}
use Rattle.std.proofs.lemmas.Bool.{cases_lt, ltb-false, le-ltb}
use Rattle.std.specs.Option.{option_map}
use Rattle.denial.specs.declared.Rule.TheVariants.{Spare}
use Rattle.denial.specs.declared.Denial.{Denial}
use Rattle.denial.specs.Numbers.{denied}
use Rattle.plate.specs.declared.frame.Frame.{Frame}
use Rattle.plate.specs.Bits.{field}
use Rattle.plate.specs.Faults.{spare_fault, frame_at, bad_budget, no_rank, framed_fault}
use Rattle.plate.specs.Rows.{Framed, short_fault, spare_frame, frames_of, frames_count, frame_bytes, framed_at, framed_denial}
use Rattle.plate.specs.Plans.{Within, Bytes, SoundFramed, bytes_of_frame, framed_bytes}
use Rattle.plate.proofs.Fields.{field_within, field_high, field_byte, field_drop}
use Rattle.plate.proofs.Frames.{frames_length}
use Rattle.plate.proofs.Halves.{high_half, low_half, by_sixteen, by_nibble, four_three}
use Rattle.plate.proofs.Nones.{or_none, when_none, mapped_none, first_all, all_first, ranged, in_range}

-- the three fields of the frame in front
front_budget : (bs : List ℕ) → field bs 0 12 ≡ get_or bs 0 0 % 256 * 16 + get_or bs 1 0 / 16 % 16
front_budget bs = field_high bs 0

front_rank : (bs : List ℕ) → field bs 12 8 ≡ get_or bs 1 0 % 16 * 16 + get_or bs 2 0 / 16 % 16
front_rank bs = field_byte bs 1

front_spare : (bs : List ℕ) → field bs 20 4 ≡ get_or bs 2 0 % 16
front_spare bs = omega (arith, field_within bs 2 4 4 (omega arith))

-- no frame has a spare bit
abbrev pub NoSpare : List ℕ → Type 0
NoSpare bytes = (i : ℕ) → i < length bytes / 3 → field bytes (24 * i + 20) 4 ≡ 0

-- the spare bits of the frames after the first
after_spare : (a b c : ℕ) (bs : List ℕ) → NoSpare (a ∷ (b ∷ (c ∷ bs))) → NoSpare bs
after_spare a b c bs h i l =
    let e : 8 * 3 + (24 * i + 20) ≡ 24 * (i + 1) + 20 = omega arith in
    rw e at (field_drop (a ∷ (b ∷ (c ∷ bs))) 3 (24 * i + 20) 4) ∙ h (i + 1) (omega arith)

-- frames that are read, written again
pub frames_back : (bytes : List ℕ) → length bytes % 3 ≡ 0 → Bytes bytes → NoSpare bytes → flat_map bytes_of_frame (frames_of bytes) ≡ bytes
unfolding frames_of
frames_back [] h s z = refl
frames_back (a ∷ []) h s z = absurd (omega arith)
frames_back (a ∷ (b ∷ [])) h s z = absurd (omega arith)
frames_back (a ∷ (b ∷ (c ∷ bs))) h s z =
    let all : List ℕ = a ∷ (b ∷ (c ∷ bs)) in
    let sa : a < 256 = s 0 in
    let sb : b < 256 = s 1 in
    let sc : c < 256 = s 2 in
    let zero-spare : c % 16 ≡ 0 = sym (front_spare all) ∙ z 0 (omega arith) in
    let e0 : field all 0 12 / 16 ≡ a = omega (arith, front_budget all) in
    let e1 : field all 0 12 % 16 * 16 + field all 12 8 / 16 ≡ b = omega (arith, front_budget all, front_rank all) in
    let e2 : field all 12 8 % 16 * 16 ≡ c = omega (arith, front_rank all) in
    let ih = frames_back bs (omega arith) (λ i. s (suc (suc (suc i)))) (after_spare a b c bs z) in
    rw (e0, e1, e2, ih)

-- a frame within its bits
abbrev pub Fitting : Frame → Type 0
Fitting f = (f.budget ≤ 4095) × (f.rank ≤ 255)

pub frames_forth : (fs : List Frame) → AllByRecursion Fitting fs → frames_of (flat_map bytes_of_frame fs) ≡ fs
unfolding frames_of
frames_forth [] w = refl
frames_forth (f ∷ fs) w =
    let all : List ℕ = flat_map bytes_of_frame (f ∷ fs) in
    let q : ℕ = f.budget % 16 in
    let r : ℕ = f.rank / 16 in
    let high = high_half q r (omega arith) in
    let low = low_half q r (omega arith) in
    let budget : field all 0 12 ≡ f.budget = front_budget all ∙ rw high (by_sixteen f.budget w.0.0) in
    let rank : field all 12 8 ≡ f.rank = front_rank all ∙ rw low (by_nibble f.rank) in
    rw (budget, rank, frames_forth fs w.1)

pub joined_length : (fs : List Frame) → length (flat_map bytes_of_frame fs) ≡ 3 * length fs
joined_length [] = refl
joined_length (f ∷ fs) = omega (arith, joined_length fs)

pub written_spare : (fs : List Frame) → AllByRecursion Fitting fs → NoSpare (flat_map bytes_of_frame fs)
written_spare [] w i l = absurd (omega arith)
written_spare (f ∷ fs) w zero l =
    front_spare (flat_map bytes_of_frame (f ∷ fs)) ∙ (omega arith)
written_spare (f ∷ fs) w (suc i) l =
    let all : List ℕ = flat_map bytes_of_frame (f ∷ fs) in
    let e : 8 * 3 + (24 * i + 20) ≡ 24 * suc i + 20 = omega arith in
    sym (rw e at (field_drop all 3 (24 * i + 20) 4)) ∙ written_spare fs w.1 i (omega arith)

-- the fixed fields of a row from byte k on
pub record Fixed (bs : List ℕ) (k : ℕ) : Type 0 where
  pub gap : field bs (8 * k) 12 ≡ get_or bs k 0 % 256 * 16 + get_or bs (k + 1) 0 / 16 % 16
  pub less_one : field bs (8 * k + 12) 3 ≡ get_or bs (k + 1) 0 / 2 % 8
  pub spare : field bs (8 * k + 15) 1 ≡ get_or bs (k + 1) 0 % 2

pub fixed : (bs : List ℕ) (k : ℕ) → Fixed bs k
fixed bs k =
    let q : 8 * (k + 1) + 4 ≡ 8 * k + 12 = omega arith in
    let r : 8 * (k + 1) + 7 ≡ 8 * k + 15 = omega arith in
    let s = rw r at (field_within bs (k + 1) 7 1 (omega arith)) in
    record {
      gap = field_high bs k;
      less_one = rw q at (field_within bs (k + 1) 4 3 (omega arith));
      spare = omega (arith, s);
    }

-- What it says of a row of numbers that nothing is at fault in it.
clean : (row p gap : ℕ) (frames : List Frame) → framed_fault row p gap frames ≡ None
    → Within 1 4095 gap × Within 1 8 (length frames)
    × ((i : ℕ) → i < length frames → bad_budget gap (frame_at frames i).budget ≡ false)
    × ((i : ℕ) → i < length frames → no_rank (frame_at frames i).rank ≡ false)
clean row p gap frames e =
    let a = or_none _ _ e in
    let b = or_none _ _ a.1 in
    let c = or_none _ _ b.1 in (
      ranged gap 4095 (when_none _ _ b.0),
      ranged (length frames) 8 (when_none _ _ a.0),
      first_all (λ i. bad_budget gap (frame_at frames i).budget) (length frames) (mapped_none _ _ c.0),
      first_all (λ i. no_rank (frame_at frames i).rank) (length frames) (mapped_none _ _ c.1),
    )

pub faultless : (row p : ℕ) (f : Framed) → SoundFramed f → framed_fault row p f.gap f.frames ≡ None
faultless row p f s =
    let here : (i : ℕ) → i < length f.frames → Within 1 f.gap (frame_at f.frames i).budget × Within 1 255 (frame_at f.frames i).rank =
    λ i l. All-get_or _ f.frames i (record { budget = 0; rank = 0 }) l s.frames in
    rw (
      in_range (length f.frames) 8 s.classes,
      in_range f.gap 4095 s.gap,
      all_first (λ i. bad_budget f.gap (frame_at f.frames i).budget) (length f.frames) (λ i l. in_range _ f.gap (here i l).0),
      all_first (λ i. no_rank (frame_at f.frames i).rank) (length f.frames) (λ i l. in_range _ 255 (here i l).1),
    )

-- A row that is read, written again.
pub record Back (bs : List ℕ) (k : ℕ) : Type 0 where
  pub sound : SoundFramed (framed_at bs (8 * k))
  pub bytes : drop k bs ≡ framed_bytes (framed_at bs (8 * k)) ++ drop (k + 2 + 3 * frames_count bs (8 * k)) bs

bytes_are : (bs : List ℕ) (k : ℕ) → frame_bytes bs (8 * k) ≡ take (3 * frames_count bs (8 * k)) (drop (k + 2) bs)
bytes_are bs k =
    let e : (8 * k + 16) / 8 ≡ k + 2 = omega arith in
    ap (λ t. take (3 * frames_count bs (8 * k)) (drop t bs)) e

-- the first two of what is left after k bytes
pub drop_two : (bs : List ℕ) (k : ℕ) → k + 2 ≤ length bs → drop k bs ≡ get_or bs k 0 ∷ (get_or bs (k + 1) 0 ∷ drop (k + 2) bs)
drop_two bs k h =
    let e : k + 1 + 1 ≡ k + 2 = omega arith in
    drop_more bs k 0 (omega arith) ∙ ap (λ t. get_or bs k 0 ∷ t) (rw e at (drop_more bs (k + 1) 0 (omega arith)))

-- part of a list of bytes
part_small : (bs : List ℕ) (j n : ℕ) → Bytes bs → Bytes (take n (drop j bs))
part_small bs j n small i =
    elim (cases_lt i n) [
      | inl l ↦ rw (get_or-take n (drop j bs) i 0 l, get_or-drop j bs i 0) (small (j + i))
      | inr l ↦ rw (get_or_past (take n (drop j bs)) i 0 (omega (arith, length-take n (drop j bs)))) (omega arith)
    ]

row_bytes : (bs : List ℕ) (k : ℕ) → Bytes bs → k + 2 + 3 * frames_count bs (8 * k) ≤ length bs → field bs (8 * k + 15) 1 ≡ 0
    → length (frame_bytes bs (8 * k)) ≡ 3 * frames_count bs (8 * k) → NoSpare (frame_bytes bs (8 * k))
    → drop k bs ≡ framed_bytes (framed_at bs (8 * k)) ++ drop (k + 2 + 3 * frames_count bs (8 * k)) bs
row_bytes bs k small long spare count none =
    let n : ℕ = frames_count bs (8 * k) in
    let bytes : List ℕ = frame_bytes bs (8 * k) in
    let f = fixed bs k in
    let s0 = small k in
    let s1 = small (k + 1) in
    let frames = frames_length bytes in
    let back = frames_back bytes (omega arith) (part_small bs ((8 * k + 16) / 8) (3 * n) small) none in
    let e0 : field bs (8 * k) 12 / 16 ≡ get_or bs k 0 = omega (arith, f.gap) in
    let low : field bs (8 * k) 12 % 16 ≡ get_or bs (k + 1) 0 / 16 = omega (arith, f.gap) in
    let three : length (frames_of bytes) - 1 ≡ get_or bs (k + 1) 0 / 2 % 8 = omega (arith, f.less_one) in
    let e1 : field bs (8 * k) 12 % 16 * 16 + (length (frames_of bytes) - 1) * 2 ≡ get_or bs (k + 1) 0 =
    rw (low, three) (four_three (get_or bs (k + 1) 0) (sym f.spare ∙ spare)) in
    let e2 : bytes ++ drop (k + 2 + 3 * n) bs ≡ drop (k + 2) bs =
    rw (bytes_are bs k, ← drop-drop (3 * n) (k + 2) bs) (take-append-drop (3 * n) (drop (k + 2) bs)) in
    drop_two bs k (omega arith) ∙ rw (e0, e1, back, e2)

-- a row of numbers with nothing at fault keeps the rules of its kind
pub fault_sound : (row p gap : ℕ) (frames : List Frame) → framed_fault row p gap frames ≡ None
    → SoundFramed (record { gap = gap; frames = frames })
fault_sound row p gap frames e =
    let w = clean row p gap frames e in
    record {
      gap = w.0;
      classes = w.1;
      frames = All-from_get_or _ frames (record { budget = 0; rank = 0 })
          (λ i l. (ranged (frame_at frames i).budget gap (w.2 i l), ranged (frame_at frames i).rank 255 (w.3 i l)));
    }

-- what it says that nothing is at fault in a row that is read
parts : (bs : List ℕ) (p row : ℕ) → framed_denial bs p row ≡ None
    → ((p + 16) / 8 + 3 * frames_count bs p ≤ length bs) × (field bs (p + 15) 1 ≡ 0) × NoSpare (frame_bytes bs p)
    × (framed_fault row p (field bs p 12) (frames_of (frame_bytes bs p)) ≡ None)
unfolding framed_denial
parts bs p row e =
    let bytes : List ℕ = frame_bytes bs p in
    let test : ℕ → Bool = λ i. ltb 0 (field bytes (24 * i + 20) 4) in
    let where-at : ℕ → Denial = λ i. denied Spare row (p + 36 + 24 * i) in
    let a = or_none (short_fault bs row (p / 8 + 2)) _ e in
    let b = or_none (short_fault bs row ((p + 16) / 8 + 3 * frames_count bs p)) _ a.1 in
    let c = or_none (spare_fault row (p + 15) (field bs (p + 15) 1)) _ b.1 in
    let d = or_none (option_map where-at (spare_frame bytes (length bytes / 3))) _ c.1 in
    let none = first_all test (length bytes / 3) (mapped_none where-at (spare_frame bytes (length bytes / 3)) d.0) in (
      ltb-false (length bs) ((p + 16) / 8 + 3 * frames_count bs p) (when_none _ _ b.0),
      (let z = ltb-false 0 (field bs (p + 15) 1) (when_none _ _ c.0) in omega (arith, z)),
      (λ i l. (let z = ltb-false 0 (field bytes (24 * i + 20) 4) (none i l) in omega (arith, z))),
      d.1,
    )

pub denial_sound : (bs : List ℕ) (p row : ℕ) → framed_denial bs p row ≡ None → SoundFramed (framed_at bs p)
denial_sound bs p row e = fault_sound row p (field bs p 12) (frames_of (frame_bytes bs p)) (parts bs p row e).3

pub framed_back : (bs : List ℕ) (k row : ℕ) → Bytes bs → framed_denial bs (8 * k) row ≡ None → Back bs k
framed_back bs k row small e =
    let w = parts bs (8 * k) row e in
    let n : ℕ = frames_count bs (8 * k) in
    let long : k + 2 + 3 * n ≤ length bs = omega (arith, w.0) in
    let left : 3 * n ≤ length (drop ((8 * k + 16) / 8) bs) = rw (length-drop ((8 * k + 16) / 8) bs) (omega arith) in
    let count = length-take-le (3 * n) (drop ((8 * k + 16) / 8) bs) left in
    record { sound = denial_sound bs (8 * k) row e; bytes = row_bytes bs k small long w.1 count w.2 }

-- A row that is written, read again.
pub record Forth (bs : List ℕ) (k row : ℕ) (f : Framed) : Type 0 where
  pub fits : framed_denial bs (8 * k) row ≡ None
  pub same : framed_at bs (8 * k) ≡ f
  pub count : frames_count bs (8 * k) ≡ length f.frames

pub framed_forth : (bs rest : List ℕ) (k row : ℕ) (f : Framed) → SoundFramed f → drop k bs ≡ framed_bytes f ++ rest
    → Forth bs k row f
unfolding framed_denial
framed_forth bs rest k row f s e =
    let h = fixed bs k in
    let w = s.gap in
    let u = s.classes in
    let n : ℕ = length f.frames in
    let bytes : List ℕ = flat_map bytes_of_frame f.frames in
    let fit : AllByRecursion Fitting f.frames =
    All-weaker _ Fitting (λ x v. (let g : x.budget ≤ f.gap = v.0.1 in omega arith, v.1.1)) f.frames s.frames in
    let size = joined_length f.frames in
    let long : length bs - k ≡ 2 + 3 * n + length rest =
    sym (length-drop k bs) ∙ ap length e ∙ (omega (arith, length-append bytes rest)) in
    let at : (j x : ℕ) → get_or (framed_bytes f ++ rest) j 0 ≡ x → get_or bs (k + j) 0 ≡ x =
    λ j x t. sym (get_or-drop k bs j 0) ∙ ap (λ l. get_or l j 0) e ∙ t in
    let k0 : k + 0 ≡ k = omega arith in
    let b0 : get_or bs k 0 ≡ f.gap / 16 = rw k0 at (at 0 (f.gap / 16) refl) in
    let b1 : get_or bs (k + 1) 0 ≡ f.gap % 16 * 16 + (n - 1) * 2 = at 1 _ refl in
    let high = high_half (f.gap % 16) ((n - 1) * 2) (omega arith) in
    let gap : field bs (8 * k) 12 ≡ f.gap = h.gap ∙ rw (b0, b1, high) (by_sixteen f.gap w.1) in
    let count : field bs (8 * k + 12) 3 + 1 ≡ n = omega (arith, h.less_one) in
    let spare : field bs (8 * k + 15) 1 ≡ 0 = omega (arith, h.spare) in
    let tail : drop (k + 2) bs ≡ bytes ++ rest = sym (drop-drop 2 k bs) ∙ ap (drop 2) e in
    let part : frame_bytes bs (8 * k) ≡ bytes = bytes_are bs k ∙ rw (count, tail) (take_at bytes rest (3 * n) size) in
    let frames = frames_forth f.frames fit in
    let p2 : 8 * k / 8 + 2 ≤ length bs = omega arith in
    let p16 : (8 * k + 16) / 8 + 3 * n ≤ length bs = omega arith in
    let none = faultless row (8 * k) f s in
    let clear =
    all_first (λ i. ltb 0 (field bytes (24 * i + 20) 4)) (length bytes / 3)
    (λ i l. le-ltb 0 (field bytes (24 * i + 20) 4) (let z = written_spare f.frames fit i l in omega arith)) in
    record {
      fits = rw (gap, part, spare, count, frames, clear, none, le-ltb (length bs) (8 * k / 8 + 2) p2, le-ltb (length bs) ((8 * k + 16) / 8 + 3 * n) p16);
      same = rw (gap, part, frames);
      count = count;
    }
