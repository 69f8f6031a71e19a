-- Laws of frame bytes.
use Rattle.std.proofs.Common.{◌≡◌, ℕ, zero, suc, ◌+◌, ◌-◌, ◌*◌, ◌/◌, ◌<◌, ◌≤◌, min, List, [], ◌∷◌, ◌++◌, length, get_or, take, set, replicate, MatchOption, Some, None, Option, sym, refl, ap, ◌∙◌, append_assoc, subst, inl, inr, arith}
use denote.Param.Members.{Mut, Called}
use Rattle.std.specs.Option.{unwrap_or}
use Rattle.std.specs.Array.{IsFromFnResultFrom}
use Rattle.std.proofs.lemmas.Bool.{cases_lt}
use Rattle.std.proofs.lemmas.List.{length-take-le, set_at, take_more, take-replicate, length-append, ext_get_or, get_or-take, get_or_append_left, get_or-append_right, get_or-replicate, get_or_past, take-take, take_at}
use Rattle.plate.specs.declared.frame.Frame.{Frame}
use Rattle.plate.specs.Bits.{field}
use Rattle.plate.specs.Rows.{frames_of, padded}
use Rattle.plate.proofs.Fields.{field_drop}

abbrev zeros : Frame
zeros = record { budget = 0; rank = 0 }

-- three bytes to a frame
pub frames_length : (bs : List ℕ) → length (frames_of bs) ≡ length bs / 3
unfolding frames_of
frames_length [] = refl
frames_length (a ∷ []) = refl
frames_length (a ∷ (b ∷ [])) = refl
frames_length (a ∷ (b ∷ (c ∷ bs))) = omega (arith, frames_length bs)

-- frame i by its fields
pub frames_at : (bs : List ℕ) (i : ℕ) (d : Frame) → i < length bs / 3
    → get_or (frames_of bs) i d ≡ record { budget = field bs (24 * i) 12; rank = field bs (24 * i + 12) 8 }
unfolding frames_of
frames_at [] i d h = absurd (omega arith)
frames_at (a ∷ []) i d h = absurd (omega arith)
frames_at (a ∷ (b ∷ [])) i d h = absurd (omega arith)
frames_at (a ∷ (b ∷ (c ∷ bs))) zero d h = refl
frames_at (a ∷ (b ∷ (c ∷ bs))) (suc i) d h =
    let all : List ℕ = a ∷ (b ∷ (c ∷ bs)) in
    let p : 8 * 3 + 24 * i ≡ 24 * suc i = omega arith in
    let q : 8 * 3 + (24 * i + 12) ≡ 24 * suc i + 12 = omega arith in
    let e : field bs (24 * i) 12 ≡ field all (24 * suc i) 12 = rw p at (field_drop all 3 (24 * i) 12) in
    let f : field bs (24 * i + 12) 8 ≡ field all (24 * suc i + 12) 8 = rw q at (field_drop all 3 (24 * i + 12) 8) in
    rw (frames_at bs i d (omega arith), e, f)

-- one frame more in front of the zeros
pub padded_more : (fs gs : List Frame) (i : ℕ) (x d : Frame) → i < length fs → i < 8 → get_or fs i x ≡ x
    → gs ≡ take i fs ++ replicate (8 - i) d → set gs i x ≡ take (i + 1) fs ++ replicate (8 - (i + 1)) d
padded_more fs gs i x d l h e w =
    let n : 8 - i ≡ suc (8 - (i + 1)) = omega arith in
    let size : length (take i fs) ≡ i = length-take-le i fs (omega arith) in
    let put = set_at (take i fs) d (replicate (8 - (i + 1)) d) x i size in
    let more = take_more fs i x l in
    rw (w, n, more, e) (put ∙ sym (append_assoc (take i fs) (x ∷ []) (replicate (8 - (i + 1)) d)))

-- all of them, or the first n, before the others
pad : (fs : List Frame) (n m i : ℕ) (d : Frame) → n ≤ m → i ≡ min (length fs) n
    → take i fs ++ replicate (n - i) d ≡ take n (fs ++ replicate m d)
pad [] n m i d h e =
    let none : i ≡ 0 = omega arith in
    let all : n - 0 ≡ n = omega arith in
    rw (none, all) (sym (take-replicate n m d h))
pad (f ∷ fs) zero m i d h e = let none : i ≡ 0 = omega arith in rw none
pad (f ∷ fs) (suc n) m i d h e =
    let k : ℕ = min (length fs) n in
    let one : i ≡ suc k = omega arith in
    let left : suc n - suc k ≡ n - k = omega arith in
    rw (one, left) (ap (λ t. f ∷ t) (pad fs n m k d (omega arith) refl))

pub padded_all : (fs : List Frame) (i : ℕ) (d : Frame) → i ≡ min (length fs) 8 → take i fs ++ replicate (8 - i) d ≡ take 8 (fs ++ replicate 8 d)
padded_all fs i d e = pad fs 8 8 i d (omega arith) e

-- the frame that stands at i, or zeros
pub frame_or : (fs : List Frame) (i : ℕ) (o : Option Frame) → MatchOption o (length fs ≤ i) (λ f. (i < length fs) × (f ≡ get_or fs i zeros))
    → unwrap_or o zeros ≡ get_or fs i zeros
frame_or fs i None h = sym (get_or_past fs i zeros h)
frame_or fs i (Some f) h = h.1

-- an array made by calls, one for each index, of a closure that stays: what stands at one
pub made_at : {F B : Type 0} (g : Mut F (ℕ × Unit {0}) B) (f : F) (v : ℕ → B) (ys : List B) (d : B)
    → ((q : F) (i : ℕ) (y : B) → Called g f (i, tt) y q → (q ≡ f) × (y ≡ v i))
    → (n i : ℕ) → IsFromFnResultFrom g f ys i n → (k j : ℕ) → k < n → i + k ≡ j → get_or ys j d ≡ v j
made_at g f v ys d call zero i made k j l e = absurd (omega arith)
made_at g f v ys d call (suc n) i (q, y, here, called, more) zero j l e =
    let at : i ≡ j = omega arith in
    rw at at (here.1 d ∙ (call q i y called).1)
made_at g f v ys d call (suc n) i (q, y, here, called, more) (suc k) j l e =
    let rest = subst (λ p. IsFromFnResultFrom g p ys (i + 1) n) (call q i y called).0 more in
    made_at g f v ys d call n (i + 1) rest k j (omega arith) (omega arith)

-- eight of them, and zeros past the last
pub padded_at : (fs gs : List Frame) → length gs ≡ 8 → ((i : ℕ) → i < 8 → get_or gs i zeros ≡ get_or fs i zeros) → gs ≡ padded fs
padded_at fs gs n h = ext_get_or zeros gs (padded fs) (n ∙ sym size) (λ i l. h i (omega arith) ∙ sym (at i (omega arith)))
  where
    size : length (take 8 (fs ++ replicate 8 zeros)) ≡ 8
    size = length-take-le 8 (fs ++ replicate 8 zeros) (omega (arith, length-append fs (replicate 8 zeros)))

    at : (i : ℕ) → i < 8 → get_or (take 8 (fs ++ replicate 8 zeros)) i zeros ≡ get_or fs i zeros
    at i l =
        get_or-take 8 (fs ++ replicate 8 zeros) i zeros l
        ∙ elim (cases_lt i (length fs)) [
          | inl h ↦ get_or_append_left fs (replicate 8 zeros) zeros i h
          | inr h ↦ get_or-append_right fs (replicate 8 zeros) (length fs) i zeros refl h
              ∙ get_or-replicate 8 (i - length fs) zeros zeros (omega arith) ∙ sym (get_or_past fs i zeros h)
        ]

-- at most eight of them are all there
pub padded_few : (fs : List Frame) (n : ℕ) → n ≡ length fs → n ≤ 8 → take n (padded fs) ≡ fs
padded_few fs n e h =
    let zeros = replicate 8 (record { budget = 0; rank = 0 }) in
    take-take n 8 (fs ++ zeros) h ∙ take_at fs zeros n (sym e)
