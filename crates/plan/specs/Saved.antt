-- Rows of the tables, by their bytes, and their writing.
use Rattle.std.specs.Prelude.{◌≡◌, ℕ, zero, suc, ◌+◌, ◌*◌, ◌<◌, ◌≤◌, false, ltb, List, [], ◌∷◌, ◌++◌, map, length, take, Some, None, Option, Ok, Err, Result, ◌==◌, nat_lt, slice_index_or, refl}
use Rattle.std.proofs.Common.{append_assoc, sym, ap, ◌∙◌, arith}
use Rattle.std.specs.Option.{option_or}
use Rattle.std.specs.List.{flat_map, AllByRecursion}
use Rattle.std.proofs.lemmas.List.Folds.{flat_map-map, length-flat_map-take}
use Rattle.std.proofs.lemmas.List.{get_or-map, get_or_past, length-append, length-map}
use Rattle.std.proofs.lemmas.Bool.{le-ltb, eqb-false, ltb-false}
use Rattle.denial.specs.declared.Rule.TheVariants.{RowCounts, Room}
use Rattle.denial.specs.Numbers.{denied}
use Rattle.denial.specs.declared.Denial.{Denial}
use Rattle.plate.specs.Faults.{when, counted_fault, framed_fault}
use Rattle.plate.specs.Rows.{Counted, Framed}
use Rattle.plate.specs.Plans.{Plan, Sound, unless, counts_fault, header_bytes, SoundCounted, SoundFramed, counted_bytes, framed_bytes, encode}
use Rattle.plate.specs.Writing.{put_at, left, room_fault}
use Rattle.plate.proofs.Counteds
use Rattle.plate.proofs.Frameds
use Rattle.plate.proofs.Nones.{or_none, when_none}
use Rattle.plate.proofs.Puts.{joined_more, put_put}
use Rattle.plate.proofs.Trips.{counts_fit}
use Rattle.kinds.specs.Listed.{MissCountedTable, FrameTable}
use Rattle.kinds.proofs.Listed.{counted_few, counted_sound, framed_few, framed_sound}
use Rattle.plan.specs.Loads.{plan_of}
use Rattle.kinds.specs.declared.rows.MissCountedRow.{MissCountedRow}
use Rattle.kinds.specs.declared.rows.FrameRow.{FrameRow}
use Rattle.kinds.specs.Rows.{GoodCounted, counted_of, GoodFramed, framed_of}
use Rattle.plan.specs.Saves.{save_refusal, save_fault, bytes_of}

-- the bytes of row i, and none past the last
pub bytes_at : {X : Type 0} (f : X → List ℕ) (rows : List X) (i : ℕ) (x : X) → i < length rows → ((d : X) → slice_index_or rows i d ≡ x) → slice_index_or (map f rows) i [] ≡ f x
bytes_at f rows i x l stands = get_or-map f rows i x [] l ∙ ap f (stands x)

pub bytes_past : {X : Type 0} (f : X → List ℕ) (rows : List X) (i : ℕ) → length rows ≤ i → slice_index_or (map f rows) i [] ≡ []
bytes_past f rows i h = get_or_past (map f rows) i [] (rw (length-map rows f) h)

-- no row has more than 26 bytes
pub bytes_short : {X : Type 0} (f : X → List ℕ) (P : X → Type 0) → ((x : X) → P x → length (f x) ≤ 26) → (rows : List X) → AllByRecursion P rows
    → (i : ℕ) → length (slice_index_or (map f rows) i []) ≤ 26
bytes_short f P h [] w i = omega arith
bytes_short f P h (x ∷ rows) w zero = h x w.0
bytes_short f P h (x ∷ rows) w (suc i) = bytes_short f P h rows w.1 i

pub counted_short : (c : Counted) → SoundCounted c → length (counted_bytes c) ≤ 26
counted_short c s = let w = s.classes in omega arith

pub framed_short : (f : Framed) → SoundFramed f → length (framed_bytes f) ≤ 26
framed_short f s = let w = s.classes in omega (arith, Frameds.joined_length f.frames)

pub counted_row_short : (r : MissCountedRow) → GoodCounted r → length (counted_bytes (counted_of r)) ≤ 26
counted_row_short r k = counted_short (counted_of r) k.sound

pub framed_row_short : (r : FrameRow) → GoodFramed r → length (framed_bytes (framed_of r)) ≤ 26
framed_row_short r k = framed_short (framed_of r) k.sound

-- one row more counted
pub size_more : {X : Type 0} (f : X → List ℕ) (xs : List X) (i size : ℕ) (x : X) → i < length xs → slice_index_or xs i x ≡ x
    → size ≡ length (flat_map f (take i xs)) → size + length (f x) ≡ length (flat_map f (take (i + 1) xs))
size_more f xs i size x l s e =
    omega (arith, ap length (joined_more f xs i x l), length-append (flat_map f (take i xs)) (f (slice_index_or xs i x)), ap (λ y. length (f y)) s)

-- one row more written
pub put_more : {X : Type 0} (f : X → List ℕ) (bs out out' : List ℕ) (xs : List X) (at i end : ℕ) (x : X) → i < length xs → slice_index_or xs i x ≡ x
    → at + length (flat_map f xs) ≤ length bs → end ≡ at + length (flat_map f (take i xs)) → out ≡ put_at bs at (flat_map f (take i xs))
    → out' ≡ put_at out end (f x) → out' ≡ put_at bs at (flat_map f (take (i + 1) xs))
put_more f bs out out' xs at i end x l s room e o w =
    let more : flat_map f (take (i + 1) xs) ≡ flat_map f (take i xs) ++ f x = joined_more f xs i x l ∙ ap (λ y. flat_map f (take i xs) ++ f y) s in
    let fits = length-flat_map-take f xs i x l in
    w ∙ rw (o, e) (put_put bs (flat_map f (take i xs)) (f x) at (omega arith)) ∙ ap (put_at bs at) (sym more)

-- a sound row is written where there is room
pub counted_written : (out out' : List ℕ) (at : ℕ) (c : Counted) (r : Result ℕ Denial) → SoundCounted c
    → at + length (counted_bytes c) ≤ length out
    → r ≡ unless (option_or (counted_fault 0 0 c.gap c.budget c.ranks) (room_fault (length out) at (4 + length c.ranks))) (at + (4 + length c.ranks))
    → out' ≡ left r out at (counted_bytes c) → (r ≡ Ok (at + length (counted_bytes c))) × (out' ≡ put_at out at (counted_bytes c))
counted_written out out' at c r sound room e w =
    let none = Counteds.faultless 0 0 c.gap c.budget c.ranks (Counteds.sound_clean c sound) in
    let ok : r ≡ Ok (at + (4 + length c.ranks)) = e ∙ rw (none, le-ltb (length out) (at + (4 + length c.ranks)) (omega arith)) refl in
    let size : 4 + length c.ranks ≡ length (counted_bytes c) = omega arith in
    (ok ∙ ap (λ n. Ok (at + n)) size, w ∙ ap (λ x. left x out at (counted_bytes c)) ok)

pub framed_written : (out out' : List ℕ) (at : ℕ) (f : Framed) (r : Result ℕ Denial) → SoundFramed f
    → at + length (framed_bytes f) ≤ length out
    → r ≡ unless (option_or (framed_fault 0 0 f.gap f.frames) (room_fault (length out) at (2 + 3 * length f.frames))) (at + (2 + 3 * length f.frames))
    → out' ≡ left r out at (framed_bytes f) → (r ≡ Ok (at + length (framed_bytes f))) × (out' ≡ put_at out at (framed_bytes f))
framed_written out out' at f r sound room e w =
    let none = Frameds.faultless 0 0 f sound in
    let size : 2 + 3 * length f.frames ≡ length (framed_bytes f) = omega (arith, Frameds.joined_length f.frames) in
    let ok : r ≡ Ok (at + (2 + 3 * length f.frames)) = e ∙ rw (none, le-ltb (length out) (at + (2 + 3 * length f.frames)) (omega arith)) refl in
    (ok ∙ ap (λ n. Ok (at + n)) size, w ∙ ap (λ x. left x out at (framed_bytes f)) ok)

-- What a result says: a value is one value, a refusal is handed on, and what is not refused has no fault.
abbrev end_of : Result ℕ Denial → ℕ
end_of (Ok n) = n
end_of (Err d) = 0

abbrev values : Result ℕ Denial → ℕ
values (Ok n) = 1
values (Err d) = 0

pub same_end : (m n : ℕ) → ◌≡◌ {A = Result ℕ Denial} (Ok m) (Ok n) → m ≡ n
same_end m n e = ap end_of e

pub no_refusal : (r : Result ℕ Denial) (n : ℕ) (d : Denial) → r ≡ Ok n → r ≡ Err d → ⊥
no_refusal r n d e f = let z : 1 ≡ 0 = ap values (sym e ∙ f) in omega (arith, z)

pub handed_on : (o : Option Denial) (d : Denial) (n : ℕ) → ◌≡◌ {A = Result (Unit {0}) Denial} (unless o tt) (Err d)
    → ◌≡◌ {A = Result ℕ Denial} (Err d) (unless o n)
handed_on o d n e = sym (same o ∙ ap with_end e)
  where
    with_end : Result (Unit {0}) Denial → Result ℕ Denial
    with_end (Ok u) = Ok n
    with_end (Err x) = Err x

    same : (o : Option Denial) → unless o n ≡ with_end (unless o tt)
    same None = refl
    same (Some x) = refl

pub passed : (o : Option Denial) (u : Unit {0}) → ◌≡◌ {A = Result (Unit {0}) Denial} (unless o tt) (Ok u) → o ≡ None
passed o u e = same o ∙ ap fault_in e
  where
    fault_in : Result (Unit {0}) Denial → Option Denial
    fault_in (Ok u) = None
    fault_in (Err x) = Some x

    same : (o : Option Denial) → o ≡ fault_in (unless o tt)
    same None = refl
    same (Some x) = refl

-- Any rows as a plate.
pub plan_size : (cs : List Counted) (fs : List Framed) (x y : ℕ) → x ≡ length (flat_map counted_bytes cs) → y ≡ length (flat_map framed_bytes fs)
    → 2 + x + y ≡ length (encode (record { counted = cs; framed = fs }))
plan_size cs fs x y e f = omega (arith, length-append (flat_map counted_bytes cs) (flat_map framed_bytes fs))

-- the refusal by the sizes that were counted is the refusal of the plan
pub plan_fault : (cs : List Counted) (fs : List Framed) (m n size len : ℕ) → m ≡ length cs → n ≡ length fs
    → size ≡ length (encode (record { counted = cs; framed = fs }))
    → save_refusal (m + n) size len ≡ save_fault (record { counted = cs; framed = fs }) len
plan_fault cs fs m n size len em en es = rw (em, en, es) refl

-- what it says that nothing is refused
pub plan_fits : (rows size len : ℕ) → save_refusal rows size len ≡ None → (1 ≤ rows) × (size ≤ len)
plan_fits rows size len e =
    let a = or_none (when (rows == 0) (denied RowCounts 255 4)) (when (nat_lt len size) (denied Room size 0)) e in
    let z = eqb-false rows 0 (when_none _ _ a.0) in
    (omega arith, ltb-false len size (when_none _ _ a.1))

-- the header of no more than 16 rows a kind is written where there is room
pub header_written : (m n len : ℕ) (r : Result ℕ Denial) → m ≤ 16 → n ≤ 16 → 1 ≤ m + n → 2 ≤ len
    → r ≡ unless (option_or (counts_fault m n) (room_fault len 0 2)) 2 → r ≡ Ok 2
header_written m n len r hm hn h room e =
    let fit = counts_fit m n hm hn h in
    let space : ltb len (0 + 2) ≡ false = le-ltb len (0 + 2) (omega arith) in
    e ∙ rw (fit, space) refl

-- the header and then all rows, one kind after the other
pub plan_written : (out out₁ out₂ out₃ : List ℕ) (cs : List Counted) (fs : List Framed) (m n at : ℕ) (r : Result ℕ Denial)
    → m ≡ length cs → n ≡ length fs → length cs ≤ 16 → length fs ≤ 16 → 1 ≤ length cs + length fs
    → length (encode (record { counted = cs; framed = fs })) ≤ length out
    → r ≡ unless (option_or (counts_fault m n) (room_fault (length out) 0 2)) 2 → out₁ ≡ left r out 0 (header_bytes m n)
    → at ≡ 2 + length (flat_map counted_bytes cs) → out₂ ≡ put_at out₁ 2 (flat_map counted_bytes cs)
    → out₃ ≡ put_at out₂ at (flat_map framed_bytes fs)
    → out₃ ≡ put_at out 0 (encode (record { counted = cs; framed = fs }))
plan_written out out₁ out₂ out₃ cs fs m n at r em en hm hn h room er e₁ ea e₂ e₃ =
    let head : List ℕ = header_bytes (length cs) (length fs) in
    let xs : List ℕ = flat_map counted_bytes cs in
    let ys : List ℕ = flat_map framed_bytes fs in
    let size = plan_size cs fs (length xs) (length ys) refl refl in
    let ok = header_written m n (length out) r (omega arith) (omega arith) (omega arith) (omega arith) er in
    let o₁ : out₁ ≡ put_at out 0 head = e₁ ∙ rw (ok, em, en) refl in
    let o₂ : out₂ ≡ put_at out 0 (head ++ xs) = e₂ ∙ rw o₁ (put_put out head xs 0 (omega arith)) in
    let after : 0 + length (head ++ xs) ≡ at = omega (arith, length-append head xs) in
    let o₃ : out₃ ≡ put_at out 0 ((head ++ xs) ++ ys) =
    e₃ ∙ rw (o₂, ← after) (put_put out (head ++ xs) ys 0 (omega (arith, length-append head xs))) in
    o₃ ∙ ap (put_at out 0) (append_assoc head xs ys)

-- Two tables as a plate: m and n rows were counted, of x and y bytes.
module _ (t : MissCountedTable) (u : FrameTable) where
  abbrev plan : Plan
  plan = plan_of t u

  abbrev xs : List ℕ
  xs = bytes_of (λ r. counted_bytes (counted_of r)) t

  abbrev ys : List ℕ
  ys = bytes_of (λ r. framed_bytes (framed_of r)) u

  counted_all : xs ≡ flat_map counted_bytes plan.counted
  counted_all = rw (flat_map-map counted_bytes (λ e. counted_of e.row) t.entries.items) refl

  framed_all : ys ≡ flat_map framed_bytes plan.framed
  framed_all = rw (flat_map-map framed_bytes (λ e. framed_of e.row) u.entries.items) refl

  pub tables_size : (x y : ℕ) → x ≡ length xs → y ≡ length ys → 2 + x + y ≡ length (encode plan)
  tables_size x y ex ey = plan_size plan.counted plan.framed x y (ex ∙ ap length counted_all) (ey ∙ ap length framed_all)

  -- the rows keep the rules of their kinds
  pub plan_sound : 1 ≤ length plan.counted + length plan.framed → Sound plan
  plan_sound some = record {
    some = some;
    few_counted = counted_few t;
    few_framed = framed_few u;
    counted = counted_sound t;
    framed = framed_sound u;
  }

  module _ (m n x y len : ℕ) (em : m ≡ length plan.counted) (en : n ≡ length plan.framed) (ex : x ≡ length xs) (ey : y ≡ length ys) where
    -- the refusal by what was counted is the refusal of the plan
    tables_fault : save_refusal (m + n) (2 + x + y) len ≡ save_fault plan len
    tables_fault = plan_fault plan.counted plan.framed m n (2 + x + y) len em en (tables_size x y ex ey)

    pub plan_refused : (d : Denial) → ◌≡◌ {A = Result (Unit {0}) Denial} (unless (save_refusal (m + n) (2 + x + y) len) tt) (Err d)
        → ◌≡◌ {A = Result ℕ Denial} (Err d) (unless (save_fault plan len) (length (encode plan)))
    plan_refused d e = handed_on (save_fault plan len) d (length (encode plan)) (ap (λ o. unless o tt) (sym tables_fault) ∙ e)

    -- what is not refused has rows, and room for them
    pub plan_goes : (k : Unit {0}) → ◌≡◌ {A = Result (Unit {0}) Denial} (unless (save_refusal (m + n) (2 + x + y) len) tt) (Ok k)
        → (save_fault plan len ≡ None) × (1 ≤ length plan.counted + length plan.framed) × (length (encode plan) ≤ len)
    plan_goes k e =
        let none = passed (save_refusal (m + n) (2 + x + y) len) k e in
        let fits = plan_fits (m + n) (2 + x + y) len none in
        (sym tables_fault ∙ none, omega arith, omega (arith, tables_size x y ex ey))

  module _ (m n : ℕ) (em : m ≡ length plan.counted) (en : n ≡ length plan.framed) where
    -- then the header is written
    pub plan_headed : (len : ℕ) (r : Result ℕ Denial) → 1 ≤ length plan.counted + length plan.framed → length (encode plan) ≤ len
        → r ≡ unless (option_or (counts_fault m n) (room_fault len 0 2)) 2 → r ≡ Ok 2
    plan_headed len r some room e =
        let size = tables_size (length xs) (length ys) refl refl in
        header_written m n len r (omega (arith, counted_few t)) (omega (arith, framed_few u)) (omega arith) (omega arith) e

    -- and after it all rows, one kind after the other
    pub tables_written : (out out₁ out₂ out₃ : List ℕ) (r : Result ℕ Denial) → 1 ≤ length plan.counted + length plan.framed
        → length (encode plan) ≤ length out → r ≡ unless (option_or (counts_fault m n) (room_fault (length out) 0 2)) 2
        → out₁ ≡ left r out 0 (header_bytes m n) → out₂ ≡ put_at out₁ 2 xs → out₃ ≡ put_at out₂ (2 + length xs) ys
        → out₃ ≡ put_at out 0 (encode plan)
    tables_written out out₁ out₂ out₃ r some room er e₁ e₂ e₃ =
        plan_written out out₁ out₂ out₃ plan.counted plan.framed m n (2 + length xs) r em en (counted_few t) (framed_few u) some room er e₁
        (ap (λ zs. 2 + length zs) counted_all) (e₂ ∙ ap (put_at out₁ 2) counted_all) (e₃ ∙ ap (put_at out₂ (2 + length xs)) framed_all)
