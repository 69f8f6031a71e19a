-- Bytes put into a part of a list.
use Rattle.std.proofs.Common.{◌≡◌, ℕ, ◌+◌, ◌-◌, ◌<◌, ◌≤◌, List, [], ◌∷◌, ◌++◌, length, get_or, take, drop, sym, refl, ap, ◌∙◌, append_assoc, arith}
use borrow.Rule.Slice.PartMut.{put_mid}
use Rattle.std.specs.List.{flat_map}
use Rattle.std.proofs.lemmas.List.{drop-drop, drop_all, drop_at, append-nil, take_at, take-append-drop, length-append, length-drop, length-take-le, take_more}
use Rattle.plate.specs.Writing.{put_at}

-- a part that is written whole, as put_at
pub put_is : (a k : ℕ) (xs ys zs : List ℕ) → ys ≡ zs → k ≡ length zs → put_mid a k xs ys ≡ put_at xs a zs
put_is a k xs ys zs e f = rw (e, f) (ap (λ t. take a xs ++ (zs ++ t)) (drop-drop (length zs) a xs))

-- a list whose front and whose rest are both written
pub filled : (front rest f r q : List ℕ) → f ≡ front → r ≡ rest
    → put_mid (length front) (length (f ++ q) - length front) (f ++ q) r ≡ front ++ rest
filled front rest f r q e h =
    let a : take (length front) (f ++ q) ≡ front = rw e (take_at front q (length front) refl) in
    let b : drop (length (f ++ q) - length front) (drop (length front) (f ++ q)) ≡ [] =
    drop-drop (length (f ++ q) - length front) (length front) (f ++ q) ∙ drop_all _ (f ++ q) (omega (arith, length-append f q)) in
    rw (a, b, h) (ap (λ t. front ++ t) (append-nil rest))

-- the bytes of one item more
pub joined_more : {X : Type 0} (f : X → List ℕ) (xs : List X) (i : ℕ) (d : X) → i < length xs
    → flat_map f (take (i + 1) xs) ≡ flat_map f (take i xs) ++ f (get_or xs i d)
joined_more f xs i d l = ap (flat_map f) (take_more xs i d l) ∙ pushed f (take i xs) (get_or xs i d)
  where
    pushed : {X : Type 0} (f : X → List ℕ) (ys : List X) (y : X) → flat_map f (ys ++ (y ∷ [])) ≡ flat_map f ys ++ f y
    pushed f [] y = append-nil (f y)
    pushed f (z ∷ zs) y = ap (λ t. f z ++ t) (pushed f zs y) ∙ sym (append_assoc (f z) (flat_map f zs) (f y))

-- what was put in, by its two parts
pub put_both : (bs out x y front rest : List ℕ) (at : ℕ) → out ≡ put_at bs at (x ++ y) → x ≡ front → y ≡ rest
    → out ≡ put_at bs at (front ++ rest)
put_both bs out x y front rest at e f g = e ∙ rw (f, g)

-- two parts, the second right after the first
pub put_put : (bs xs ys : List ℕ) (a : ℕ) → a + length xs ≤ length bs
    → put_at (put_at bs a xs) (a + length xs) ys ≡ put_at bs a (xs ++ ys)
put_put bs xs ys a h =
    let front : List ℕ = take a bs in
    let n : length front ≡ a = length-take-le a bs (omega arith) in
    let whole : put_at bs a xs ≡ (front ++ xs) ++ drop (a + length xs) bs = sym (append_assoc front xs (drop (a + length xs) bs)) in
    let size : length (front ++ xs) ≡ a + length xs = omega (arith, length-append front xs) in
    let b : take (a + length xs) (put_at bs a xs) ≡ front ++ xs = ap (take (a + length xs)) whole ∙ take_at (front ++ xs) (drop (a + length xs) bs) (a + length xs) size in
    let rest : drop (a + length xs + length ys) (put_at bs a xs) ≡ drop (a + length (xs ++ ys)) bs =
    sym (drop-drop (length ys) (a + length xs) (put_at bs a xs))
    ∙ ap (drop (length ys)) (ap (drop (a + length xs)) whole ∙ drop_at (front ++ xs) (drop (a + length xs) bs) (a + length xs) size)
    ∙ drop-drop (length ys) (a + length xs) bs ∙ ap (λ t. drop t bs) (omega (arith, length-append xs ys)) in
    rw (b, rest) (append_assoc front xs (ys ++ drop (a + length (xs ++ ys)) bs) ∙ ap (λ t. front ++ t) (sym (append_assoc xs ys (drop (a + length (xs ++ ys)) bs))))

-- nothing written
pub put_none : (bs : List ℕ) (a : ℕ) → put_at bs a [] ≡ bs
put_none bs a = let e : a + 0 ≡ a = omega arith in rw e (take-append-drop a bs)

pub put_length : (bs xs : List ℕ) (a : ℕ) → a + length xs ≤ length bs → length (put_at bs a xs) ≡ length bs
put_length bs xs a h =
    omega (
      arith,
      length-append (take a bs) (xs ++ drop (a + length xs) bs),
      length-append xs (drop (a + length xs) bs),
      length-take-le a bs (omega arith),
      length-drop (a + length xs) bs,
    )
