-- Lists one after another.
use Rattle.std.specs.Prelude.{◌≡◌, ℕ, zero, suc, ◌+◌, ◌<◌, ◌≤◌, List, [], ◌∷◌, ◌++◌, map, length, take, slice_index_or, refl}
use Rattle.std.proofs.Common.{sym, ap, ◌∙◌, arith}
use Rattle.std.specs.List.{flat_map}
use Rattle.std.proofs.lemmas.List.{length-append, take_all}
use Rattle.plate.specs.Writing.{put_at}
use Rattle.plate.proofs.Puts.{joined_more, put_put}
use Rattle.plan.specs.Saves.{concat}
use Rattle.std.specs.Prelude.{Ok, Result}
use Rattle.std.specs.Option.{option_or}
use Rattle.denial.specs.declared.Denial.{Denial}
use Rattle.plate.specs.Rows.{Counted, Framed}
use Rattle.plate.specs.Plans.{unless, counts_fault, header_bytes, counted_bytes, framed_bytes, encode}
use Rattle.plate.specs.Writing.{left, room_fault}
use Rattle.plan.specs.Saved

-- one more
pub concat_more : (xss : List (List ℕ)) (i : ℕ) → i < length xss → concat (take (i + 1) xss) ≡ concat (take i xss) ++ slice_index_or xss i []
concat_more xss i l = joined_more (λ xs. xs) xss i [] l

pub concat_length : (xss : List (List ℕ)) (i : ℕ) → i < length xss
    → length (concat (take (i + 1) xss)) ≡ length (concat (take i xss)) + length (slice_index_or xss i [])
concat_length xss i l = ap length (concat_more xss i l) ∙ length-append (concat (take i xss)) (slice_index_or xss i [])

-- the first ones are no longer than all
pub concat_front : (xss : List (List ℕ)) (n : ℕ) → length (concat (take n xss)) ≤ length (concat xss)
concat_front [] zero = omega arith
concat_front [] (suc n) = omega arith
concat_front (xs ∷ xss) zero = omega arith
concat_front (xs ∷ xss) (suc n) =
    omega (arith, length-append xs (concat (take n xss)), length-append xs (concat xss), concat_front xss n)

pub concat_all : (xss : List (List ℕ)) (n : ℕ) → length xss ≤ n → concat (take n xss) ≡ concat xss
concat_all xss n h = ap concat (take_all n xss h)

-- a table's rows as their bytes
pub concat_map : {X : Type 0} (f : X → List ℕ) (xs : List X) → concat (map f xs) ≡ flat_map f xs
concat_map f [] = refl
concat_map f (x ∷ xs) = ap (λ t. f x ++ t) (concat_map f xs)

-- one row more written
pub put_more : (bs out out' : List ℕ) (xss : List (List ℕ)) (at i end : ℕ) → i < length xss → at + length (concat xss) ≤ length bs
    → end ≡ at + length (concat (take i xss)) → out ≡ put_at bs at (concat (take i xss))
    → out' ≡ put_at out end (slice_index_or xss i []) → out' ≡ put_at bs at (concat (take (i + 1) xss))
put_more bs out out' xss at i end l room e o w =
    let front = concat_front xss i in
    w ∙ rw (o, e) (put_put bs (concat (take i xss)) (slice_index_or xss i []) at (omega arith)) ∙ ap (put_at bs at) (sym (concat_more xss i l))

pub plan_size : (cs : List Counted) (fs : List Framed) (x y : ℕ) → x ≡ length (concat (map counted_bytes cs)) → y ≡ length (concat (map framed_bytes fs))
    → 2 + x + y ≡ length (encode (record { counted = cs; framed = fs }))
plan_size cs fs x y e f = Saved.plan_size cs fs x y (e ∙ ap length (concat_map counted_bytes cs)) (f ∙ ap length (concat_map framed_bytes fs))

pub plan_written : (out out₁ out₂ out₃ : List ℕ) (cs : List Counted) (fs : List Framed) (m n at : ℕ) (r : Result ℕ Denial)
    → m ≡ length cs → n ≡ length fs → length cs ≤ 16 → length fs ≤ 16 → 1 ≤ length cs + length fs
    → length (encode (record { counted = cs; framed = fs })) ≤ length out
    → r ≡ unless (option_or (counts_fault m n) (room_fault (length out) 0 2)) 2 → out₁ ≡ left r out 0 (header_bytes m n)
    → at ≡ 2 + length (concat (map counted_bytes cs)) → out₂ ≡ put_at out₁ 2 (concat (map counted_bytes cs))
    → out₃ ≡ put_at out₂ at (concat (map framed_bytes fs))
    → out₃ ≡ put_at out 0 (encode (record { counted = cs; framed = fs }))
plan_written out out₁ out₂ out₃ cs fs m n at r em en hm hn h room er e₁ ea e₂ e₃ =
    Saved.plan_written out out₁ out₂ out₃ cs fs m n at r em en hm hn h room er e₁ (ea ∙ ap (λ xs. 2 + length xs) (concat_map counted_bytes cs))
    (e₂ ∙ ap (put_at out₁ 2) (concat_map counted_bytes cs)) (e₃ ∙ ap (put_at out₂ at) (concat_map framed_bytes fs))
