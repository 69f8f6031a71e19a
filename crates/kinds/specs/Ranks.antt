-- The ranks of a miss-counted task: those above p are the last ones.
use Rattle.std.specs.Prelude.{◌≡◌, ℕ, zero, suc, ◌+◌, ◌<◌, ◌≤◌, Bool, true, cond, List, [], ◌∷◌, length, get_or, nat_lt, slice_index, slice_index_or, refl}
use Rattle.std.proofs.Common.{ap, ◌∙◌, not-suc-le-zero, arith}
use Rattle.group.specs.declared.meaning.Terms.{Terms}
use Rattle.group.specs.Task.{no_terms}
use Rattle.kinds.specs.MissCounted.{count_above, classes_of}

pub count_le : (p : ℕ) (rs : List ℕ) → count_above p rs ≤ length rs
count_le p [] = omega arith
count_le p (r ∷ rs) = let ih : count_above p rs ≤ length rs = count_le p rs in step p r (count_above p rs) (length rs) ih
  where
    step : (p r a b : ℕ) → a ≤ b → cond (nat_lt p r) 1 0 + a ≤ suc b
    step p r a b h = grind arith

pub count_falls : (p q : ℕ) (rs : List ℕ) → p ≤ q → count_above q rs ≤ count_above p rs
count_falls p q [] h = omega arith
count_falls p q (r ∷ rs) h = step p q r (count_above q rs) (count_above p rs) h (count_falls p q rs h)
  where
    step : (p q r a b : ℕ) → p ≤ q → a ≤ b → cond (nat_lt q r) 1 0 + a ≤ cond (nat_lt p r) 1 0 + b
    step p q r a b h k = grind arith

abbrev pub Rising : List ℕ → Type 0
Rising rs = (j : ℕ) → suc j < length rs → slice_index rs j ≤ slice_index rs (suc j)

rest : (r : ℕ) (rs : List ℕ) → Rising (r ∷ rs) → Rising rs
rest r rs h j l = h (suc j) (omega arith)

one : (p r a b : ℕ) → p < r → a ≤ b → suc a ≤ cond (nat_lt p r) 1 0 + b
one p r a b h k = grind arith

-- where the first is above p, all are
pub all_above : (p : ℕ) (rs : List ℕ) → Rising rs → p < slice_index rs 0 → length rs ≤ count_above p rs
all_above p [] h l = omega arith
all_above p (r ∷ []) h l = one p r 0 0 l (omega arith)
all_above p (r ∷ s ∷ rs) h l =
    let up : r ≤ s = h 0 (omega arith) in
    one p r (length (s ∷ rs)) (count_above p (s ∷ rs)) l (all_above p (s ∷ rs) (rest r (s ∷ rs) h) (omega arith))

-- where the one at j is above p, all from j on are
pub top_ranks : (p : ℕ) (rs : List ℕ) (j : ℕ) → Rising rs → j < length rs → p < slice_index rs j → length rs ≤ j + count_above p rs
top_ranks p [] j h l g = omega arith
top_ranks p (r ∷ rs) zero h l g = let a : length (r ∷ rs) ≤ count_above p (r ∷ rs) = all_above p (r ∷ rs) h g in omega arith
top_ranks p (r ∷ rs) (suc j) h l g =
    let ih : length rs ≤ j + count_above p rs = top_ranks p rs j (rest r rs h) (omega arith) g in
    step p r j (length rs) (count_above p rs) ih
  where
    step : (p r j a b : ℕ) → a ≤ j + b → suc a ≤ suc j + (cond (nat_lt p r) 1 0 + b)
    step p r j a b h = grind arith

pub classes_length : (C : ℕ) (rs : List ℕ) → length (classes_of C rs) ≡ length rs
classes_length C [] = refl
classes_length C (r ∷ rs) = ap suc (classes_length C rs)

abbrev pub one_class : ℕ → List ℕ → ℕ → Bool → Terms
one_class C rs j b = record { rank = slice_index rs j; budget = C; tolerated = b }

pub class_terms : (C : ℕ) (rs : List ℕ) (j : ℕ) → j < length rs → slice_index_or (classes_of C rs) j no_terms ≡ one_class C rs j (nat_lt (suc j) (length rs))
class_terms C [] j h = absurd (not-suc-le-zero h)
class_terms C (r ∷ []) zero h = refl
class_terms C (r ∷ s ∷ rs) zero h = ap (one_class C (r ∷ s ∷ rs) 0) (two (length rs))
  where
    two : (n : ℕ) → true ≡ nat_lt 1 (suc (suc n))
    two n = grind arith
class_terms C (r ∷ rs) (suc j) h = class_terms C rs j (omega arith) ∙ ap (one_class C rs j) (shift j (length rs))
  where
    shift : (j n : ℕ) → nat_lt (suc j) n ≡ nat_lt (suc (suc j)) (suc n)
    shift j n = grind arith

first_least : (r : ℕ) (rs : List ℕ) (j : ℕ) → Rising (r ∷ rs) → j < length rs → r ≤ slice_index rs j
first_least r [] j h l = absurd (not-suc-le-zero l)
first_least r (s ∷ rs) zero h l = h 0 (omega arith)
first_least r (s ∷ rs) (suc j) h l =
    let a : s ≤ get_or rs j 0 = first_least s rs j (rest r (s ∷ rs) h) (omega arith) in
    let b : r ≤ s = h 0 (omega arith) in
    omega arith

-- where the one at j is not above p, none up to j is
pub low_ranks : (p : ℕ) (rs : List ℕ) (j : ℕ) → Rising rs → j < length rs → slice_index rs j ≤ p → j + 1 + count_above p rs ≤ length rs
low_ranks p [] j h l g = absurd (not-suc-le-zero l)
low_ranks p (r ∷ rs) zero h l g = let a : count_above p rs ≤ length rs = count_le p rs in step p r (count_above p rs) (length rs) g a
  where
    step : (p r a b : ℕ) → r ≤ p → a ≤ b → 0 + 1 + (cond (nat_lt p r) 1 0 + a) ≤ suc b
    step p r a b h k = grind arith
low_ranks p (r ∷ rs) (suc j) h l g =
    let a : r ≤ get_or rs j 0 = first_least r rs j h (omega arith) in
    let ih : j + 1 + count_above p rs ≤ length rs = low_ranks p rs j (rest r rs h) (omega arith) g in
    step p r j (count_above p rs) (length rs) (omega arith) ih
  where
    step : (p r j a b : ℕ) → r ≤ p → j + 1 + a ≤ b → suc j + 1 + (cond (nat_lt p r) 1 0 + a) ≤ suc b
    step p r j a b h k = grind arith
