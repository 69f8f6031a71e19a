-- Two lists as one, ended at n.
use Rattle.std.specs.Prelude.{◌≡◌, ℕ, ◌+◌, ◌-◌, ◌<◌, ◌≤◌, min, List, ◌++◌, length, take, slice_index_or, slice_set, refl}
use Rattle.std.proofs.Common.{sym, ap, ◌∙◌, inl, inr, arith, length-take, length-append}
use Rattle.std.proofs.lemmas.List.{get_or-take, get_or_past, set_past, get_or_append_left, get_or-append_right, set-append_left, set-append_right}
use Rattle.std.proofs.lemmas.Bool.{cases_lt, lt-ltb, le-ltb}
use Rattle.group.specs.declared.meaning.Outcome.{Outcome}
use Rattle.group.specs.Task.{Task, at, no_task, after, settled, place}
use Rattle.group.specs.declared.part.Part.TheVariants.{First, Second, Absent}
use Rattle.group.specs.Joined.{part_of, Stands}
use Rattle.group.specs.Lists.{take-set}

pub first_of : {A : Type 0} (n : ℕ) (xs ys : List A) (i : ℕ) (d : A) → i < length xs → i < n → slice_index_or (take n (xs ++ ys)) i d ≡ slice_index_or xs i d
first_of n xs ys i d h l = get_or-take n (xs ++ ys) i d l ∙ get_or_append_left xs ys d i h

pub second_of : {A : Type 0} (n : ℕ) (xs ys : List A) (k i : ℕ) (d : A) → length xs ≡ k → k ≤ i → i < n → slice_index_or (take n (xs ++ ys)) i d ≡ slice_index_or ys (i - k) d
second_of n xs ys k i d e h l = get_or-take n (xs ++ ys) i d l ∙ get_or-append_right xs ys k i d e h

pub absent_of : {A : Type 0} (n : ℕ) (zs : List A) (i : ℕ) (d : A) → n ≤ i → slice_index_or (take n zs) i d ≡ d
absent_of n zs i d h = get_or_past (take n zs) i d (omega (arith, length-take n zs))

pub joint_length : {A : Type 0} (n : ℕ) (xs ys : List A) → length (take n (xs ++ ys)) ≡ min n (length xs + length ys)
joint_length n xs ys = length-take n (xs ++ ys) ∙ ap (min n) (length-append xs ys)

module _ (n : ℕ) (ta tb : List Task) (pa pb : List ℕ) (same : length pa ≡ length ta) where
  pub settles_first : (i : ℕ) (o : Outcome) → i < length ta → i < n →
      take n (settled ta pa i o ++ pb) ≡ settled (take n (ta ++ tb)) (take n (pa ++ pb)) i o
  settles_first i o h l =
      let here : i < length pa = omega arith in
      let v = after (at ta i) o (place pa i) in
      ap (take n) (sym (set-append_left pa pb i v here))
      ∙ (take-set n (pa ++ pb) i v
      ∙ (ap (λ t. slice_set (take n (pa ++ pb)) i (after t o (place pa i))) (sym (first_of n ta tb i no_task h l))
      ∙ ap (λ x. slice_set (take n (pa ++ pb)) i (after (at (take n (ta ++ tb)) i) o x)) (sym (first_of n pa pb i 0 here l))))

  pub settles_second : (k i : ℕ) (o : Outcome) → length ta ≡ k → k ≤ i → i < n →
      take n (pa ++ settled tb pb (i - k) o) ≡ settled (take n (ta ++ tb)) (take n (pa ++ pb)) i o
  settles_second k i o e h l =
      let v = after (at tb (i - k)) o (place pb (i - k)) in
      ap (take n) (sym (set-append_right pa pb k i v (same ∙ e) h))
      ∙ (take-set n (pa ++ pb) i v
      ∙ (ap (λ t. slice_set (take n (pa ++ pb)) i (after t o (place pb (i - k)))) (sym (second_of n ta tb k i no_task e h l))
      ∙ ap (λ x. slice_set (take n (pa ++ pb)) i (after (at (take n (ta ++ tb)) i) o x)) (sym (second_of n pa pb k i 0 (same ∙ e) h l))))

  -- a relation of tasks and positions holds in both, so in the joint lists
  pub each : (P : Task → ℕ → Type 0) → ((i : ℕ) → i < length ta → P (at ta i) (place pa i)) → ((i : ℕ) → i < length tb → P (at tb i) (place pb i)) →
      (i : ℕ) → i < length (take n (ta ++ tb)) → P (at (take n (ta ++ tb)) i) (place (take n (pa ++ pb)) i)
  each P a b i h =
      let l : i < n = omega (arith, joint_length n ta tb) in
      let m : i < length ta + length tb = omega (arith, joint_length n ta tb) in
      elim (cases_lt i (length ta)) [
        | inl f ↦
            let here : i < length pa = omega arith in
            rw (first_of n ta tb i no_task f l, first_of n pa pb i 0 here l) (a i f)
        | inr s ↦
            rw (second_of n ta tb (length ta) i no_task refl s l, second_of n pa pb (length ta) i 0 same s l) (b (i - length ta) (omega arith))
      ]

pub settles_absent : (n : ℕ) (ts : List Task) (ps : List ℕ) (i : ℕ) (o : Outcome) → n ≤ i → take n ps ≡ settled ts (take n ps) i o
settles_absent n ts ps i o h = sym (set_past (take n ps) i (after (at ts i) o (place (take n ps) i)) (omega (arith, length-take n ps)))

module _ (ta tb : List Task) (pa pb : List ℕ) (same : length pa ≡ length ta) where
  stands_first : (i : ℕ) → i < length ta → i < 65535 → Stands ta tb pa pb i (First i)
  stands_first i h l = record {
    tasks = first_of 65535 ta tb i no_task h l;
    places = first_of 65535 pa pb i 0 (omega arith) l;
    moves = λ o. settles_first 65535 ta tb pa pb same i o h l;
  }

  stands_second : (k i : ℕ) → length ta ≡ k → k ≤ i → i < 65535 → Stands ta tb pa pb i (Second (i - k))
  stands_second k i e h l = record {
    tasks = second_of 65535 ta tb k i no_task e h l;
    places = second_of 65535 pa pb k i 0 (same ∙ e) h l;
    moves = λ o. settles_second 65535 ta tb pa pb same k i o e h l;
  }

  stands_absent : (i : ℕ) → 65535 ≤ i → Stands ta tb pa pb i Absent
  stands_absent i h = record {
    tasks = absent_of 65535 (ta ++ tb) i no_task h;
    places = absent_of 65535 (pa ++ pb) i 0 h;
    moves = λ o. settles_absent 65535 (take 65535 (ta ++ tb)) (pa ++ pb) i o h;
  }

  pub stands : (k i : ℕ) → length ta ≡ k → k ≤ 65535 → Stands ta tb pa pb i (part_of k i)
  stands k i e few =
      elim (cases_lt i k) [
        | inl h ↦ rw (lt-ltb i k h) (stands_first i (omega arith) (omega arith))
        | inr h ↦
            elim (cases_lt i 65535) [
              | inl l ↦ rw (le-ltb i k h, lt-ltb i 65535 l) (stands_second k i e h l)
              | inr l ↦ rw (le-ltb i k h, le-ltb i 65535 l) (stands_absent i l)
            ]
      ]
