-- A miss-counted row and the task that it means.
use Rattle.std.specs.Prelude.{◌≡◌, ℕ, zero, suc, ◌+◌, ◌-◌, ◌*◌, ◌<◌, ◌≤◌, min, cond, ltb, leb, List, [], ◌∷◌, length, take, IfNone, Some, None, Option, Err, Result, nat_le, nat_lt, slice_index, slice_index_or, refl}
use Rattle.std.proofs.Common.{sym, ap, subst, ◌∙◌, not-suc-le-zero, mul-le-mul, arith, length-take}
use Rattle.std.specs.List.{sum_by}
use Rattle.std.proofs.lemmas.List.{get_or-take, get_or_past}
use Rattle.std.proofs.lemmas.List.Sums.{sum_by-cons}
use Rattle.std.proofs.lemmas.Bool.{le-ltb, lt-ltb}
use Rattle.denial.specs.declared.Denial.{Denial}
use Rattle.denial.specs.declared.Rule.TheVariants.{Ranks}
use Rattle.denial.specs.Numbers.{denied}
use Rattle.denial.specs.Checks.{unless}
use Rattle.group.specs.declared.meaning.Outcome.{Outcome}
use Rattle.group.specs.declared.meaning.Outcome.TheVariants.{Finish, Miss}
use Rattle.group.specs.Task.{Position, Lawful, no_terms, terms_of, after}
use Rattle.plate.specs.Faults.{counted_fault}
use Rattle.plate.specs.Plans.{SoundCounted}
use Rattle.plate.specs.Rows.{Counted}
use Rattle.plate.proofs.Counteds as plate
use Rattle.kinds.specs.declared.rows.MissCountedRow.{MissCountedRow}
use Rattle.kinds.specs.Cycle.{next_class}
use Rattle.kinds.specs.MissCounted.{counted_task, classes_of, count_above, most, IsMissCounted}
use Rattle.kinds.specs.Rows.{GoodCounted, counted_classes, counted_of, counted_class, counted_next, counted_row_fault, counted_row_task}
use Rattle.kinds.specs.CycleLemmas.{is_within}
use Rattle.kinds.specs.Most.{most_few}
use Rattle.kinds.specs.Ranks.{classes_length, class_terms, count_le}
use Rattle.kinds.specs.CountedLaws.{lawful}
use Rattle.kinds.specs.Props.{good_counted_prop}
use Rattle.kinds.specs.Counting.{counted_counts}
use Rattle.kinds.specs.Attained.{counted_attained}
use Rattle.kinds.specs.Tables.{Kind}

-- one more rank counted
pub count_more : (p : ℕ) (rs : List ℕ) (i : ℕ) → i < length rs → count_above p (take (i + 1) rs) ≡ count_above p (take i rs) + cond (nat_lt p (slice_index rs i)) 1 0
count_more p rs i h = ap (λ n. count_above p (take n rs)) (one i) ∙ more p rs i h
  where
    one : (i : ℕ) → i + 1 ≡ suc i
    one i = omega arith

    more : (p : ℕ) (rs : List ℕ) (i : ℕ) → i < length rs → count_above p (take (suc i) rs) ≡ count_above p (take i rs) + cond (nat_lt p (slice_index rs i)) 1 0
    more p [] i h = absurd (not-suc-le-zero h)
    more p (r ∷ rs) zero h = omega arith
    more p (r ∷ rs) (suc i) h =
        let ih : count_above p (take (suc i) rs) ≡ count_above p (take i rs) + cond (nat_lt p (slice_index rs i)) 1 0 = more p rs i (omega arith) in
        omega arith

pub small_above : (p r : ℕ) → cond (nat_lt p r) 1 0 ≤ 1
small_above p r = grind arith

-- the ranks above p, as a sum
pub above_sum : (p : ℕ) (rs : List ℕ) → count_above p rs ≡ sum_by (λ r. cond (nat_lt p r) 1 0) rs
above_sum p [] = refl
above_sum p (r ∷ rs) = ap (λ n. cond (nat_lt p r) 1 0 + n) (above_sum p rs) ∙ sym (sum_by-cons (λ r. cond (nat_lt p r) 1 0) r rs)

module _ (r : MissCountedRow) (k : GoodCounted r) where
  pub ranks_count : length (take (r.misses + 1) r.ranks) ≡ r.misses + 1
  ranks_count = length-take (r.misses + 1) r.ranks ∙ (let w = k.whole in omega arith)

  pub row_lawful : Lawful (counted_row_task r)
  row_lawful = lawful (counted_of r) k.sound

  pub row_placed : (x : ℕ) → 1 ≤ x → x ≤ r.misses + 1 → Position (counted_row_task r) x
  row_placed x h l = is_within (length (take (r.misses + 1) r.ranks)) x h (omega (arith, ranks_count))

  pub row_classes : length (counted_row_task r).classes ≡ r.misses + 1
  row_classes = classes_length r.budget (take (r.misses + 1) r.ranks) ∙ ranks_count

  pub row_some : 1 ≤ r.misses + 1
  row_some = omega arith

  pub row_after : (o : Outcome) (x : ℕ) → counted_next (r.misses + 1) o x ≡ after (counted_row_task r) o x
  row_after Finish x = refl
  row_after Miss x = ap (λ n. next_class n x) (sym ranks_count)

  pub row_terms : (c : ℕ) → 1 ≤ c → c ≤ r.misses + 1 → counted_class r c ≡ terms_of (counted_row_task r) c
  row_terms zero h l = absurd (not-suc-le-zero h)
  row_terms (suc j) h l =
      let ranks = take (r.misses + 1) r.ranks in
      let i : j < length ranks = omega (arith, ranks_count) in
      let e : j < r.misses + 1 = omega arith in
      let a : slice_index_or r.ranks (suc j - 1) 0 ≡ slice_index_or ranks j 0 = ap (λ z. slice_index r.ranks z) (pred j) ∙ sym (get_or-take (r.misses + 1) r.ranks j 0 e) in
      let b : leb (suc j) r.misses ≡ ltb (suc j) (length ranks) = below (suc j) r.misses ∙ ap (ltb (suc j)) (sym ranks_count) in
      (λ z. record { rank = a z; budget = r.budget; tolerated = b z }) ∙ sym (class_terms r.budget ranks j i)
    where
      pred : (j : ℕ) → suc j - 1 ≡ j
      pred j = omega arith

      below : (j m : ℕ) → nat_le j m ≡ nat_lt j (m + 1)
      below j m = grind arith

  pub row_no_terms : (c : ℕ) → (1 ≤ c → c ≤ r.misses + 1 → ⊥) → no_terms ≡ terms_of (counted_row_task r) c
  row_no_terms zero h = refl
  row_no_terms (suc j) h =
      sym (get_or_past (classes_of r.budget (take (r.misses + 1) r.ranks)) j no_terms (omega (arith, row_classes, out j r.misses h)))
    where
      out : (j m : ℕ) → (1 ≤ suc j → suc j ≤ m + 1 → ⊥) → m + 1 ≤ j
      out j m h = grind arith

  pub above_few : (p : ℕ) → count_above p (take (r.misses + 1) r.ranks) ≤ r.misses + 1
  above_few p = omega (arith, count_le p (take (r.misses + 1) r.ranks), ranks_count)

  -- the demand by what the code has in hand
  pub demand_made : (p N J n q : ℕ) → J ≡ min N 4095 → n ≡ count_above p (take (r.misses + 1) r.ranks) → q ≡ most (r.misses + 1) n J →
      r.budget * q ≡ (counted_row_task r).demand N p
  demand_made p N J n q ej en eq =
      ap (λ z. r.budget * z) (eq ∙ (ap (λ z. most (r.misses + 1) z J) en ∙ ap (λ z. most (r.misses + 1) (count_above p (take (r.misses + 1) r.ranks)) z) ej))
      ∙ ap (λ z. r.budget * most z (count_above p (take (r.misses + 1) r.ranks)) (min N 4095)) (sym ranks_count)

  -- the demand by what the code has in hand fits
  pub demand_small : (b m n J q : ℕ) → b ≡ r.budget → m ≡ r.misses + 1 → n ≤ r.misses + 1 → J ≤ 4095 → q ≡ most m n J → b * q ≤ 4095 * 4095
  demand_small b m n J q eb em h j e =
      let c : b ≤ 4095 = omega (arith, k.sound.budget.1, k.sound.gap.1) in
      let d : q ≤ 4095 = omega (arith, most_few m n J (omega arith)) in
      mul-le-mul c d

-- the rows of a miss-counted table
abbrev pub counted_kind : Kind MissCountedRow
counted_kind = record {
  Said = Counted;
  says = counted_of;
  task = counted_task;
  Sound = SoundCounted;
  Counts = λ r t. IsMissCounted t;
  classes = counted_classes;
  good = GoodCounted;
  fault = counted_row_fault;
  one = good_counted_prop;
  some = row_some;
  counted = row_classes;
  classed = λ s x. refl;
  placed = row_placed;
  lawful = row_lawful;
  sound = λ r k. k.sound;
  counts = λ r k. counted_counts (counted_of r) k.sound;
  attained = λ r k. counted_attained (counted_of r) k.sound;
}

-- a row of too many classes
pub fault_many : (r : MissCountedRow) → 7 < r.misses → Some (denied Ranks 0 32) ≡ counted_row_fault r
unfolding counted_row_fault
fault_many r h = rw (lt-ltb 7 r.misses h)

-- a row's fault by that of its first n ranks, and a row without fault is good
module _ (r : MissCountedRow) (n : ℕ) (o : Option Denial) (e : n ≡ r.misses + 1) (h : r.misses ≤ 7) where
  pub fault_past : o ≡ counted_fault 0 0 r.gap r.budget (take n r.ranks) → o ≡ counted_row_fault r
  unfolding counted_row_fault
  fault_past v = v ∙ (ap (λ m. counted_fault 0 0 r.gap r.budget (take m r.ranks)) e ∙ rw (le-ltb 7 r.misses h))

  pub faultless : r.misses < length r.ranks →
      IfNone o (SoundCounted (record { gap = r.gap; budget = r.budget; ranks = take n r.ranks })) → IfNone o (GoodCounted r)
  faultless l s = good o (subst (λ m. IfNone o (SoundCounted (record { gap = r.gap; budget = r.budget; ranks = take m r.ranks }))) e s)
    where
      good : (o : Option Denial) → IfNone o (SoundCounted (counted_of r)) → IfNone o (GoodCounted r)
      good None s = record { few = h; whole = l; sound = s }
      good (Some d) s = tt

-- the refusal of a row of too many classes
pub refused_many : (r : MissCountedRow) → 7 < r.misses → (d : Denial) → d ≡ denied Ranks 0 32 →
    ◌≡◌ {A = Result (Unit {0}) Denial} (Err d) (unless (counted_row_fault r) tt)
unfolding counted_row_fault
refused_many r h d e = rw (lt-ltb 7 r.misses h) (ap Err e)

-- a row's refusal by that of its first n ranks
module _ (r : MissCountedRow) (n : ℕ) (o : Result (Unit {0}) Denial) (e : n ≡ r.misses + 1) (h : r.misses ≤ 7) where
  pub refused : o ≡ unless (counted_fault 0 0 r.gap r.budget (take n r.ranks)) tt → o ≡ unless (counted_row_fault r) tt
  unfolding counted_row_fault
  refused v = v ∙ (ap (λ m. unless (counted_fault 0 0 r.gap r.budget (take m r.ranks)) tt) e ∙ rw (le-ltb 7 r.misses h))

-- and a row that keeps the rules has no fault
pub sound_faultless : (r : MissCountedRow) → r.misses ≤ 7 → SoundCounted (counted_of r) → counted_row_fault r ≡ None
unfolding counted_row_fault
sound_faultless r few s = rw (le-ltb 7 r.misses few) (plate.faultless 0 0 r.gap r.budget (take (r.misses + 1) r.ranks) (plate.sound_clean (counted_of r) s))

-- so a good row has none
pub good_faultless : (r : MissCountedRow) → GoodCounted r → counted_row_fault r ≡ None
good_faultless r k = sound_faultless r k.few k.sound
