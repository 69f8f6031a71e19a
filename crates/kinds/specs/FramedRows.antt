-- A frame row and the task that it means.
use Rattle.std.specs.Prelude.{◌≡◌, ℕ, zero, suc, ◌+◌, ◌-◌, ◌*◌, ◌/◌, ◌%◌, ◌<◌, ◌≤◌, min, cond, map, length, take, IfNone, Some, None, Option, Err, Result, nat_lt, refl}
use Rattle.std.proofs.Common.{sym, ap, subst, ◌∙◌, not-suc-le-zero, arith, length-take}
use Rattle.std.proofs.lemmas.List.{get_or-take, get_or_past, length-map}
use Rattle.std.proofs.lemmas.Bool.{le-ltb, lt-ltb}
use Rattle.denial.specs.declared.Denial.{Denial}
use Rattle.denial.specs.declared.Rule.TheVariants.{Ranks}
use Rattle.denial.specs.Numbers.{denied}
use Rattle.denial.specs.Checks.{unless}
use Rattle.group.specs.declared.meaning.Outcome.{Outcome}
use Rattle.group.specs.declared.meaning.Outcome.TheVariants.{Finish, Miss}
use Rattle.group.specs.Task.{Position, Lawful, no_terms, terms_of, after}
use Rattle.plate.specs.Faults.{frame_at, framed_fault}
use Rattle.plate.specs.Plans.{SoundFramed}
use Rattle.plate.specs.Rows.{Framed}
use Rattle.plate.proofs.Frameds as plate
use Rattle.kinds.specs.declared.rows.FrameRow.{FrameRow}
use Rattle.kinds.specs.Cycle.{next_class, successive, largest}
use Rattle.kinds.specs.MissCounted.{IsMissCounted}
use Rattle.kinds.specs.Frames.{framed_task, frame_terms}
use Rattle.kinds.specs.Rows.{GoodFramed, framed_classes, framed_of, framed_class, framed_row_fault, framed_row_task, row_above}
use Rattle.kinds.specs.CycleLemmas.{is_within, wraps, largest_plus, successive_small}
use Rattle.kinds.specs.FramedLaws.{lawful, class_terms, above_small}
use Rattle.kinds.specs.Props.{good_framed_prop}
use Rattle.kinds.specs.Counting.{one_frame_counts}
use Rattle.kinds.specs.Attained.{framed_attained}
use Rattle.kinds.specs.Tables.{Kind}

module _ (r : FrameRow) (k : GoodFramed r) where
  pub frames_count : length (take r.count r.frames) ≡ r.count
  frames_count = length-take r.count r.frames ∙ (let w = k.whole in omega arith)

  pub row_lawful : Lawful (framed_row_task r)
  row_lawful = lawful (framed_of r) k.sound

  pub row_placed : (x : ℕ) → 1 ≤ x → x ≤ r.count → Position (framed_row_task r) x
  row_placed x h l = is_within (length (take r.count r.frames)) x h (omega (arith, frames_count))

  pub row_classes : length (framed_row_task r).classes ≡ r.count
  row_classes = length-map (take r.count r.frames) frame_terms ∙ frames_count

  -- a task of one frame counts its misses
  pub row_counts : r.count ≡ 1 → IsMissCounted (framed_row_task r)
  row_counts one = one_frame_counts (framed_of r) k.sound (frames_count ∙ one)

  pub row_after : (o : Outcome) (x : ℕ) → next_class r.count x ≡ after (framed_row_task r) o x
  row_after Finish x = ap (λ n. next_class n x) (sym frames_count)
  row_after Miss x = ap (λ n. next_class n x) (sym frames_count)

  -- a frame that counts stands at its own place in the array
  frame_here : (j : ℕ) → suc j ≤ r.count → frame_at r.frames (suc j - 1) ≡ frame_at (take r.count r.frames) j
  frame_here j l = ap (frame_at r.frames) (pred j) ∙ sym (get_or-take r.count r.frames j (record { budget = 0; rank = 0 }) l)
    where
      pred : (j : ℕ) → suc j - 1 ≡ j
      pred j = omega arith

  pub row_terms : (c : ℕ) → 1 ≤ c → c ≤ r.count → framed_class r c ≡ terms_of (framed_row_task r) c
  row_terms zero h l = absurd (not-suc-le-zero h)
  row_terms (suc j) h l = ap frame_terms (frame_here j l) ∙ sym (class_terms (framed_of r) k.sound j (omega (arith, frames_count)))

  pub row_no_terms : (c : ℕ) → (1 ≤ c → c ≤ r.count → ⊥) → no_terms ≡ terms_of (framed_row_task r) c
  row_no_terms zero h = refl
  row_no_terms (suc j) h =
      sym (get_or_past (map frame_terms (take r.count r.frames)) j no_terms (omega (arith, row_classes, out j r.count h)))
    where
      out : (j m : ℕ) → (1 ≤ suc j → suc j ≤ m → ⊥) → m ≤ j
      out j m h = grind arith

  pub above_here : (p c : ℕ) → 1 ≤ c → c ≤ r.count →
      cond (nat_lt p (frame_at r.frames (c - 1)).rank) (frame_at r.frames (c - 1)).budget 0 ≡ row_above r p c
  above_here p zero h l = absurd (not-suc-le-zero h)
  above_here p (suc j) h l = ap (λ f. cond (nat_lt p f.rank) f.budget 0) (frame_here j l)

  -- the sums that the code makes
  pub sum_small : (p x n : ℕ) → 1 ≤ x → x ≤ r.count → successive (row_above r p) r.count x n ≤ n * 4095
  sum_small p x n h l =
      successive_small (row_above r p) r.count x n 4095 k.some h l
      (λ y g m. above_small (framed_of r) k.sound p y g (omega (arith, frames_count)))

  -- the demand is whole turns and the best of the rest
  row_demand : (p N : ℕ) →
      min N 4095 / r.count * successive (row_above r p) r.count 1 r.count + largest r.count (λ x. successive (row_above r p) r.count x (min N 4095 % r.count))
      ≡ (framed_row_task r).demand N p
  row_demand p N =
      sym (ap (λ n. largest n (λ x. successive (row_above r p) n x (min N 4095))) frames_count
      ∙ largest_plus r.count (λ x. successive (row_above r p) r.count x (min N 4095)) (λ x. successive (row_above r p) r.count x (min N 4095 % r.count))
      (min N 4095 / r.count * successive (row_above r p) r.count 1 r.count) k.some
      (λ x h l. wraps (row_above r p) r.count x (min N 4095) h l))

  -- the same by what the code has in hand
  pub demand_made : (p N J n T R : ℕ) → J ≡ min N 4095 → n ≡ r.count → T ≡ successive (row_above r p) r.count 1 r.count →
      R ≡ largest r.count (λ x. successive (row_above r p) r.count x (J % n)) → J / n * T + R ≡ (framed_row_task r).demand N p
  demand_made p N J n T R e c t b = rw (b, t, e, c) (row_demand p N)

  pub demand_small : (p N : ℕ) → (framed_row_task r).demand N p ≤ 4095 * 4095
  demand_small p N =
      omega (arith, row_lawful.grows N (N + 4095) p (omega arith), row_lawful.beyond (N + 4095) p (omega arith), row_lawful.capped 4095 p)

-- the rows of a frame table
abbrev pub framed_kind : Kind FrameRow
framed_kind = record {
  Said = Framed;
  says = framed_of;
  task = framed_task;
  Sound = SoundFramed;
  Counts = λ r t. r.count ≡ 1 → IsMissCounted t;
  classes = framed_classes;
  good = GoodFramed;
  fault = framed_row_fault;
  one = good_framed_prop;
  some = λ r k. k.some;
  counted = row_classes;
  classed = λ s x. refl;
  placed = row_placed;
  lawful = row_lawful;
  sound = λ r k. k.sound;
  counts = row_counts;
  attained = λ r k. framed_attained (framed_of r) k.sound;
}

-- a row of too many classes
pub fault_many : (r : FrameRow) → 8 < r.count → Some (denied Ranks 0 28) ≡ framed_row_fault r
unfolding framed_row_fault
fault_many r h = rw (lt-ltb 8 r.count h)

-- a row's fault by that of its first n frames, and a row without fault is good
module _ (r : FrameRow) (n : ℕ) (o : Option Denial) (e : n ≡ r.count) (h : r.count ≤ 8) where
  pub fault_past : o ≡ framed_fault 0 0 r.gap (take n r.frames) → o ≡ framed_row_fault r
  unfolding framed_row_fault
  fault_past v = v ∙ (ap (λ m. framed_fault 0 0 r.gap (take m r.frames)) e ∙ rw (le-ltb 8 r.count h))

  pub faultless : r.count ≤ length r.frames →
      IfNone o (SoundFramed (record { gap = r.gap; frames = take n r.frames })) → IfNone o (GoodFramed r)
  faultless l s = good o (subst (λ m. IfNone o (SoundFramed (record { gap = r.gap; frames = take m r.frames }))) e s)
    where
      good : (o : Option Denial) → IfNone o (SoundFramed (framed_of r)) → IfNone o (GoodFramed r)
      good None s = record { some = omega (arith, s.classes.0, length-take r.count r.frames); few = h; whole = l; sound = s }
      good (Some d) s = tt

-- the refusal of a row of too many classes
pub refused_many : (r : FrameRow) → 8 < r.count → (d : Denial) → d ≡ denied Ranks 0 28 →
    ◌≡◌ {A = Result (Unit {0}) Denial} (Err d) (unless (framed_row_fault r) tt)
unfolding framed_row_fault
refused_many r h d e = rw (lt-ltb 8 r.count h) (ap Err e)

-- a row's refusal by that of its first n frames
module _ (r : FrameRow) (n : ℕ) (o : Result (Unit {0}) Denial) (e : n ≡ r.count) (h : r.count ≤ 8) where
  pub refused : o ≡ unless (framed_fault 0 0 r.gap (take n r.frames)) tt → o ≡ unless (framed_row_fault r) tt
  unfolding framed_row_fault
  refused v = v ∙ (ap (λ m. unless (framed_fault 0 0 r.gap (take m r.frames)) tt) e ∙ rw (le-ltb 8 r.count h))

-- and a row that keeps the rules has no fault
pub sound_faultless : (r : FrameRow) → r.count ≤ 8 → SoundFramed (framed_of r) → framed_row_fault r ≡ None
unfolding framed_row_fault
sound_faultless r few s = rw (le-ltb 8 r.count few) (plate.faultless 0 0 (framed_of r) s)

-- so a good row has none
pub good_faultless : (r : FrameRow) → GoodFramed r → framed_row_fault r ≡ None
good_faultless r k = sound_faultless r k.few k.sound
