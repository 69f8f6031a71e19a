-- The window theorem at the classes that count for one bounded class (k, c): those ranked above it, and task k's own ranked as high.
use Rattle.std.proofs.Common.{◌≡◌, ℕ, ◌+◌, ◌-◌, ◌<◌, ◌≤◌, Bool, true, false, cond, eqb, ltb, leb, ◌≢◌, ◌⊎◌, List, [], ◌∷◌, length, Some, None, Option, refl, ap, inl, inr, arith}
use Rattle.std.proofs.lemmas.Bool.{ltb-false, le-leb}
use Rattle.group.specs.Task.{Task, Lawful, Class, at, terms_of, along, above}
use Rattle.bounds.specs.Bound.{sum, jobs, largest, Bounded}
use Rattle.dispatcher.specs.declared.slot.Slot.{Slot}
use Rattle.dispatcher.specs.declared.slot.Slot.TheVariants.{Empty, Pending, Halted}
use Rattle.dispatcher.specs.declared.end.Way.{Way}
use Rattle.dispatcher.specs.declared.end.Way.TheVariants.{Finished, Cut, Late}
use Rattle.admission.specs.Start.{Startable}
use Rattle.choose.specs.Foremost.{IsForemost}
use Rattle.dispatcher.specs.Slots.{is_pending, rank_of, way_of}
use Rattle.dispatcher.specs.State.{State, Standing, standing, slot_of, waits, outranks, runner, is_running}
use Rattle.dispatcher.specs.Sound.{SlotSound, Sound, ready_of}
use Rattle.promise.specs.Promise.{SoundGroup, in_time}
use Rattle.promise.specs.Window.{Reached, busy, Enough, Course, Within}
use Rattle.promise.proofs.Sums.{sum_apart, largest_class, jobs_bound, few}
use Rattle.promise.proofs.Window.{clash, eqb_true, AllSound}
use Rattle.promise.proofs.Views.{flow}
use Rattle.promise.proofs.Closed.{always_sound, window_theorem}
use Rattle.dispatcher.proofs.Foremosts.{runner_foremost}
use Rattle.promise.proofs.Starts.{apart}

-- the rule of who runs, as a test: this task is the one
abbrev pub same_task : Option ℕ → Option ℕ → Bool
same_task None None = true
same_task None (Some b) = false
same_task (Some a) None = false
same_task (Some a) (Some b) = eqb a b

abbrev pub by_rank : List Task → State → Option ℕ → Bool
by_rank ts s ran = same_task ran (runner ts s)

pub same_is : (a b : Option ℕ) → same_task a b ≡ true → a ≡ b
same_is None None e = refl
same_is None (Some b) e = absurd (clash false e refl)
same_is (Some a) None e = absurd (clash false e refl)
same_is (Some a) (Some b) e = ap Some (eqb_true a b e)

pub is_same : (a : Option ℕ) → same_task a a ≡ true
is_same None = refl
is_same (Some a) = grind arith

-- the classes of a task that count: ranked p or higher, or above p
abbrev pub as_high : Task → ℕ → ℕ → Bool
as_high t p d = leb p (terms_of t d).rank

abbrev pub higher : Task → ℕ → ℕ → Bool
higher t p d = ltb p (terms_of t d).rank

-- of its own task at most one job is released within R ticks, of whatever class ranked as high
enough_own : (t : Task) (p R : ℕ) → R ≤ t.gap → Enough t (as_high t p) R (largest p t.classes)
enough_own t p R h x [] at k = omega arith
enough_own t p R h x (o ∷ []) at k = omega (arith, largest_class p t (t.class_at x))
enough_own t p R h x (o ∷ (o' ∷ os)) at k = absurd (omega arith)

-- another task's jobs within R ticks ask for no more than its demand
enough_other : (t : Task) (p R : ℕ) → R ≤ 4095 → Lawful t → Enough t (higher t p) R (t.demand (jobs R t.gap) p)
enough_other t p R h law x os at k =
    let e : length os ≤ jobs R t.gap = jobs_bound t.gap (length os) R law.gap_low k in
    let f : length os ≤ R = few (length os) t.gap R law.gap_low k in
    let c : along t (above t p) x os ≤ t.demand (length os) p = law.cover p x os at (omega arith) in
    let g : t.demand (length os) p ≤ t.demand (jobs R t.gap) p = law.grows (length os) (jobs R t.gap) p e in
    omega (arith, c, g)

-- a pending job has a class of its task
pub pending_class : (t : Task) (clock : ℕ) (l : Standing) → Lawful t → Sound t clock l → is_pending l.seat.slot ≡ true → (d : ℕ) × Class t d × (rank_of t l.seat.slot ≡ (terms_of t d).rank)
pending_class t clock l law s pd = on l.seat.slot s.job pd
  where
    on : (sl : Slot) → SlotSound t clock (ready_of t.gap l.seat.last) l.position sl → is_pending sl ≡ true → (d : ℕ) × Class t d × (rank_of t sl ≡ (terms_of t d).rank)
    on Empty j h = absurd (clash false h refl)
    on (Pending c r u) j h = (c, rw j.class (law.classed l.position s.placed), refl)
    on Halted j h = absurd (clash false h refl)

module _ (ts : List Task) (places : List ℕ) (grp : SoundGroup ts places) (acc : Startable ts) (k c R : ℕ) (bd : Bounded ts k c R) where
  abbrev pub rank : ℕ
  rank = (terms_of (at ts k) c).rank

  abbrev pub counts : ℕ → ℕ → Bool
  counts i = cond (eqb i k) (as_high (at ts i) rank) (higher (at ts i) rank)

  abbrev pub need : ℕ → ℕ
  need i = cond (eqb i k) (largest rank (at ts k).classes) ((at ts i).demand (jobs R (at ts i).gap) rank)

  fits : sum (length ts) need ≤ R
  fits = omega (arith, bd.enough, sum_apart (length ts) k (largest rank (at ts k).classes) (λ i. (at ts i).demand (jobs R (at ts i).gap) rank))

  enough : (i : ℕ) → i < length ts → Enough (at ts i) (counts i) R (need i)
  enough i l = on (eqb i k) refl
    where
      on : (x : Bool) → eqb i k ≡ x →
          Enough (at ts i) (cond x (as_high (at ts i) rank) (higher (at ts i) rank)) R (cond x (largest rank (at ts k).classes) ((at ts i).demand (jobs R (at ts i).gap) rank))
      on true e = let q = eqb_true i k e in rw q (enough_own (at ts k) rank R bd.high)
      on false e = enough_other (at ts i) rank R (omega (arith, bd.high, (grp.lawful k bd.task).gap_high)) (grp.lawful i l)

  -- a counted job is ranked high enough
  counted_high : (i : ℕ) (sl : Slot) → busy (counts i) sl ≡ true → (is_pending sl ≡ true) × (rank ≤ rank_of (at ts i) sl) × (i ≢ k → rank < rank_of (at ts i) sl)
  counted_high i Empty h = absurd (clash false h refl)
  counted_high i (Pending d r u) h = on (eqb i k) refl h
    where
      on : (x : Bool) → eqb i k ≡ x → cond x (as_high (at ts i) rank) (higher (at ts i) rank) d ≡ true →
          (is_pending (Pending d r u) ≡ true) × (rank ≤ (terms_of (at ts i) d).rank) × (i ≢ k → rank < (terms_of (at ts i) d).rank)
      on true e h = (refl, grind arith, λ ne. absurd (ne (eqb_true i k e)))
      on false e h = (refl, grind arith, λ ne. grind arith)
  counted_high i Halted h = absurd (clash false h refl)

  high_counted : (i : ℕ) (sl : Slot) → is_pending sl ≡ true → rank ≤ rank_of (at ts i) sl → (i ≢ k → rank < rank_of (at ts i) sl) → busy (counts i) sl ≡ true
  high_counted i Empty p h g = absurd (clash false p refl)
  high_counted i (Pending d r u) p h g = on (eqb i k) refl
    where
      on : (x : Bool) → eqb i k ≡ x → cond x (as_high (at ts i) rank) (higher (at ts i) rank) d ≡ true
      on true e = grind arith
      on false e = let ne : i ≢ k = λ q. clash (eqb i k) (grind arith) e in let m = g ne in grind arith
  high_counted i Halted p h g = absurd (clash false p refl)

  -- where a counted job is pending, a counted job runs
  runs_counted : (s : State) → AllSound (λ i. at ts i) (length ts) (flow s) → (ran : Option ℕ) → IsForemost (waits s) (outranks ts s) (length ts) ran →
      (j : ℕ) → j < length ts → busy (counts j) (slot_of s j) ≡ true → (r : ℕ) × (r < length ts) × (is_running ran r ≡ true) × (busy (counts r) (slot_of s r) ≡ true)
  runs_counted s sound None fm j l b = absurd (clash (waits s j) (counted_high j (slot_of s j) b).0 (fm j l))
  runs_counted s sound (Some r) fm j l b = (r, fm.0, grind arith, high_counted r (slot_of s r) fm.1 (omega (arith, low, up)) (λ ne. above_it ne (dec j k)))
    where
      low : rank ≤ rank_of (at ts j) (slot_of s j)
      low = (counted_high j (slot_of s j) b).1

      up : rank_of (at ts j) (slot_of s j) ≤ rank_of (at ts r) (slot_of s r)
      up = ltb-false (rank_of (at ts r) (slot_of s r)) (rank_of (at ts j) (slot_of s j)) (fm.2 j l (counted_high j (slot_of s j) b).0)

      dec : (a b : ℕ) → (a ≡ b) ⊎ (a ≢ b)
      dec a b = grind arith

      d : (d : ℕ) × Class (at ts r) d × (rank_of (at ts r) (slot_of s r) ≡ (terms_of (at ts r) d).rank)
      d = pending_class (at ts r) s.clock (standing s r) (grp.lawful r fm.0) (sound r fm.0) fm.1

      above_it : r ≢ k → (j ≡ k) ⊎ (j ≢ k) → rank < rank_of (at ts r) (slot_of s r)
      above_it ne (inl e) = omega (arith, low, up, d.2, apart ts acc r k fm.0 bd.task ne d.0 c d.1 bd.class)
      above_it ne (inr q) = omega (arith, up, (counted_high j (slot_of s j) b).2 q)

  -- the class itself counts
  own_counts : counts k c ≡ true
  own_counts = on (eqb k k) refl
    where
      on : (x : Bool) → eqb k k ≡ x → cond x (as_high (at ts k) rank) (higher (at ts k) rank) c ≡ true
      on true e = grind arith
      on false e = absurd (clash (eqb k k) (grind arith) e)

  pub course : Course (by_rank ts) ts places counts R 0 need (λ _. 0)
  course = record {
    low = bd.low;
    enough = enough;
    fits = omega (arith, fits);
    most = λ s h. omega arith;
    at_release = λ s h j a. omega arith;
    at_resume = λ s h j a. omega arith;
    at_tick = λ s h mark ran a j l b.
        let r = runs_counted s (always_sound (by_rank ts) ts places grp h) ran (rw (same_is ran (runner ts s) a) (runner_foremost ts s)) j l b in
        inl (r.0, r.1, r.2, r.3, omega arith);
  }

  -- all jobs of the class stay within the bound
  pub within_bound : (s : State) → Reached (by_rank ts) ts places s → Within (by_rank ts) ts R k c s
  within_bound s h = window_theorem (by_rank ts) ts places grp counts R 0 need (λ _. 0) course s h k c bd.task own_counts

  pub ends_in_time : (s : State) → Reached (by_rank ts) ts places s → (mark : Bool) (since used : ℕ) → slot_of s k ≡ Pending c since used →
      (way : Way) → way_of (at ts k) s.clock (is_running (runner ts s) k) mark (slot_of s k) ≡ Some way → in_time R way (s.clock + 1 - since) ≡ true
  ends_in_time s h mark since used e way w =
      let q = (within_bound s h).ends mark (runner ts s) (is_same (runner ts s)) since used e way w in
      on way q.0 (λ z. let g = q.1 z in omega (arith, bd.high))
    where
      on : (way : Way) → s.clock + 1 - since ≤ R → (way ≡ Late → ⊥) → in_time R way (s.clock + 1 - since) ≡ true
      on Finished h n = le-leb (s.clock + 1 - since) R h
      on Cut h n = le-leb (s.clock + 1 - since) R h
      on Late h n = absurd (n refl)

-- the dispatching rule leaves no choice
pub foremost_unique : (ts : List Task) (places : List ℕ) → SoundGroup ts places → Startable ts → (s : State) → AllSound (λ i. at ts i) (length ts) (flow s) → (a b : Option ℕ) →
    IsForemost (waits s) (outranks ts s) (length ts) a → IsForemost (waits s) (outranks ts s) (length ts) b → a ≡ b
foremost_unique ts places grp acc s sound None None x y = refl
foremost_unique ts places grp acc s sound None (Some r) x y = absurd (clash (waits s r) y.1 (x r y.0))
foremost_unique ts places grp acc s sound (Some r) None x y = absurd (clash (waits s r) x.1 (y r x.0))
foremost_unique ts places grp acc s sound (Some r) (Some q) x y = on (dec r q)
  where
    dec : (a b : ℕ) → (a ≡ b) ⊎ (a ≢ b)
    dec a b = grind arith

    on : (r ≡ q) ⊎ (r ≢ q) → Some r ≡ Some q
    on (inl e) = ap Some e
    on (inr ne) =
        let d = pending_class (at ts r) s.clock (standing s r) (grp.lawful r x.0) (sound r x.0) x.1 in
        let e = pending_class (at ts q) s.clock (standing s q) (grp.lawful q y.0) (sound q y.0) y.1 in
        let differ = apart ts acc r q x.0 y.0 ne d.0 e.0 d.1 e.1 in
        let f : rank_of (at ts q) (slot_of s q) ≤ rank_of (at ts r) (slot_of s r) = ltb-false (rank_of (at ts r) (slot_of s r)) (rank_of (at ts q) (slot_of s q)) (x.2 q y.0 y.1) in
        let g : rank_of (at ts r) (slot_of s r) ≤ rank_of (at ts q) (slot_of s q) = ltb-false (rank_of (at ts q) (slot_of s q)) (rank_of (at ts r) (slot_of s r)) (y.2 r x.0 x.1) in
        absurd (omega (arith, f, g, d.2, e.2, differ))
