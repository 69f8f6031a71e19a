-- The window lemma: while counted jobs are pending, the ticks since the window began were given to counted jobs, but for `lost` of them.
-- It holds for any choice of counted classes; `need` is what each task can use within R ticks, and `spare` what may be lost.
use Rattle.std.proofs.Common.{◌≡◌, ℕ, suc, ◌+◌, ◌-◌, ◌<◌, ◌≤◌, Bool, true, false, cond, eqb, ◌⊎◌, Option, refl, inl, inr, arith}
use Rattle.group.specs.Task.{Task, terms_of, Lawful}
use Rattle.bounds.specs.Bound.{sum}
use Rattle.dispatcher.specs.declared.slot.Slot.{Slot}
use Rattle.dispatcher.specs.declared.slot.Slot.TheVariants.{Empty, Pending, Halted}
use Rattle.dispatcher.specs.State.{Standing, is_running}
use Rattle.dispatcher.specs.Sound.{Sound, ready_at}
use Rattle.dispatcher.proofs.Sounds.{IsHalted, released, resumed, sound_release, sound_resume, sound_tick}
use Rattle.promise.specs.Window.{busy, Enough}
use Rattle.bounds.proofs.Grows.{sum_grows}
use Rattle.promise.proofs.Sums.{sum_lt}
use Rattle.dispatcher.proofs.Fates.{Fate, judged, fate, fated, Judged, judged_is}
use Rattle.dispatcher.proofs.Fates.Judged.{by_finish, by_cut, by_age, goes_on}
use Rattle.promise.proofs.Tally.{Tally, lasts, gain, limit, tally_tick, tally_release, tally_resume, tally_opens}

-- the clock, and where each task stands, by its number
pub record Flow : Type 0 where
  pub clock : ℕ
  pub loop : ℕ → Standing

-- an accepted step
pub data Move : Type 0 where
  release : (task : ℕ) → Move
  tick : (mark : Bool) (ran : Option ℕ) → Move
  resume : (task : ℕ) → Move

-- what a tick does to task i
abbrev pub fate_of : (ℕ → Task) → Flow → Bool → Option ℕ → ℕ → Fate
fate_of ts s mark ran i = fate (ts i) s.clock (is_running ran i) mark (s.loop i).seat.slot

abbrev pub next : (ℕ → Task) → Flow → Move → Flow
next ts s (release k) = record { clock = s.clock; loop = λ i. cond (eqb i k) (released (ts i) s.clock (s.loop i)) (s.loop i) }
next ts s (tick mark ran) = record { clock = s.clock + 1; loop = λ i. fated (ts i) (s.loop i) (fate_of ts s mark ran i) }
next ts s (resume k) = record { clock = s.clock; loop = λ i. cond (eqb i k) (resumed (s.loop i)) (s.loop i) }

-- task k takes a release; it waits for a resume
abbrev pub Free : (ℕ → Task) → Flow → ℕ → Type 0
Free ts s k = (¬ IsHalted (s.loop k).seat.slot) × (ready_at (ts k) (s.loop k) ≤ s.clock)

-- the flow b is a, as far as the clock and the tasks below n go
pub record Same (n : ℕ) (a b : Flow) : Type 0 where
  pub clocks : b.clock ≡ a.clock
  pub loops : (i : ℕ) → i < n → b.loop i ≡ a.loop i

pub clash : (b : Bool) → b ≡ true → b ≡ false → ⊥
clash b e e' = grind arith

pub not_true : (b : Bool) → (b ≡ true → ⊥) → b ≡ false
not_true true h = absurd (h refl)
not_true false h = refl

pub eqb_true : (i k : ℕ) → eqb i k ≡ true → i ≡ k
eqb_true i k e = grind arith

pub pick : (P : Standing → Type 0) (i k : ℕ) (a b : Standing) → (i ≡ k → P a) → P b → P (cond (eqb i k) a b)
pick P i k a b f h = at (eqb i k) refl
  where
    at : (x : Bool) → eqb i k ≡ x → P (cond x a b)
    at true e = f (eqb_true i k e)
    at false e = h

-- a counted job pending after a tick was pending before, and lasted
pub busy_after : (t : Task) (counts : ℕ → Bool) (clock : ℕ) (runs mark : Bool) (l : Standing) →
    busy counts (fated t l (fate t clock runs mark l.seat.slot)).seat.slot ≡ true →
    (lasts counts (fate t clock runs mark l.seat.slot) ≡ true) × (busy counts l.seat.slot ≡ true)
busy_after t counts clock runs mark l = at l.seat.slot refl
  where
    gone : (b : Bool) → busy counts (cond b Empty Halted) ≡ true → ⊥
    gone true h = clash false h refl
    gone false h = clash false h refl

    judge : (c r u : ℕ) (f : Fate) → Judged runs mark (terms_of t c).budget t.gap (clock + 1 - r) c r u f →
        busy counts (fated t l f).seat.slot ≡ true → (lasts counts f ≡ true) × (counts c ≡ true)
    judge c r u f (by_finish e) h = absurd (clash false h refl)
    judge c r u f (by_cut e v) h = absurd (gone (terms_of t c).tolerated h)
    judge c r u f (by_age v e m a) h = absurd (gone (terms_of t c).tolerated h)
    judge c r u f (goes_on v e m a) h = (h, h)

    at : (sl : Slot) → l.seat.slot ≡ sl → busy counts (fated t l (fate t clock runs mark sl)).seat.slot ≡ true →
        (lasts counts (fate t clock runs mark sl) ≡ true) × (busy counts sl ≡ true)
    at Empty e h = absurd (clash false (rw e at h) refl)
    at (Pending c r u) e h = judge c r u (judged runs mark (terms_of t c).budget t.gap (clock + 1 - r) c r u) (judged_is runs mark (terms_of t c).budget t.gap (clock + 1 - r) c r u) h
    at Halted e h = absurd (clash false (rw e at h) refl)

abbrev pub AllSound : (ℕ → Task) → ℕ → Flow → Type 0
AllSound ts n s = (i : ℕ) → i < n → Sound (ts i) s.clock (s.loop i)

pub sound_move : (ts : ℕ → Task) (n : ℕ) → ((i : ℕ) → i < n → Lawful (ts i)) → (s : Flow) (m : Move) → AllSound ts n s → AllSound ts n (next ts s m)
sound_move ts n law s (release k) h i l =
    pick (Sound (ts i) s.clock) i k (released (ts i) s.clock (s.loop i)) (s.loop i) (λ e. sound_release (ts i) s.clock (s.loop i) (law i l) (h i l)) (h i l)
sound_move ts n law s (tick mark ran) h i l = sound_tick (ts i) s.clock (is_running ran i) mark (law i l) (s.loop i) (h i l)
sound_move ts n law s (resume k) h i l =
    pick (Sound (ts i) s.clock) i k (resumed (s.loop i)) (s.loop i) (λ e. sound_resume (ts i) s.clock (s.loop i) (h i l)) (h i l)

-- no counted job is pending
abbrev pub Calm : (ℕ → ℕ → Bool) → ℕ → Flow → Type 0
Calm counts n s = (i : ℕ) → i < n → busy (counts i) (s.loop i).seat.slot ≡ false

pub record Window (ts : ℕ → Task) (n : ℕ) (counts : ℕ → ℕ → Bool) (R : ℕ) (s : Flow) (from lost : ℕ) : Type 0 where
  pub spent : ℕ → ℕ
  pub begun : from ≤ s.clock
  pub running : s.clock < from + R
  pub each : (i : ℕ) → i < n → Tally (ts i) (counts i) from (s.loop i) (spent i)
  pub covers : s.clock ≤ from + (sum n spent + lost)

pub calm_tick : (ts : ℕ → Task) (n : ℕ) (counts : ℕ → ℕ → Bool) (s : Flow) (mark : Bool) (ran : Option ℕ) → Calm counts n s → Calm counts n (next ts s (tick mark ran))
calm_tick ts n counts s mark ran calm i l =
    not_true (busy (counts i) ((next ts s (tick mark ran)).loop i).seat.slot)
    (λ h. clash (busy (counts i) (s.loop i).seat.slot) (busy_after (ts i) (counts i) s.clock (is_running ran i) mark (s.loop i) h).1 (calm i l))

module _ (ts : ℕ → Task) (n : ℕ) (counts : ℕ → ℕ → Bool) (R : ℕ) where
  pub window_opens : (s : Flow) → 1 ≤ R → AllSound ts n s → Calm counts n s → Window ts n counts R s s.clock 0
  window_opens s low sound calm =
      record {
        spent = λ i. 0;
        begun = omega arith;
        running = omega arith;
        each = λ i l. tally_opens (ts i) (counts i) s.clock (s.loop i) (sound i l) (calm i l);
        covers = omega arith;
      }

  pub window_release : (s : Flow) (from lost k : ℕ) → AllSound ts n s → Free ts s k → Window ts n counts R s from lost → Window ts n counts R (next ts s (release k)) from lost
  window_release s from lost k sound a w =
      record {
        spent = w.spent;
        begun = w.begun;
        running = w.running;
        covers = w.covers;
        each = λ i l. pick (λ x. Tally (ts i) (counts i) from x (w.spent i)) i k (released (ts i) s.clock (s.loop i)) (s.loop i) (λ e. new i l e) (w.each i l);
      }
    where
      new : (i : ℕ) → i < n → i ≡ k → Tally (ts i) (counts i) from (released (ts i) s.clock (s.loop i)) (w.spent i)
      new i l e = tally_release (ts i) (counts i) from s.clock (s.loop i) (w.spent i) (sound i l) w.begun (rw e a.0) (rw e a.1) (w.each i l)

  pub window_resume : (s : Flow) (from lost k : ℕ) → IsHalted (s.loop k).seat.slot → Window ts n counts R s from lost → Window ts n counts R (next ts s (resume k)) from lost
  window_resume s from lost k a w =
      record {
        spent = w.spent;
        begun = w.begun;
        running = w.running;
        covers = w.covers;
        each = λ i l. pick (λ x. Tally (ts i) (counts i) from x (w.spent i)) i k (resumed (s.loop i)) (s.loop i) (λ e. new i l e) (w.each i l);
      }
    where
      new : (i : ℕ) → i < n → i ≡ k → Tally (ts i) (counts i) from (resumed (s.loop i)) (w.spent i)
      new i l e = tally_resume (ts i) (counts i) from (s.loop i) (w.spent i) (rw e a) (w.each i l)

  module _ (spare : ℕ) (need : ℕ → ℕ) (law : (i : ℕ) → i < n → Lawful (ts i)) (enough : (i : ℕ) → i < n → Enough (ts i) (counts i) R (need i)) (fits : sum n need + spare ≤ R)
      (s : Flow) (mark : Bool) (ran : Option ℕ) (from lost : ℕ) (sound : AllSound ts n s) (w : Window ts n counts R s from lost) where
    -- what each task has spent after the tick
    pub spends : ℕ → ℕ
    spends i = w.spent i + gain (is_running ran i) (busy (counts i) (s.loop i).seat.slot)

    -- `later`: the ticks lost after this one
    module _ (later : ℕ) (few : later ≤ spare) (paid : s.clock + 1 ≤ from + (sum n spends + later)) where
      -- a counted job that is still there after the run step: the window is shorter than R
      pub window_lasts : (i : ℕ) → i < n → lasts (counts i) (fate_of ts s mark ran i) ≡ true → s.clock + 1 < from + R
      unfolding spends
      window_lasts i l h =
          let q : sum n spends < sum n need = sum_lt n spends need (λ j m. (upto j m).0) i l ((upto i l).1 h) in
          omega arith
        where
          upto : (j : ℕ) → j < n → (spends j ≤ need j) × (lasts (counts j) (fate_of ts s mark ran j) ≡ true → spends j < need j)
          upto j m = limit (ts j) (counts j) from s.clock R (need j) (is_running ran j) mark w.begun w.running (law j m).gap_low (enough j m) (s.loop j) (w.spent j) (sound j m) (w.each j m)

      -- after the tick the window goes on, or no counted job is pending
      pub window_tick : Window ts n counts R (next ts s (tick mark ran)) from later ⊎ Calm counts n (next ts s (tick mark ran))
      unfolding spends
      window_tick = at (order (s.clock + 1) (from + R))
        where
          order : (a b : ℕ) → (a < b) ⊎ (b ≤ a)
          order a b = grind arith

          at : (s.clock + 1 < from + R) ⊎ (from + R ≤ s.clock + 1) → Window ts n counts R (next ts s (tick mark ran)) from later ⊎ Calm counts n (next ts s (tick mark ran))
          at (inl h) = inl (record {
            spent = spends;
            begun = omega (arith, w.begun);
            running = h;
            covers = paid;
            each = λ i l. tally_tick (ts i) (counts i) from s.clock (is_running ran i) mark (law i l) (s.loop i) (w.spent i) (sound i l) (w.each i l);
          })
          at (inr h) = inr (λ i l. not_true (busy (counts i) ((next ts s (tick mark ran)).loop i).seat.slot) (λ b. no i l b))
            where
              no : (i : ℕ) → i < n → busy (counts i) ((next ts s (tick mark ran)).loop i).seat.slot ≡ true → ⊥
              no i l b = let q = window_lasts i l (busy_after (ts i) (counts i) s.clock (is_running ran i) mark (s.loop i) b).0 in omega arith

    -- the tick is paid if it ran a counted job
    pub served : (r : ℕ) → r < n → is_running ran r ≡ true → busy (counts r) (s.loop r).seat.slot ≡ true → s.clock + 1 ≤ from + (sum n spends + lost)
    unfolding spends
    served r l e b =
        let q : sum n w.spent < sum n spends = sum_lt n w.spent spends (λ i m. omega arith) r l (omega (arith, one)) in
        omega (arith, w.covers)
      where
        one : gain (is_running ran r) (busy (counts r) (s.loop r).seat.slot) ≡ 1
        one = rw (b, e)

    -- or else if one more tick is lost
    pub unserved : s.clock + 1 ≤ from + (sum n spends + suc lost)
    unfolding spends
    unserved =
        let q : sum n w.spent ≤ sum n spends = sum_grows n w.spent spends (λ i m. omega arith) in
        omega (arith, w.covers)
