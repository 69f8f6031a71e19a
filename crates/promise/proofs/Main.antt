-- Every trace of a new dispatcher over a lawful group keeps the promise.
use Rattle.std.proofs.Common.{◌≡◌, ℕ, zero, suc, ◌+◌, ◌-◌, ◌<◌, ◌≤◌, Bool, true, false, cond, ◌⊎◌, List, [], ◌∷◌, length, take, Some, None, Option, Result, sym, refl, ap, ◌∙◌, inl, inr, arith}
use Rattle.std.specs.List.{AllByRecursion}
use Rattle.std.proofs.ByRecursion.{All-append, All-weaker}
use Rattle.denial.specs.declared.Denial.{Denial}
use Rattle.denial.specs.Checks.{unless}
use Rattle.group.specs.Task.{Task, Class, at, terms_of}
use Rattle.kinds.specs.MissCounted.{IsMissCounted}
use Rattle.bounds.specs.Bound.{Bounded, task_fault}
use Rattle.dispatcher.specs.declared.slot.Slot.{Slot}
use Rattle.dispatcher.specs.declared.slot.Slot.TheVariants.{Empty, Pending, Halted}
use Rattle.dispatcher.specs.declared.view.View.TheVariants.{Pending as Waiting, Halted as Stopped}
use Rattle.dispatcher.specs.declared.end.Way.{Way}
use Rattle.dispatcher.specs.declared.end.Way.TheVariants.{Finished, Cut, Late}
use Rattle.dispatcher.specs.declared.end.End.{End}
use Rattle.admission.specs.Start.{Startable}
use Rattle.dispatcher.specs.Slots.{way_of, is_pending, class_of, age_of, used_after}
use Rattle.dispatcher.specs.State.{State, Standing, standing, slot_of, waits, is_running, runner}
use Rattle.dispatcher.specs.Refusals.{tick_fault}
use Rattle.dispatcher.specs.Records.{tick_ends, Recorded, Listed}
use Rattle.dispatcher.specs.Questions.{view_of}
use Rattle.dispatcher.specs.Sound.{Job, Sound, ready_at}
use Rattle.promise.specs.Trace.{Call, Trace, state_after, records, records_of}
use Rattle.promise.specs.Trace.Call.{start, release, tick, resume, ask_clock, ask_slot, ask_bound, ask_next, ask_expiry}
use Rattle.promise.specs.Reading.{reading}
use Rattle.promise.specs.Promise.{SoundGroup, HasBound, in_time, Timely, CutAtBudget, Promised, TellsOfJob, RecordsTrue, Promise}
use Rattle.promise.specs.Window.{Reached}
use Rattle.bounds.proofs.Least.{workload_falls}
use Rattle.dispatcher.proofs.Fates.{Fate, fate, fated, ended_was, fate_way, way_fate}
use Rattle.dispatcher.proofs.Fates.Fate.{nothing, going, ended}
use Rattle.promise.proofs.Window.{clash, fate_of}
use Rattle.promise.proofs.Views.{flow}
use Rattle.promise.proofs.Closed.{always_sound}
use Rattle.promise.proofs.Least.{has_bound}
use Rattle.promise.proofs.Starts.{strict}
use Rattle.dispatcher.proofs.Faults.{never}
use Rattle.promise.proofs.Bound.{by_rank, within_bound, ends_in_time}
use Rattle.promise.proofs.Led.{Led, led, none_waits, led_started, tick_started}
use Rattle.promise.proofs.Heard.{Past, later, Agrees, Keeps, Carries, carries}
use Rattle.promise.proofs.Records.{Tells, all_tell}

module _ (ts : List Task) (places : List ℕ) (grp : SoundGroup ts places) where
  sound_of : (s : State) → Reached (by_rank ts) ts places s → (i : ℕ) → i < length ts → Sound (at ts i) s.clock (standing s i)
  sound_of s r i l = always_sound (by_rank ts) ts places grp r i l

  -- a job that ended has a class of its task, the class of the position
  ended_class : (s : State) → Reached (by_rank ts) ts places s → (mark : Bool) (ran : Option ℕ) (i : ℕ) → i < length ts → (d : ℕ) (w : Way) (a u : ℕ) →
      fate_of (λ i. at ts i) (flow s) mark ran i ≡ ended d w a u → (d ≡ (at ts i).class_at (standing s i).position) × Class (at ts i) d
  ended_class s r mark ran i l d w a u e =
      let q = ended_was (at ts i) s.clock (is_running ran i) mark (slot_of s i) d w a u e in
      let j : Job (at ts i) s.clock (ready_at (at ts i) (standing s i)) (standing s i).position d q.since q.used_before = rw q.was at (sound_of s r i l).job in
      (j.class, rw j.class ((grp.lawful i l).classed (standing s i).position (sound_of s r i l).placed))

  -- the end of a job of a class for which R ticks are enough
  kept_by : Startable ts → (k c R : ℕ) → Bounded ts k c R → (s : State) → Reached (by_rank ts) ts places s → (mark : Bool) (w : Way) (a u : ℕ) →
      fate_of (λ i. at ts i) (flow s) mark (runner ts s) k ≡ ended c w a u → in_time R w a ≡ true
  kept_by acc k c R b s r mark w a u e =
      let q = ended_was (at ts k) s.clock (is_running (runner ts s) k) mark (slot_of s k) c w a u e in
      rw q.aged_to (ends_in_time ts places grp acc k c R b s r mark q.since q.used_before q.was w
      (fate_way (at ts k) s.clock (is_running (runner ts s) k) mark (slot_of s k) c w a u e))

  -- (a) ----------------------------------------------------------------------------------------------------------------------

  abbrev pub AllTimely : (k : ℕ) → Standing → Past → Type 0
  AllTimely k l p = AllByRecursion (λ x. Timely ts k x.class x.way x.age) p.ended

  timely_keeps : (k : ℕ) → Keeps ts places k (AllTimely k)
  timely_keeps k = record {
    at_new = λ x. tt;
    at_release = λ clock l p z. z;
    at_resume = λ l p z. z;
    at_tick = ticks;
  }
    where
      ticks : Startable ts → (s : State) → Reached (by_rank ts) ts places s → (mark : Bool) (p : Past) → AllTimely k (standing s k) p →
          (f : Fate) → fate_of (λ i. at ts i) (flow s) mark (runner ts s) k ≡ f → AllTimely k (fated (at ts k) (standing s k) f) (later p f)
      ticks acc s r mark p old nothing e = old
      ticks acc s r mark p old (going c v u) e = old
      ticks acc s r mark p old (ended c w a u) e = (λ R h. kept_by acc k c R (has_bound ts k c R h) s r mark w a u e, old)

  -- what is seen of a pending job
  seen_pending : (clock : ℕ) (sl : Slot) (c a u : ℕ) → view_of clock sl ≡ Waiting c a u → (since : ℕ) × (sl ≡ Pending c since u) × (a ≡ clock - since)
  seen_pending clock Empty c a u e = never (cc)
  seen_pending clock (Pending d r v) c a u e = (r, cc, cc)
  seen_pending clock Halted c a u e = never (cc)

  young : (s : State) → Led ts places s → (k c age used R : ℕ) → view_of s.clock (slot_of s k) ≡ Waiting c age used → HasBound ts k c R → age < R
  young s h k c age used R e b = on h (seen_pending s.clock (slot_of s k) c age used e)
    where
      on : Led ts places s → (since : ℕ) × (slot_of s k ≡ Pending c since used) × (age ≡ s.clock - since) → age < R
      on (inl z) q = absurd (clash (waits s k) (ap is_pending q.1) (none_waits places s z k))
      on (inr r) q = rw q.2 ((within_bound ts places grp r.0 k c R (has_bound ts k c R b) s r.1).younger q.0 used q.1)

  -- (b) ----------------------------------------------------------------------------------------------------------------------

  abbrev pub ByCut : Task → Standing → Past → Type 0
  ByCut t l p = l.seat.slot ≡ Halted → CutAtBudget t p.ended

  halts_keep : (i : ℕ) → i < length ts → Keeps ts places i (ByCut (at ts i))
  halts_keep i l = record {
    at_new = λ x h. never (cc);
    at_release = λ clock x p z h. never (cc);
    at_resume = λ x p z h. never (cc);
    at_tick = ticks;
  }
    where
      cut_at : (s : State) (mark : Bool) (d a v : ℕ) → fate_of (λ i. at ts i) (flow s) mark (runner ts s) i ≡ ended d Cut a v → v ≡ (terms_of (at ts i) d).budget
      cut_at s mark d a v e = elim (ended_was (at ts i) s.clock (is_running (runner ts s) i) mark (slot_of s i) d Cut a v e).how [
        | inl q ↦ never (cc)
        | inr (inl q) ↦ q.1
        | inr (inr q) ↦ let p : Cut ≡ Late = q.0 in never (cc)
      ]

      strict_late : Startable ts → (s : State) → Reached (by_rank ts) ts places s → (mark : Bool) (d a v : ℕ) →
          fate_of (λ i. at ts i) (flow s) mark (runner ts s) i ≡ ended d Late a v → (terms_of (at ts i) d).tolerated ≡ false → ⊥
      strict_late acc s r mark d a v e st =
          let b = strict ts acc i d l (ended_class s r mark (runner ts s) i l d Late a v e).1 st in
          clash false (kept_by acc i d b.0 b.1 s r mark Late a v e) refl

      ticks : Startable ts → (s : State) → Reached (by_rank ts) ts places s → (mark : Bool) (p : Past) → ByCut (at ts i) (standing s i) p →
          (f : Fate) → fate_of (λ i. at ts i) (flow s) mark (runner ts s) i ≡ f → ByCut (at ts i) (fated (at ts i) (standing s i) f) (later p f)
      ticks acc s r mark p old nothing e = old
      ticks acc s r mark p old (going d v x) e = λ h. never (cc)
      ticks acc s r mark p old (ended d Finished a v) e = λ h. never (cc)
      ticks acc s r mark p old (ended d Cut a v) e = on (terms_of (at ts i) d).tolerated refl
        where
          on : (b : Bool) → (terms_of (at ts i) d).tolerated ≡ b → cond b Empty Halted ≡ Halted → CutAtBudget (at ts i) (later p (ended d Cut a v)).ended
          on true q = λ h. never (cc)
          on false q = λ h. record {
            end = record { class = d; way = Cut; age = a; ran = v };
            earlier = p.ended;
            the_last = refl;
            by_cut = refl;
            at_budget = cut_at s mark d a v e;
            not_tolerated = q;
          }
      ticks acc s r mark p old (ended d Late a v) e = on (terms_of (at ts i) d).tolerated refl
        where
          on : (b : Bool) → (terms_of (at ts i) d).tolerated ≡ b → cond b Empty Halted ≡ Halted → CutAtBudget (at ts i) (later p (ended d Late a v)).ended
          on true q = λ h. never (cc)
          on false q = λ h. absurd (strict_late acc s r mark d a v e q)

  -- (c) ----------------------------------------------------------------------------------------------------------------------

  -- ranks of a miss-counted task never fall
  ranks_rise : (t : Task) (mc : IsMissCounted t) (f m : ℕ) → 1 ≤ f → f + m ≤ mc.misses + 1 → (terms_of t f).rank ≤ (terms_of t (f + m)).rank
  ranks_rise t mc f zero l h = let e : f + 0 ≡ f = omega arith in rw e (omega arith)
  ranks_rise t mc f (suc m) l h =
      let a : (terms_of t f).rank ≤ (terms_of t (f + m)).rank = ranks_rise t mc f m l (omega arith) in
      let b : (terms_of t (f + m)).rank ≤ (terms_of t (f + m + 1)).rank = mc.rise (f + m) (omega arith) (omega arith) in
      let e : f + m + 1 ≡ f + suc m = omega arith in
      let d : (terms_of t (f + m)).rank ≤ (terms_of t (f + suc m)).rank = rw e at b in
      omega arith

  -- a class ranked as high as a bounded one has that bound too
  bounded_up : (k f d R : ℕ) → IsMissCounted (at ts k) → Class (at ts k) d → f ≤ d → Bounded ts k f R → Bounded ts k d R
  bounded_up k f d R mc cd le b =
      record { task = b.task; class = cd; low = b.low; high = b.high; enough = omega (arith, b.enough, workload_falls ts grp.lawful k f d R up) }
    where
      up : (terms_of (at ts k) f).rank ≤ (terms_of (at ts k) d).rank
      up =
          let e : f + (d - f) ≡ d = omega arith in
          rw e at (ranks_rise (at ts k) mc f (d - f) b.class.0 (omega (arith, mc.classes, cd.1)))

  -- late ends in a row: none, or fewer than the present class, which is at most f
  abbrev pub Streak : Task → ℕ → Standing → Past → Type 0
  Streak t f l p = (p.lates ≡ 0) ⊎ ((p.lates < t.class_at l.position) × (t.class_at l.position ≤ f))

  streak_keeps : (k : ℕ) → IsMissCounted (at ts k) → (f R : ℕ) → Bounded ts k f R → Keeps ts places k (Streak (at ts k) f)
  streak_keeps k mc f R bd = record {
    at_new = λ x. inl refl;
    at_release = λ clock x p z. z;
    at_resume = λ x p z. inl refl;
    at_tick = ticks;
  }
    where
      order : (a b : ℕ) → (a < b) ⊎ (b ≤ a)
      order a b = grind arith

      ticks : Startable ts → (s : State) → Reached (by_rank ts) ts places s → (mark : Bool) (p : Past) → Streak (at ts k) f (standing s k) p →
          (g : Fate) → fate_of (λ i. at ts i) (flow s) mark (runner ts s) k ≡ g → Streak (at ts k) f (fated (at ts k) (standing s k) g) (later p g)
      ticks acc s r mark p old nothing e = old
      ticks acc s r mark p old (going d v x) e = old
      ticks acc s r mark p old (ended d Finished a v) e = inl refl
      ticks acc s r mark p old (ended d Cut a v) e = inl refl
      ticks acc s r mark p old (ended d Late a v) e =
          let q = ended_class s r mark (runner ts s) k bd.task d Late a v e in
          let below : d < f = elim (order d f) [
            | inl h ↦ h
            | inr h ↦ absurd (clash false (kept_by acc k d R (bounded_up k f d R mc q.1 h bd) s r mark Late a v e) refl)
          ] in
          let on : (at ts k).class_at ((at ts k).after_miss (standing s k).position) ≡ (at ts k).class_at (standing s k).position + 1 =
          mc.miss (standing s k).position (sound_of s r k bd.task).placed (omega (arith, q.0, bd.class.1, mc.classes)) in
          inr (elim old [
            | inl z ↦ (omega (arith, on, z, q.0, q.1.0), omega (arith, on, q.0))
            | inr z ↦ (omega (arith, on, z.0), omega (arith, on, q.0))
          ])

  -- All together --------------------------------------------------------------------------------------------------------------

  module _ (cs : List Call) (tr : Trace ts places cs) (k : ℕ) (task : k < length ts) where
    timely : Carries ts places grp k task (AllTimely k) (timely_keeps k) (state_after ts places cs).clock (standing (state_after ts places cs) k) (reading ts places cs k)
    timely = carries ts places grp k task (AllTimely k) (timely_keeps k) cs tr

    few_lates : IsMissCounted (at ts k) → (f R : ℕ) → HasBound ts k f R → (reading ts places cs k).lates < f
    few_lates mc f R h =
        let bd = has_bound ts k f R h in
        elim (carries ts places grp k task (Streak (at ts k) f) (streak_keeps k mc f R bd) cs tr).holds [
          | inl z ↦ omega (arith, z, bd.class.0)
          | inr z ↦ omega (arith, z.0, z.1)
        ]

    seen_halted : (clock : ℕ) (sl : Slot) → view_of clock sl ≡ Stopped → sl ≡ Halted
    seen_halted clock Empty e = never (cc)
    seen_halted clock (Pending c r u) e = never (cc)
    seen_halted clock Halted e = refl

    pub promised : Promised ts (state_after ts places cs) k (reading ts places cs k)
    promised =
        let a = timely.agrees.slot in
        record {
          ends = record {
            ended = timely.holds;
            pending = λ c age used R e b. young (state_after ts places cs) (led ts places cs) k c age used R (sym a ∙ e) b;
          };
          halts = λ e. (carries ts places grp k task (ByCut (at ts k)) (halts_keep k task) cs tr).holds
              (seen_halted (state_after ts places cs).clock (slot_of (state_after ts places cs) k) (sym a ∙ e));
          streak = few_lates;
          slot = ap (unless (task_fault ts k)) (sym a);
        }

  -- Records -------------------------------------------------------------------------------------------------------------------

  agrees_always : (cs : List Call) → Trace ts places cs → (k : ℕ) → k < length ts →
      Agrees (state_after ts places cs).clock (standing (state_after ts places cs) k) (reading ts places cs k)
  agrees_always cs tr k l = (carries ts places grp k l (λ x p. Unit {0}) (record { at_new = λ x. tt; at_release = λ c x p z. tt; at_resume = λ x p z. tt; at_tick = λ a s r m p z f e. tt }) cs tr).agrees

  -- a job whose end is recorded was pending, and ended by its fate
  ended_told : (t : Task) (clock : ℕ) (runs mark : Bool) (sl : Slot) (w : Way) → way_of t clock runs mark sl ≡ Some w →
      (r u v : ℕ) × (sl ≡ Pending (class_of sl) r u) × (age_of (clock + 1) sl ≡ clock + 1 - r) × (fate t clock runs mark sl ≡ ended (class_of sl) w (age_of (clock + 1) sl) v)
  ended_told t clock runs mark Empty w e = never (cc)
  ended_told t clock runs mark (Pending c r u) w e = (r, u, used_after runs u, refl, refl, way_fate t clock runs mark c r u w e)
  ended_told t clock runs mark Halted w e = never (cc)

  -- (a) by the records, and what they tell of
  abbrev pub TrueRecord : List Call → End → Type 0
  TrueRecord cs e = Timely ts e.task e.class e.way e.age × TellsOfJob ts places cs e

  new_true : (s : State) → Led ts places s → (cs : List Call) → Trace ts places cs → s ≡ state_after ts places cs → (mark : Bool) (before after : List End) →
      tick_fault ts s mark (length before) ≡ None → Recorded (tick_ends ts s mark) before after → AllByRecursion (TrueRecord cs) (take (length (tick_ends ts s mark)) after)
  new_true s h cs tr here mark before after f m =
      All-weaker (Tells ts s mark (runner ts s) (length ts)) (TrueRecord cs) one
      (take (length (tick_ends ts s mark)) after) (all_tell ts s mark (runner ts s) (length ts) (take (length (tick_ends ts s mark)) after) m.front)
    where
      r : Startable ts × Reached (by_rank ts) ts places s
      r = led_started ts places s h (tick_started ts s mark (length before) f)

      one : (e : End) → Tells ts s mark (runner ts s) (length ts) e → TrueRecord cs e
      one e t =
          let k = e.task in
          let q = reading ts places cs k in
          let a : Agrees s.clock (standing s k) q = rw here (agrees_always cs tr k t.task) in
          let x = ended_told (at ts k) s.clock (is_running (runner ts s) k) mark (slot_of s k) e.way t.way in
          let c = class_of (slot_of s k) in
          let j : Job (at ts k) s.clock (ready_at (at ts k) (standing s k)) (standing s k).position c x.0 x.1 = rw x.3 at (sound_of s r.1 k t.task).job in
          let f : fate_of (λ i. at ts i) (flow s) mark (runner ts s) k ≡ ended e.class e.way e.age x.2 = rw (t.class, t.age) x.5 in (
            λ R b. kept_by r.0 k e.class R (has_bound ts k e.class R b) s r.1 mark e.way e.age x.2 f,
            record {
              task = t.task;
              age_before = s.clock - x.0;
              used_before = x.1;
              pending = a.slot ∙ ap (view_of s.clock) x.3 ∙ ap (λ c. Waiting c (s.clock - x.0) x.1) (sym t.class);
              age = omega (arith, t.age, x.4, j.past);
            },
          )

  tick_true : (s : State) → Led ts places s → (cs : List Call) → Trace ts places cs → s ≡ state_after ts places cs → (mark : Bool) (before : List End) (answer : Result (Option ℕ × ℕ) Denial) (after : List End)
      (o : Option Denial) → tick_fault ts s mark (length before) ≡ o → answer ≡ unless o (runner ts s, length (tick_ends ts s mark)) → Listed o (tick_ends ts s mark) before after →
      AllByRecursion (TrueRecord cs) (records_of (tick mark before answer after))
  tick_true s h cs tr here mark before answer after (Some d) f e m = rw e tt
  tick_true s h cs tr here mark before answer after None f e m = rw e (new_true s h cs tr here mark before after f m)

  call_true : (c : Call) (cs : List Call) → Trace ts places (c ∷ cs) → AllByRecursion (TrueRecord cs) (records_of c)
  call_true (start before answer after) cs tr = tt
  call_true (release k answer) cs tr = tt
  call_true (tick mark before answer after) cs tr =
      tick_true (state_after ts places cs) (led ts places cs) cs tr.1 refl mark before answer after (tick_fault ts (state_after ts places cs) mark (length before)) refl tr.0.0 tr.0.1
  call_true (resume k answer) cs tr = tt
  call_true (ask_clock answer) cs tr = tt
  call_true (ask_slot k answer) cs tr = tt
  call_true (ask_bound k c answer) cs tr = tt
  call_true (ask_next answer) cs tr = tt
  call_true (ask_expiry answer) cs tr = tt

  pub ends_timely : (cs : List Call) → Trace ts places cs → AllByRecursion (λ e. Timely ts e.task e.class e.way e.age) (records cs)
  ends_timely [] tr = tt
  ends_timely (c ∷ cs) tr =
      All-append (λ e. Timely ts e.task e.class e.way e.age) (records_of c) (records cs)
      (All-weaker (TrueRecord cs) (λ e. Timely ts e.task e.class e.way e.age) (λ e h. h.0) (records_of c) (call_true c cs tr)) (ends_timely cs tr.1)

  pub records_true : (cs : List Call) → Trace ts places cs → RecordsTrue ts places cs
  records_true [] tr = tt
  records_true (c ∷ cs) tr = (All-weaker (TrueRecord cs) (TellsOfJob ts places cs) (λ e h. h.1) (records_of c) (call_true c cs tr), records_true cs tr.1)

pub promise : Promise
promise ts places grp cs tr =
    record { tasks = λ k l. promised ts places grp cs tr k l; ends = ends_timely ts places grp cs tr; told = records_true ts places grp cs tr }
