-- The reading of a trace agrees with the dispatcher's state, and what each accepted call keeps of one task holds after every trace.
use Rattle.std.proofs.Common.{◌≡◌, ℕ, ◌+◌, ◌-◌, ◌<◌, ◌≤◌, Bool, true, false, cond, eqb, List, [], ◌∷◌, length, take, Some, None, Option, Result, sym, refl, ap, ◌∙◌, subst, arith}
use Rattle.denial.specs.declared.Denial.{Denial}
use Rattle.denial.specs.Checks.{unless}
use Rattle.group.specs.Task.{Task, at, place, after, terms_of}
use Rattle.dispatcher.specs.declared.slot.Slot.{Slot}
use Rattle.dispatcher.specs.declared.slot.Slot.TheVariants.{Empty, Pending, Halted}
use Rattle.dispatcher.specs.declared.view.View.{View}
use Rattle.dispatcher.specs.declared.view.View.TheVariants.{Empty as Vacant, Pending as Waiting, Halted as Stopped}
use Rattle.dispatcher.specs.declared.end.Way.{Way}
use Rattle.dispatcher.specs.declared.end.Way.TheVariants.{Finished, Cut, Late}
use Rattle.dispatcher.specs.declared.end.End.{End}
use Rattle.admission.specs.Start.{Startable, start_fault}
use Rattle.dispatcher.specs.Slots.{way_of, used_after, ending, outcome_of}
use Rattle.dispatcher.specs.State as state
use Rattle.dispatcher.specs.State.{State, Standing, stands, new_seat, standing, slot_of, is_running, runner, ticked}
use Rattle.dispatcher.specs.Refusals.{release_fault, resume_fault, tick_fault, kept_if}
use Rattle.dispatcher.specs.Records.{tick_ends, Listed}
use Rattle.dispatcher.specs.Questions.{view_of}
use Rattle.dispatcher.specs.Sound.{SlotSound, Sound, ready_of}
use Rattle.dispatcher.proofs.Sounds.{released, resumed}
use Rattle.promise.specs.Trace.{Call, Trace, state_after}
use Rattle.promise.specs.Trace.Call.{start, release, tick, resume, ask_clock, ask_slot, ask_bound, ask_next, ask_expiry}
use Rattle.promise.specs.Reading as read
use Rattle.promise.specs.Reading.{Reading, Ending, aged, lates_after, ended_so, tick_heard, release_heard, resume_heard, heard, reading}
use Rattle.promise.specs.Promise.{SoundGroup}
use Rattle.promise.specs.Window.{Reached}
use Rattle.dispatcher.proofs.Seated.{seated_new}
use Rattle.dispatcher.proofs.Fates.{Fate, verdict, fate, fated, vacated}
use Rattle.dispatcher.proofs.Fates.Fate.{nothing, going, ended}
use Rattle.promise.proofs.Window.{fate_of}
use Rattle.promise.proofs.Views.{flow, released_same, resumed_same, ticked_same}
use Rattle.promise.proofs.Closed.{always_full, always_sound}
use Rattle.dispatcher.proofs.Faults.{releases_from, resumes_from}
use Rattle.promise.proofs.Bound.{by_rank}
use Rattle.promise.proofs.Records.{told_way}
use Rattle.promise.proofs.Led.{Led, led, led_started, tick_started}

-- what is read of a task's ends
pub record Past : Type 0 where
  pub lates : ℕ
  pub ended : List Ending

abbrev pub past_of : Reading → Past
past_of q = record { lates = q.lates; ended = q.ended }

abbrev pub later : Past → Fate → Past
later p nothing = p
later p (going c r u) = p
later p (ended c w a u) = record { lates = lates_after w p.lates; ended = record { class = c; way = w; age = a; ran = u } ∷ p.ended }

-- the reading of a task that stands so at a clock
pub record Agrees (clock : ℕ) (l : Standing) (q : Reading) : Type 0 where
  pub position : q.position ≡ l.position
  pub slot : q.slot ≡ view_of clock l.seat.slot

-- One tick ------------------------------------------------------------------------------------------------------------------

module _ (t : Task) (clock : ℕ) (runs mark : Bool) where
  -- the reading after a tick, and what it tells of the ends
  pub record Follows (l : Standing) (f : Fate) (p : Past) (q : Reading) : Type 0 where
    pub agrees : Agrees (clock + 1) (fated t l f) q
    pub past : past_of q ≡ later p f

  view_vacated : (c : ℕ) (w : Way) → read.vacated w (terms_of t c).tolerated ≡ view_of (clock + 1) (vacated t c w)
  view_vacated c Finished = refl
  view_vacated c Cut = on (terms_of t c).tolerated
    where
      on : (b : Bool) → cond b Vacant Stopped ≡ view_of (clock + 1) (cond b Empty Halted)
      on true = refl
      on false = refl
  view_vacated c Late = on (terms_of t c).tolerated
    where
      on : (b : Bool) → cond b Vacant Stopped ≡ view_of (clock + 1) (cond b Empty Halted)
      on true = refl
      on false = refl

  module _ (x y : ℕ) (same : y ≡ x) (last : Option ℕ) (v : View) (n : ℕ) (xs : List Ending) where
    told_pending : (c r u : ℕ) → r ≤ clock → v ≡ Waiting c (clock - r) u → (w : Option Way) →
        Follows (stands x (record { slot = Pending c r u; last = last })) (verdict w (clock + 1 - r) c r (used_after runs u)) (record { lates = n; ended = xs })
        (tick_heard t runs w (record { position = y; slot = v; lates = n; ended = xs }))
    told_pending c r u h e w = on w
      where
        older : aged runs v ≡ Waiting c (clock + 1 - r) (used_after runs u)
        older =
            let z : clock - r + 1 ≡ clock + 1 - r = omega arith in
            ap (aged runs) e ∙ ap (λ a. Waiting c a (used_after runs u)) z

        on : (w : Option Way) →
            Follows (stands x (record { slot = Pending c r u; last = last })) (verdict w (clock + 1 - r) c r (used_after runs u)) (record { lates = n; ended = xs })
            (tick_heard t runs w (record { position = y; slot = v; lates = n; ended = xs }))
        on None = record { agrees = record { position = same; slot = older }; past = refl }
        on (Some w) =
            subst
            (λ z. Follows (stands x (record { slot = Pending c r u; last = last })) (ended c w (clock + 1 - r) (used_after runs u)) (record { lates = n; ended = xs })
            (ended_so t w z (record { position = y; slot = v; lates = n; ended = xs })))
            (sym older)
            (record { agrees = record { position = ap (after t (outcome_of w)) same; slot = view_vacated c w }; past = refl })

    told_tick : (sl : Slot) → SlotSound t clock (ready_of t.gap last) x sl → v ≡ view_of clock sl →
        Follows (stands x (record { slot = sl; last = last })) (fate t clock runs mark sl) (record { lates = n; ended = xs })
        (tick_heard t runs (way_of t clock runs mark sl) (record { position = y; slot = v; lates = n; ended = xs }))
    told_tick Empty j e = record { agrees = record { position = same; slot = ap (aged runs) e }; past = refl }
    told_tick (Pending c r u) j e = told_pending c r u j.past e (ending runs mark (terms_of t c).budget t.gap (clock + 1 - r) (used_after runs u))
    told_tick Halted j e = record { agrees = record { position = same; slot = ap (aged runs) e }; past = refl }

  pub tick_follows : (l : Standing) (q : Reading) → Sound t clock l → Agrees clock l q →
      Follows l (fate t clock runs mark l.seat.slot) (past_of q) (tick_heard t runs (way_of t clock runs mark l.seat.slot) q)
  tick_follows l q s a = told_tick l.position q.position a.position l.seat.last q.slot q.lates q.ended l.seat.slot s.job a.slot

-- Every trace ---------------------------------------------------------------------------------------------------------------

-- a property of where a task stands and of its ends that every accepted call keeps
pub record Keeps (ts : List Task) (places : List ℕ) (k : ℕ) (P : Standing → Past → Type 0) : Type 0 where
  pub at_new : (x : ℕ) → P (stands x new_seat) (record { lates = 0; ended = [] })
  pub at_release : (clock : ℕ) (l : Standing) (p : Past) → P l p → P (released (at ts k) clock l) p
  pub at_resume : (l : Standing) (p : Past) → P l p → P (resumed l) (record { lates = 0; ended = p.ended })
  pub at_tick : Startable ts → (s : State) → Reached (by_rank ts) ts places s → (mark : Bool) (p : Past) → P (standing s k) p →
      (f : Fate) → fate_of (λ i. at ts i) (flow s) mark (runner ts s) k ≡ f → P (fated (at ts k) (standing s k) f) (later p f)

module _ (ts : List Task) (places : List ℕ) (grp : SoundGroup ts places) (k : ℕ) (task : k < length ts) (P : Standing → Past → Type 0) (keep : Keeps ts places k P) where
  pub record Carries (clock : ℕ) (l : Standing) (q : Reading) : Type 0 where
    pub agrees : Agrees clock l q
    pub holds : P l (past_of q)

  release_carries : (s : State) → Led ts places s → (q : Reading) → Carries s.clock (standing s k) q → (i : ℕ) (answer : Result (Unit {0}) Denial) (o : Option Denial) →
      release_fault ts s i ≡ o → answer ≡ unless o tt →
      Carries (kept_if o s (state.released ts i s)).clock (standing (kept_if o s (state.released ts i s)) k) (heard (at ts k) k q (release i answer))
  release_carries s h q c i answer (Some d) f e = rw e c
  release_carries s h q c i answer None f e = rw (e, (released_same ts grp.lawful s (always_full (by_rank ts) ts places grp r.1) (always_sound (by_rank ts) ts places grp r.1) i (releases_from ts s i f)).loops k task) (on (eqb k i))
    where
      r : Startable ts × Reached (by_rank ts) ts places s
      r = led_started ts places s h (releases_from ts s i f).started

      made : Carries s.clock (released (at ts k) s.clock (standing s k)) (release_heard (at ts k) q)
      made =
          let z : s.clock - s.clock ≡ 0 = omega arith in
          record {
            agrees = record { position = c.agrees.position; slot = rw (c.agrees.position, z) };
            holds = keep.at_release s.clock (standing s k) (past_of q) c.holds;
          }

      on : (b : Bool) → Carries s.clock (cond b (released (at ts k) s.clock (standing s k)) (standing s k)) (cond b (release_heard (at ts k) q) q)
      on true = made
      on false = c

  resume_carries : (s : State) → Led ts places s → (q : Reading) → Carries s.clock (standing s k) q → (i : ℕ) (answer : Result (Unit {0}) Denial) (o : Option Denial) →
      resume_fault ts s i ≡ o → answer ≡ unless o tt →
      Carries (kept_if o s (state.resumed i s)).clock (standing (kept_if o s (state.resumed i s)) k) (heard (at ts k) k q (resume i answer))
  resume_carries s h q c i answer (Some d) f e = rw e c
  resume_carries s h q c i answer None f e = rw (e, (resumed_same ts grp.lawful s (always_full (by_rank ts) ts places grp r.1) (always_sound (by_rank ts) ts places grp r.1) i (resumes_from ts s i f)).loops k task) (on (eqb k i))
    where
      r : Startable ts × Reached (by_rank ts) ts places s
      r = led_started ts places s h (resumes_from ts s i f).started

      on : (b : Bool) → Carries s.clock (cond b (resumed (standing s k)) (standing s k)) (cond b (resume_heard q) q)
      on true = record { agrees = record { position = c.agrees.position; slot = refl }; holds = keep.at_resume (standing s k) (past_of q) c.holds }
      on false = c

  tick_carries : (s : State) → Led ts places s → (q : Reading) → Carries s.clock (standing s k) q → (mark : Bool) (before : List End) (answer : Result (Option ℕ × ℕ) Denial) (after : List End)
      (o : Option Denial) → tick_fault ts s mark (length before) ≡ o → answer ≡ unless o (runner ts s, length (tick_ends ts s mark)) → Listed o (tick_ends ts s mark) before after →
      Carries (kept_if o s (ticked ts mark (runner ts s) s)).clock (standing (kept_if o s (ticked ts mark (runner ts s) s)) k) (heard (at ts k) k q (tick mark before answer after))
  tick_carries s h q c mark before answer after (Some d) f e m = rw e c
  tick_carries s h q c mark before answer after None f e m =
      rw (
        e,
        (ticked_same ts grp.lawful s (always_full (by_rank ts) ts places grp r.1) (always_sound (by_rank ts) ts places grp r.1) mark (runner ts s)).loops k task,
        told_way ts s mark (runner ts s) (length ts) (take (length (tick_ends ts s mark)) after) m.front k task,
      )
      (record { agrees = follows.agrees; holds = rw follows.past (keep.at_tick r.0 s r.1 mark (past_of q) c.holds (fate_of (λ i. at ts i) (flow s) mark (runner ts s) k) refl) })
    where
      r : Startable ts × Reached (by_rank ts) ts places s
      r = led_started ts places s h (tick_started ts s mark (length before) f)

      follows : Follows (at ts k) s.clock (is_running (runner ts s) k) mark (standing s k) (fate_of (λ i. at ts i) (flow s) mark (runner ts s) k) (past_of q)
          (tick_heard (at ts k) (is_running (runner ts s) k) (way_of (at ts k) s.clock (is_running (runner ts s) k) mark (slot_of s k)) q)
      follows = tick_follows (at ts k) s.clock (is_running (runner ts s) k) mark (standing s k) q (always_sound (by_rank ts) ts places grp r.1 k task) c.agrees

  start_carries : (s : State) (q : Reading) → Carries s.clock (standing s k) q → (o : Option Denial) → Carries (kept_if o s (state.started_state s)).clock (standing (kept_if o s (state.started_state s)) k) q
  start_carries s q c None = c
  start_carries s q c (Some d) = c

  pub carries : (cs : List Call) → Trace ts places cs → Carries (state_after ts places cs).clock (standing (state_after ts places cs) k) (reading ts places cs k)
  carries [] tr = rw (seated_new places k) (record { agrees = record { position = refl; slot = refl }; holds = keep.at_new (place places k) })
  carries (start before answer after ∷ cs) tr = start_carries (state_after ts places cs) (reading ts places cs k) (carries cs tr.1) (start_fault (state_after ts places cs).started (length before) ts)
  carries (release i answer ∷ cs) tr = release_carries (state_after ts places cs) (led ts places cs) (reading ts places cs k) (carries cs tr.1) i answer (release_fault ts (state_after ts places cs) i) refl tr.0
  carries (tick mark before answer after ∷ cs) tr =
      tick_carries (state_after ts places cs) (led ts places cs) (reading ts places cs k) (carries cs tr.1) mark before answer after (tick_fault ts (state_after ts places cs) mark (length before)) refl tr.0.0 tr.0.1
  carries (resume i answer ∷ cs) tr = resume_carries (state_after ts places cs) (led ts places cs) (reading ts places cs k) (carries cs tr.1) i answer (resume_fault ts (state_after ts places cs) i) refl tr.0
  carries (ask_clock answer ∷ cs) tr = carries cs tr.1
  carries (ask_slot i answer ∷ cs) tr = carries cs tr.1
  carries (ask_bound i c answer ∷ cs) tr = carries cs tr.1
  carries (ask_next answer ∷ cs) tr = carries cs tr.1
  carries (ask_expiry answer ∷ cs) tr = carries cs tr.1
