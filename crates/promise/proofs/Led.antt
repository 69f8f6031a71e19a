-- Where a trace has led: not yet started, or to a reached state of a group that may be started.
use Rattle.std.proofs.Common.{◌≡◌, ℕ, Bool, true, false, not, ◌&&◌, leb, ◌⊎◌, List, [], ◌∷◌, length, Some, None, Option, sym, refl, ap, ◌∙◌, subst, inl, inr}
use Rattle.denial.specs.declared.Denial.{Denial}
use Rattle.denial.specs.declared.Rule.TheVariants.{NotStarted}
use Rattle.denial.specs.Numbers.{denied}
use Rattle.group.specs.Task.{Task}
use Rattle.admission.specs.Start.{start_fault, Startable}
use Rattle.choose.specs.Foremost.{IsForemost}
use Rattle.dispatcher.specs.Slots.{is_pending}
use Rattle.dispatcher.specs.State as state
use Rattle.dispatcher.specs.State.{State, new, started_state, waits, outranks, runner, ticked}
use Rattle.dispatcher.specs.Refusals.{release_fault, resume_fault, tick_fault, unstarted_fault, room_fault, kept_if}
use Rattle.promise.specs.Trace.{Call, state_after}
use Rattle.promise.specs.Trace.Call.{start, release, tick, resume, ask_clock, ask_slot, ask_bound, ask_next, ask_expiry}
use Rattle.promise.specs.Promise.{NoChoice}
use Rattle.promise.specs.Window.{Reached}
use Rattle.promise.specs.Window.Reached.{begins, releases, ticks, resumes}
use Rattle.bounds.proofs.Checked.{both_clear, when_clear}
use Rattle.dispatcher.proofs.Seated.{seated_new}
use Rattle.dispatcher.proofs.Faults.{releases_from, resumes_from, started_of}
use Rattle.promise.proofs.Window.{clash}
use Rattle.promise.proofs.Closed.{always_sound}
use Rattle.dispatcher.proofs.Foremosts.{runner_foremost}
use Rattle.promise.proofs.Bound.{by_rank, is_same, foremost_unique}
use Rattle.promise.proofs.Starts.{startable}

-- Where a trace has led -----------------------------------------------------------------------------------------------------

abbrev pub Led : List Task → List ℕ → State → Type 0
Led ts places s = (s ≡ new places) ⊎ (Startable ts × Reached (by_rank ts) ts places s)

always_started : (rule : State → Option ℕ → Bool) (ts : List Task) (places : List ℕ) {s : State} → Reached rule ts places s → s.started ≡ true
always_started rule ts places begins = refl
always_started rule ts places (releases r k a) = always_started rule ts places r
always_started rule ts places (ticks r mark ran a) = always_started rule ts places r
always_started rule ts places (resumes r k a) = always_started rule ts places r

-- a started state was reached
pub led_started : (ts : List Task) (places : List ℕ) (s : State) → Led ts places s → s.started ≡ true → Startable ts × Reached (by_rank ts) ts places s
led_started ts places s (inl e) h = absurd (clash s.started h (ap (λ z. z.started) e))
led_started ts places s (inr r) h = r

pub tick_started : (ts : List Task) (s : State) (mark : Bool) (room : ℕ) → tick_fault ts s mark room ≡ None → s.started ≡ true
tick_started ts s mark room e =
    started_of s.started (length ts) (when_clear (not (s.started && leb (length ts) 64)) (denied NotStarted 0 0)
    (both_clear (unstarted_fault s.started (length ts)) (room_fault s.clock mark (state.pending_count ts s) room) e).0)

module _ (ts : List Task) (places : List ℕ) where
  led_start : (s : State) → Led ts places s → (room : ℕ) (o : Option Denial) → start_fault s.started room ts ≡ o → Led ts places (kept_if o s (started_state s))
  led_start s h room None e =
      let q = startable s.started room ts e in
      inr (
        q.1,
        elim h [
          | inl z ↦ rw z begins
          | inr r ↦ absurd (clash s.started (always_started (by_rank ts) ts places r.1) q.0)
        ],
      )
  led_start s h room (Some d) e = h

  led_release : (s : State) → Led ts places s → (k : ℕ) (o : Option Denial) → release_fault ts s k ≡ o → Led ts places (kept_if o s (state.released ts k s))
  led_release s h k None e = let r = led_started ts places s h (releases_from ts s k e).started in inr (r.0, releases r.1 k e)
  led_release s h k (Some d) e = h

  led_tick : (s : State) → Led ts places s → (mark : Bool) (room : ℕ) (o : Option Denial) → tick_fault ts s mark room ≡ o → Led ts places (kept_if o s (ticked ts mark (runner ts s) s))
  led_tick s h mark room None e = let r = led_started ts places s h (tick_started ts s mark room e) in inr (r.0, ticks r.1 mark (runner ts s) (is_same (runner ts s)))
  led_tick s h mark room (Some d) e = h

  led_resume : (s : State) → Led ts places s → (k : ℕ) (o : Option Denial) → resume_fault ts s k ≡ o → Led ts places (kept_if o s (state.resumed k s))
  led_resume s h k None e = let r = led_started ts places s h (resumes_from ts s k e).started in inr (r.0, resumes r.1 k e)
  led_resume s h k (Some d) e = h

  pub led : (cs : List Call) → Led ts places (state_after ts places cs)
  led [] = inl refl
  led (start before answer after ∷ cs) =
      led_start (state_after ts places cs) (led cs) (length before) (start_fault (state_after ts places cs).started (length before) ts) refl
  led (release k answer ∷ cs) = led_release (state_after ts places cs) (led cs) k (release_fault ts (state_after ts places cs) k) refl
  led (tick mark before answer after ∷ cs) =
      led_tick (state_after ts places cs) (led cs) mark (length before) (tick_fault ts (state_after ts places cs) mark (length before)) refl
  led (resume k answer ∷ cs) = led_resume (state_after ts places cs) (led cs) k (resume_fault ts (state_after ts places cs) k) refl
  led (ask_clock answer ∷ cs) = led cs
  led (ask_slot k answer ∷ cs) = led cs
  led (ask_bound k c answer ∷ cs) = led cs
  led (ask_next answer ∷ cs) = led cs
  led (ask_expiry answer ∷ cs) = led cs

-- Who runs ------------------------------------------------------------------------------------------------------------------

-- before the start no job is pending
pub none_waits : (places : List ℕ) (s : State) → s ≡ new places → (i : ℕ) → waits s i ≡ false
none_waits places s e i = subst (λ z. waits z i ≡ false) (sym e) (ap (λ x. is_pending x.seat.slot) (seated_new places i))

idle_none : (present : ℕ → Bool) (ahead : ℕ → ℕ → Bool) (n : ℕ) → ((i : ℕ) → present i ≡ false) → (o : Option ℕ) → IsForemost present ahead n o → o ≡ None
idle_none present ahead n h None f = refl
idle_none present ahead n h (Some r) f = absurd (clash (present r) f.1 (h r))

pub no_choice : NoChoice
no_choice ts places grp cs tr = (runner_foremost ts (state_after ts places cs), λ ran f. same ran f (led ts places cs))
  where
    same : (ran : Option ℕ) → IsForemost (waits (state_after ts places cs)) (outranks ts (state_after ts places cs)) (length ts) ran → Led ts places (state_after ts places cs) →
        ran ≡ runner ts (state_after ts places cs)
    same ran f (inl e) =
        let idle = none_waits places (state_after ts places cs) e in
        idle_none (waits (state_after ts places cs)) (outranks ts (state_after ts places cs)) (length ts) idle ran f
        ∙ sym (idle_none (waits (state_after ts places cs)) (outranks ts (state_after ts places cs)) (length ts) idle (runner ts (state_after ts places cs)) (runner_foremost ts (state_after ts places cs)))
    same ran f (inr r) =
        foremost_unique ts places grp r.0 (state_after ts places cs) (always_sound (by_rank ts) ts places grp r.1) ran (runner ts (state_after ts places cs)) f (runner_foremost ts (state_after ts places cs))
