-- The window theorem: under any rule of who runs, and for any choice of counted classes such that, where a counted job is pending,
-- a counted job runs, but for at most `spare` ticks of a window.
use Rattle.std.proofs.Common.{◌≡◌, ℕ, suc, ◌+◌, ◌-◌, ◌<◌, ◌≤◌, Bool, true, ◌⊎◌, List, [], length, Option, ◌∙◌, inl, inr, arith}
use Rattle.group.specs.Task.{Task, at, terms_of}
use Rattle.bounds.specs.Bound.{sum}
use Rattle.dispatcher.specs.declared.slot.Slot.TheVariants.{Pending}
use Rattle.dispatcher.specs.declared.end.Way.{Way}
use Rattle.dispatcher.specs.declared.end.Way.TheVariants.{Finished, Cut, Late}
use Rattle.dispatcher.specs.Slots.{used_after}
use Rattle.dispatcher.specs.State as state
use Rattle.dispatcher.specs.State.{State, standing, slot_of, new, started_state, ticked, is_running}
use Rattle.dispatcher.specs.Sound.{ready_at}
use Rattle.dispatcher.proofs.Sounds.{halted_is}
use Rattle.promise.specs.Promise.{SoundGroup}
use Rattle.promise.specs.Window.{Reached, busy, Course, Within, WindowTheorem}
use Rattle.promise.specs.Window.Reached.{begins, releases, ticks, resumes}
use Rattle.dispatcher.proofs.Seated.{length_seated, seated_new}
use Rattle.promise.proofs.Sums.{find}
use Rattle.dispatcher.proofs.Fates.{Ended, ended_was, way_fate}
use Rattle.dispatcher.proofs.Fates.Fate.{ended}
use Rattle.promise.proofs.Tally.{Older, Newer, lasts}
use Rattle.promise.proofs.Window.{Flow, Same, next, fate_of, clash, AllSound, sound_move, Calm, Window, calm_tick, window_opens, window_release, window_resume, window_lasts, window_tick, served, unserved, spends}
use Rattle.promise.proofs.Window.Move.{release, tick, resume}
use Rattle.dispatcher.proofs.Faults.{releases_from, resumes_from}
use Rattle.promise.proofs.Views.{flow, Full, free_of, released_same, resumed_same, ticked_same, released_full, resumed_full, ticked_full}

sound_same : (ts : ℕ → Task) (n : ℕ) (a b : Flow) → Same n a b → AllSound ts n a → AllSound ts n b
sound_same ts n a b q h i l = rw (q.clocks, q.loops i l) (h i l)

window_same : (ts : ℕ → Task) (n : ℕ) (counts : ℕ → ℕ → Bool) (R from lost : ℕ) (a b : Flow) → Same n a b → Window ts n counts R a from lost → Window ts n counts R b from lost
window_same ts n counts R from lost a b q w = record {
  spent = w.spent;
  begun = rw q.clocks w.begun;
  running = rw q.clocks w.running;
  each = λ i l. rw (q.loops i l) (w.each i l);
  covers = rw q.clocks w.covers;
}

calm_same : (counts : ℕ → ℕ → Bool) (n : ℕ) (a b : Flow) → Same n a b → Calm counts n a → Calm counts n b
calm_same counts n a b q h i l = rw (q.loops i l) (h i l)

-- every reached state has an entry for each task, and is sound task by task
module _ (rule : State → Option ℕ → Bool) (ts : List Task) (places : List ℕ) (grp : SoundGroup ts places) where
  pub always_full : {s : State} → Reached rule ts places s → Full ts s
  always_full begins = length_seated places [] ∙ grp.as_many
  always_full (releases {s = s} r k a) = released_full ts k s (always_full r)
  always_full (ticks {s = s} r mark ran a) = ticked_full ts mark ran s
  always_full (resumes {s = s} r k a) = resumed_full ts k s (always_full r)

  pub always_sound : {s : State} → Reached rule ts places s → AllSound (λ i. at ts i) (length ts) (flow s)
  always_sound begins = λ i l. rw (seated_new places i) (record { placed = grp.placed i l; soon = omega arith; job = tt })
  always_sound (releases {s = s} r k a) =
      sound_same (λ i. at ts i) (length ts) (next (λ i. at ts i) (flow s) (release k)) (flow (state.released ts k s))
      (released_same ts grp.lawful s (always_full r) (always_sound r) k (releases_from ts s k a))
      (sound_move (λ i. at ts i) (length ts) grp.lawful (flow s) (release k) (always_sound r))
  always_sound (ticks {s = s} r mark ran a) =
      sound_same (λ i. at ts i) (length ts) (next (λ i. at ts i) (flow s) (tick mark ran)) (flow (ticked ts mark ran s))
      (ticked_same ts grp.lawful s (always_full r) (always_sound r) mark ran)
      (sound_move (λ i. at ts i) (length ts) grp.lawful (flow s) (tick mark ran) (always_sound r))
  always_sound (resumes {s = s} r k a) =
      sound_same (λ i. at ts i) (length ts) (next (λ i. at ts i) (flow s) (resume k)) (flow (state.resumed k s))
      (resumed_same ts grp.lawful s (always_full r) (always_sound r) k (resumes_from ts s k a))
      (sound_move (λ i. at ts i) (length ts) grp.lawful (flow s) (resume k) (always_sound r))

-- a window that began at `from`, with so many ticks lost
pub record Open (ts : List Task) (counts : ℕ → ℕ → Bool) (R spare : ℕ) (owed : State → ℕ) (s : State) : Type 0 where
  pub from : ℕ
  pub lost : ℕ
  pub window : Window (λ i. at ts i) (length ts) counts R (flow s) from lost
  pub affords : lost + owed s ≤ spare

module _ (rule : State → Option ℕ → Bool) (ts : List Task) (places : List ℕ) (grp : SoundGroup ts places) (counts : ℕ → ℕ → Bool) (R spare : ℕ) (need : ℕ → ℕ)
    (owed : State → ℕ) (cr : Course rule ts places counts R spare need owed) where
  full_at : {s : State} → Reached rule ts places s → Full ts s
  full_at h = always_full rule ts places grp h

  sound_at : {s : State} → Reached rule ts places s → AllSound (λ i. at ts i) (length ts) (flow s)
  sound_at h = always_sound rule ts places grp h

  -- where a counted job is pending, the tick is paid for
  record Paid (s : State) (mark : Bool) (ran : Option ℕ) (w : Open ts counts R spare owed s) (sound : AllSound (λ i. at ts i) (length ts) (flow s)) : Type 0 where
    now_lost : ℕ
    still : now_lost + owed (ticked ts mark ran s) ≤ spare
    paid : s.clock + 1 ≤ w.from + (sum (length ts) (spends (λ i. at ts i) (length ts) counts R spare need grp.lawful cr.enough cr.fits (flow s) mark ran w.from w.lost sound w.window) + now_lost)

  pays : (s : State) (h : Reached rule ts places s) (mark : Bool) (ran : Option ℕ) → rule s ran ≡ true → (w : Open ts counts R spare owed s) →
      (j : ℕ) → j < length ts → busy (counts j) (slot_of s j) ≡ true → Paid s mark ran w (sound_at h)
  pays s h mark ran a w j l b = on (cr.at_tick s h mark ran a j l b)
    where
      on : ((r : ℕ) × (r < length ts) × (is_running ran r ≡ true) × (busy (counts r) (slot_of s r) ≡ true) × (owed (ticked ts mark ran s) ≤ owed s)) ⊎ (owed (ticked ts mark ran s) < owed s) →
          Paid s mark ran w (sound_at h)
      on (inl r) = record {
        now_lost = w.lost;
        still = omega (arith, r.4, w.affords);
        paid = served (λ i. at ts i) (length ts) counts R spare need grp.lawful cr.enough cr.fits (flow s) mark ran w.from w.lost (sound_at h) w.window r.0 r.1 r.2 r.3;
      }
      on (inr less) = record {
        now_lost = suc w.lost;
        still = omega (arith, less, w.affords);
        paid = unserved (λ i. at ts i) (length ts) counts R spare need grp.lawful cr.enough cr.fits (flow s) mark ran w.from w.lost (sound_at h) w.window;
      }

  anew : (s : State) → Reached rule ts places s → Calm counts (length ts) (flow s) → Open ts counts R spare owed s
  anew s h calm = record { from = s.clock; lost = 0; window = window_opens (λ i. at ts i) (length ts) counts R (flow s) cr.low (sound_at h) calm; affords = omega (arith, cr.most s h) }

  tick_open : (s : State) (h : Reached rule ts places s) (mark : Bool) (ran : Option ℕ) → rule s ran ≡ true →
      Open ts counts R spare owed s → Open ts counts R spare owed (ticked ts mark ran s)
  tick_open s h mark ran a w = on (find (length ts) (λ i. busy (counts i) (slot_of s i)))
    where
      same : Same (length ts) (next (λ i. at ts i) (flow s) (tick mark ran)) (flow (ticked ts mark ran s))
      same = ticked_same ts grp.lawful s (full_at h) (sound_at h) mark ran

      fresh : Calm counts (length ts) (next (λ i. at ts i) (flow s) (tick mark ran)) → Open ts counts R spare owed (ticked ts mark ran s)
      fresh calm = anew (ticked ts mark ran s) (ticks h mark ran a) (calm_same counts (length ts) (next (λ i. at ts i) (flow s) (tick mark ran)) (flow (ticked ts mark ran s)) same calm)

      on : Calm counts (length ts) (flow s) ⊎ ((i : ℕ) × (i < length ts) × (busy (counts i) (slot_of s i) ≡ true)) → Open ts counts R spare owed (ticked ts mark ran s)
      on (inl calm) = fresh (calm_tick (λ i. at ts i) (length ts) counts (flow s) mark ran calm)
      on (inr b) =
          let p = pays s h mark ran a w b.0 b.1 b.2 in
          elim (window_tick (λ i. at ts i) (length ts) counts R spare need grp.lawful cr.enough cr.fits (flow s) mark ran w.from w.lost (sound_at h) w.window p.now_lost (omega (arith, p.still)) p.paid) [
            | inl v ↦ record { from = w.from; lost = p.now_lost; window = window_same (λ i. at ts i) (length ts) counts R w.from p.now_lost (next (λ i. at ts i) (flow s) (tick mark ran)) (flow (ticked ts mark ran s)) same v; affords = p.still }
            | inr calm ↦ fresh calm
          ]

  pub always_open : {s : State} → Reached rule ts places s → Open ts counts R spare owed s
  always_open begins = anew (started_state (new places)) begins (λ i l. rw (seated_new places i))
  always_open (releases {s = s} h k a) =
      let w = always_open h in
      let f = releases_from ts s k a in
      record {
        from = w.from;
        lost = w.lost;
        window = window_same (λ i. at ts i) (length ts) counts R w.from w.lost (next (λ i. at ts i) (flow s) (release k)) (flow (state.released ts k s))
            (released_same ts grp.lawful s (full_at h) (sound_at h) k f)
            (window_release (λ i. at ts i) (length ts) counts R (flow s) w.from w.lost k (sound_at h) (free_of ts grp.lawful s (full_at h) (sound_at h) k f) w.window);
        affords = omega (arith, w.affords, cr.at_release s h k a);
      }
  always_open (ticks {s = s} h mark ran a) = tick_open s h mark ran a (always_open h)
  always_open (resumes {s = s} h k a) =
      let w = always_open h in
      let f = resumes_from ts s k a in
      record {
        from = w.from;
        lost = w.lost;
        window = window_same (λ i. at ts i) (length ts) counts R w.from w.lost (next (λ i. at ts i) (flow s) (resume k)) (flow (state.resumed k s))
            (resumed_same ts grp.lawful s (full_at h) (sound_at h) k f)
            (window_resume (λ i. at ts i) (length ts) counts R (flow s) w.from w.lost k (halted_is (slot_of s k) f.halted) w.window);
        affords = omega (arith, w.affords, cr.at_resume s h k a);
      }

  -- of a counted class c of task k
  module _ (k c : ℕ) (task : k < length ts) (own : counts k c ≡ true) (s : State) (reached : Reached rule ts places s) where
    -- a pending job was released in the window
    in_window : (w : Open ts counts R spare owed s) (r u : ℕ) → slot_of s k ≡ Pending c r u → w.from ≤ r
    in_window w r u e = on (rw e at (w.window.each k task))
      where
        on : Older (counts k) w.from r c (w.window.spent k) ⊎ Newer (at ts k) (counts k) w.from (ready_at (at ts k) (standing s k)) (standing s k).position r c u (w.window.spent k) → w.from ≤ r
        on (inl old) = absurd (clash (counts k c) own old.aside)
        on (inr new) = new.from_on

    younger : (r u : ℕ) → slot_of s k ≡ Pending c r u → s.clock - r < R
    younger r u e =
        let w = always_open reached in
        let a = in_window w r u e in
        let b = w.window.running in
        let d = cr.low in
        omega arith

    -- a job that is still there after the run step
    lasts_young : (mark : Bool) (ran : Option ℕ) → rule s ran ≡ true → (r u : ℕ) → slot_of s k ≡ Pending c r u →
        lasts (counts k) (fate_of (λ i. at ts i) (flow s) mark ran k) ≡ true → s.clock + 1 - r < R
    lasts_young mark ran fm r u e h =
        let w = always_open reached in
        let busy-k : busy (counts k) (slot_of s k) ≡ true = rw e own in
        let p = pays s reached mark ran fm w k task busy-k in
        let m = window_lasts (λ i. at ts i) (length ts) counts R spare need grp.lawful cr.enough cr.fits (flow s) mark ran w.from w.lost (sound_at reached) w.window p.now_lost (omega (arith, p.still)) p.paid k task h in
        let a = in_window w r u e in
        let d = cr.low in
        omega arith

    -- a job ends at an age of at most R, and is late only below R
    ends_by : (mark : Bool) (ran : Option ℕ) → rule s ran ≡ true → (way : Way) (age used : ℕ) → fate_of (λ i. at ts i) (flow s) mark ran k ≡ ended c way age used →
        (age ≤ R) × (way ≡ Late → (at ts k).gap < R)
    ends_by mark ran fm way age used h =
        let q = ended_was (at ts k) s.clock (is_running ran k) mark (slot_of s k) c way age used h in
        let a : s.clock - q.since < R = younger q.since q.used_before q.was in
        (omega (arith, q.aged_to), λ z. no q z)
      where
        no : Ended (at ts k) s.clock (slot_of s k) c way age used → way ≡ Late → (at ts k).gap < R
        no q z = on q.how
          where
            there : lasts (counts k) (fate_of (λ i. at ts i) (flow s) mark ran k) ≡ true
            there = rw (h, z) own

            on : (way ≡ Finished) ⊎ (((way ≡ Cut) × (used ≡ (terms_of (at ts k) c).budget)) ⊎ ((way ≡ Late) × (age ≡ (at ts k).gap))) → (at ts k).gap < R
            on (inl e) = let o : ◌≡◌ {A = ℕ} 0 1 = cc in omega arith
            on (inr (inl e)) = let f : way ≡ Cut = e.0 in let o : ◌≡◌ {A = ℕ} 0 1 = cc in omega arith
            on (inr (inr e)) =
                let m : s.clock + 1 - q.since < R = lasts_young mark ran fm q.since q.used_before q.was there in
                omega (arith, e.1, q.aged_to)

    pub within : Within rule ts R k c s
    within = record {
      younger = younger;
      ends = λ mark ran fm since used e way h.
          ends_by mark ran fm way (s.clock + 1 - since) (used_after (is_running ran k) used)
          (rw e (way_fate (at ts k) s.clock (is_running ran k) mark c since used way (rw e at h)));
    }

pub window_theorem : WindowTheorem
window_theorem rule ts places grp counts R spare need owed cr s reached k c task own = within rule ts places grp counts R spare need owed cr k c task own s reached
