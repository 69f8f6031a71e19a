-- Every accepted step keeps what holds of a task in every reached state.
use Rattle.std.proofs.Common.{◌≡◌, ℕ, ◌+◌, ◌-◌, ◌≤◌, Bool, true, false, cond, Some, None, Option, refl, arith}
use Rattle.group.specs.declared.meaning.Outcome.TheVariants.{Finish, Miss}
use Rattle.group.specs.Task.{Task, terms_of, Lawful, Position}
use Rattle.dispatcher.specs.declared.slot.Slot.{Slot}
use Rattle.dispatcher.specs.declared.slot.Slot.TheVariants.{Empty, Pending, Halted}
use Rattle.dispatcher.specs.declared.end.Way.{Way}
use Rattle.dispatcher.specs.declared.end.Way.TheVariants.{Finished, Cut, Late}
use Rattle.dispatcher.specs.Slots.{is_halted}
use Rattle.dispatcher.specs.State.{Standing, stands, new_seat, release_one, resume_one, tick_one}
use Rattle.dispatcher.specs.Refusals.{seat_fault}
use Rattle.dispatcher.specs.Sound.{ready_of, ready_at, Job, SlotSound, Sound}
use Rattle.dispatcher.proofs.Fates.{Fate, judged, fate, fated, vacated, Judged, judged_is, tick_is_fated}
use Rattle.dispatcher.proofs.Fates.Judged.{by_finish, by_cut, by_age, goes_on}
use Rattle.dispatcher.proofs.Faults.{Takes, takes_from}

clash : (b : Bool) → b ≡ true → b ≡ false → ⊥
clash b e e' = grind arith

-- where a task stands after an accepted release or resume
abbrev pub released : Task → (clock : ℕ) → Standing → Standing
released t clock l = stands l.position (record { slot = Pending (t.class_at l.position) clock 0; last = Some clock })

abbrev pub resumed : Standing → Standing
resumed l = stands l.position (record { slot = Empty; last = l.seat.last })

abbrev pub IsHalted : Slot → Type 0
IsHalted Empty = ⊥
IsHalted (Pending c r u) = ⊥
IsHalted Halted = Unit {0}

-- One task's release and resume ---------------------------------------------------------------------------------------------

pub release_is : (t : Task) (clock : ℕ) (l : Standing) → Sound t clock l → Takes t.gap clock l.seat → release_one t clock l ≡ released t clock l
release_is t clock l s a = on l.position l.seat.last l.seat.slot s.job a.not_halted a.by_now
  where
    on : (x : ℕ) (last : Option ℕ) (sl : Slot) → SlotSound t clock (ready_of t.gap last) x sl → is_halted sl ≡ false → ready_of t.gap last ≤ clock →
        release_one t clock (stands x (record { slot = sl; last = last })) ≡ released t clock (stands x (record { slot = sl; last = last }))
    on x last Empty j h q = refl
    on x last (Pending c r u) j h q = absurd (omega (arith, j.gate, j.alive))
    on x last Halted j h q = absurd (clash true refl h)

pub resume_is : (l : Standing) → is_halted l.seat.slot ≡ true → resume_one l ≡ resumed l
resume_is l h = on l.position l.seat.last l.seat.slot h
  where
    on : (x : ℕ) (last : Option ℕ) (sl : Slot) → is_halted sl ≡ true → resume_one (stands x (record { slot = sl; last = last })) ≡ resumed (stands x (record { slot = sl; last = last }))
    on x last Empty h = absurd (clash false h refl)
    on x last (Pending c r u) h = absurd (clash false h refl)
    on x last Halted h = refl

pub halted_is : (sl : Slot) → is_halted sl ≡ true → IsHalted sl
halted_is Empty h = absurd (clash false h refl)
halted_is (Pending c r u) h = absurd (clash false h refl)
halted_is Halted h = tt

pub not_halted_is : (sl : Slot) → is_halted sl ≡ false → ¬ IsHalted sl
not_halted_is Empty h = λ z. z
not_halted_is (Pending c r u) h = λ z. z
not_halted_is Halted h = absurd (clash true refl h)

-- Sound is kept -------------------------------------------------------------------------------------------------------------

sound_vacated : (t : Task) (clock ready x c : ℕ) (w : Way) → SlotSound t clock ready x (vacated t c w)
sound_vacated t clock ready x c Finished = tt
sound_vacated t clock ready x c Cut = at (terms_of t c).tolerated
  where
    at : (b : Bool) → SlotSound t clock ready x (cond b Empty Halted)
    at true = tt
    at false = tt
sound_vacated t clock ready x c Late = at (terms_of t c).tolerated
  where
    at : (b : Bool) → SlotSound t clock ready x (cond b Empty Halted)
    at true = tt
    at false = tt

module _ (t : Task) (clock : ℕ) (runs mark : Bool) (law : Lawful t) where
  sound_judged : (l : Standing) (c r u : ℕ) → Position t l.position → (ready_at t l) ≤ clock + t.gap → Job t clock (ready_at t l) l.position c r u →
      (f : Fate) → Judged runs mark (terms_of t c).budget t.gap (clock + 1 - r) c r u f → Sound t (clock + 1) (fated t l f)
  sound_judged l c r u x h j f (by_finish e) = record { placed = law.moves l.position Finish x; soon = omega arith; job = tt }
  sound_judged l c r u x h j f (by_cut e v) = record { placed = law.moves l.position Miss x; soon = omega arith; job = sound_vacated t (clock + 1) (ready_at t l) (t.after_miss l.position) c Cut }
  sound_judged l c r u x h j f (by_age v e m a) = record { placed = law.moves l.position Miss x; soon = omega arith; job = sound_vacated t (clock + 1) (ready_at t l) (t.after_miss l.position) c Late }
  sound_judged l c r u x h j f (goes_on v e m a) =
      record { placed = x; soon = omega arith; job = record { class = j.class; under = m j.under; past = omega arith; alive = omega arith; gate = j.gate } }

  pub sound_tick : (l : Standing) → Sound t clock l → Sound t (clock + 1) (fated t l (fate t clock runs mark l.seat.slot))
  sound_tick l s = at l.seat.slot s.job refl
    where
      at : (sl : Slot) → SlotSound t clock (ready_at t l) l.position sl → l.seat.slot ≡ sl → Sound t (clock + 1) (fated t l (fate t clock runs mark sl))
      at Empty j e = record { placed = s.placed; soon = omega arith; job = rw e tt }
      at (Pending c r u) j e = sound_judged l c r u s.placed s.soon j (judged runs mark (terms_of t c).budget t.gap (clock + 1 - r) c r u) (judged_is runs mark (terms_of t c).budget t.gap (clock + 1 - r) c r u)
      at Halted j e = record { placed = s.placed; soon = omega arith; job = rw e tt }

pub sound_release : (t : Task) (clock : ℕ) (l : Standing) → Lawful t → Sound t clock l → Sound t clock (released t clock l)
sound_release t clock l law s =
    let g : 1 ≤ t.gap = law.gap_low in
    let b : 1 ≤ (terms_of t (t.class_at l.position)).budget = law.budget_low (t.class_at l.position) (law.classed l.position s.placed) in
    record { placed = s.placed; soon = omega arith; job = record { class = refl; under = omega arith; past = omega arith; alive = omega arith; gate = refl } }

pub sound_resume : (t : Task) (clock : ℕ) (l : Standing) → Sound t clock l → Sound t clock (resumed l)
sound_resume t clock l s = record { placed = s.placed; soon = s.soon; job = tt }

-- The dispatcher's own steps -------------------------------------------------------------------------------------------------

-- a task at a position of its own, with a new seat
pub sound_new : (t : Task) (x : ℕ) → Position t x → Sound t 0 (stands x new_seat)
sound_new t x h = record { placed = h; soon = omega arith; job = tt }

pub sound_tick_one : (t : Task) (clock : ℕ) (runs mark : Bool) (l : Standing) → Lawful t → Sound t clock l → Sound t (clock + 1) (tick_one t clock runs mark l)
sound_tick_one t clock runs mark l law s = rw (tick_is_fated t clock runs mark l) (sound_tick t clock runs mark law l s)

pub sound_release_one : (t : Task) (clock : ℕ) (l : Standing) → Lawful t → Sound t clock l → seat_fault t.gap clock l.seat ≡ None → Sound t clock (release_one t clock l)
sound_release_one t clock l law s e = rw (release_is t clock l s (takes_from t.gap clock l.seat law.gap_low e)) (sound_release t clock l law s)

pub sound_resume_one : (t : Task) (clock : ℕ) (l : Standing) → Sound t clock l → is_halted l.seat.slot ≡ true → Sound t clock (resume_one l)
sound_resume_one t clock l s h = rw (resume_is l h) (sound_resume t clock l s)
