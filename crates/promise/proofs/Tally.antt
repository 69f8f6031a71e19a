-- One task in a window of time that began at `from`: how many of its jobs were released since, and what they may have used.
use Rattle.std.proofs.Common.{◌≡◌, ℕ, suc, ◌+◌, ◌-◌, ◌*◌, ◌<◌, ◌≤◌, min, Bool, true, false, cond, ◌⊎◌, List, [], ◌∷◌, length, refl, ap, inl, inr, arith}
use Rattle.group.specs.declared.meaning.Outcome.{Outcome}
use Rattle.group.specs.declared.meaning.Outcome.TheVariants.{Finish, Miss}
use Rattle.group.specs.Task.{Task, terms_of, after, along, Lawful, Position}
use Rattle.dispatcher.specs.declared.slot.Slot.{Slot}
use Rattle.dispatcher.specs.declared.slot.Slot.TheVariants.{Empty, Pending, Halted}
use Rattle.dispatcher.specs.declared.end.Way.{Way}
use Rattle.dispatcher.specs.declared.end.Way.TheVariants.{Finished, Cut, Late}
use Rattle.dispatcher.specs.State.{Standing}
use Rattle.dispatcher.specs.Sound.{Job, SlotSound, Sound, ready_at}
use Rattle.dispatcher.proofs.Sounds.{IsHalted, released, resumed}
use Rattle.promise.specs.Window.{busy, weight, Enough}
use Rattle.dispatcher.proofs.Fates.{Fate, judged, fate, fated, vacated, Judged, judged_is}
use Rattle.dispatcher.proofs.Fates.Fate.{nothing, going, ended}
use Rattle.dispatcher.proofs.Fates.Judged.{by_finish, by_cut, by_age, goes_on}

-- a succession of jobs: how many, the weights of their classes together, and the position after them
pub data Trail (t : Task) (weight : ℕ → ℕ) : ℕ → ℕ → ℕ → Type 0 where
  here : (x : ℕ) → Position t x → Trail t weight 0 0 x
  then : {m b x : ℕ} → Trail t weight m b x → (o : Outcome) → Trail t weight (suc m) (b + weight (t.class_at x)) (after t o x)

-- it is a list of outcomes from some position on
pub listed : {t : Task} {weight : ℕ → ℕ} {m b x : ℕ} → Trail t weight m b x → (os : List Outcome) →
    (y : ℕ) × (os' : List Outcome) × Position t y × (length os' ≡ m + length os) × (along t weight y os' ≡ b + along t weight x os)
listed {t} {weight} (here x h) os = (x, os, h, omega arith, omega arith)
listed {t} {weight} (then {m} {b} {x} tr o) os =
    let q = listed tr (o ∷ os) in
    (q.0, q.1, q.2, omega (arith, q.3), omega (arith, q.4))

-- is the job of a counted class still there after the run step, to go on or to be late?
abbrev pub lasts : (ℕ → Bool) → Fate → Bool
lasts counts nothing = false
lasts counts (going c r u) = counts c
lasts counts (ended c Finished a u) = false
lasts counts (ended c Cut a u) = false
lasts counts (ended c Late a u) = counts c

-- a tick given to a counted job
abbrev pub gain : Bool → Bool → ℕ
gain runs true = cond runs 1 0
gain runs false = 0

-- the jobs released since the window began, `here` of which (0 or 1) is pending and has used `part` of its weight
pub record Since (t : Task) (counts : ℕ → Bool) (from ready x one part spent : ℕ) : Type 0 where
  pub done : ℕ
  pub budgets : ℕ
  pub trail : Trail t (weight t counts) done budgets x
  pub within : spent ≤ budgets + part
  pub spaced : (done + one) * t.gap ≤ ready - from

-- a job released before the window began is not counted, and nothing was spent since
pub record Older (counts : ℕ → Bool) (from r c spent : ℕ) : Type 0 where
  pub before : r < from
  pub aside : counts c ≡ false
  pub none_spent : spent ≡ 0

pub record Newer (t : Task) (counts : ℕ → Bool) (from ready x r c u spent : ℕ) : Type 0 where
  pub from_on : from ≤ r
  pub since : Since t counts from ready x 1 (min u (weight t counts c)) spent

abbrev pub SlotTally : Task → (ℕ → Bool) → (from ready x spent : ℕ) → Slot → Type 0
SlotTally t counts from ready x spent Empty = Since t counts from ready x 0 0 spent
SlotTally t counts from ready x spent (Pending c r u) = Older counts from r c spent ⊎ Newer t counts from ready x r c u spent
SlotTally t counts from ready x spent Halted = Since t counts from ready x 0 0 spent

abbrev pub Tally : Task → (ℕ → Bool) → ℕ → Standing → ℕ → Type 0
Tally t counts from l spent = SlotTally t counts from (ready_at t l) l.position spent l.seat.slot

-- The tally is kept ---------------------------------------------------------------------------------------------------------

-- what a tick adds to a counted job's part
part_ends : (b u : ℕ) (counted runs : Bool) → u < b → min u (cond counted b 0) + gain runs counted ≤ cond counted b 0
part_ends b u true true h = omega arith
part_ends b u true false h = omega arith
part_ends b u false runs h = omega arith

part_goes : (b u v : ℕ) (counted runs : Bool) → u < b → v < b → v ≡ u + cond runs 1 0 → min u (cond counted b 0) + gain runs counted ≤ min v (cond counted b 0)
part_goes b u v true runs h k e = omega arith
part_goes b u v false runs h k e = omega arith

part_lasts : (b u v : ℕ) (counted runs : Bool) → counted ≡ true → v < b → v ≡ u + cond runs 1 0 → min u (cond counted b 0) + gain runs counted < cond counted b 0
part_lasts b u v true runs q k e = omega arith
part_lasts b u v false runs q k e = grind arith

gain_none : (runs counted : Bool) → counted ≡ false → gain runs counted ≡ 0
gain_none runs counted e = rw e

pub tally_vacated : (t : Task) (counts : ℕ → Bool) (from ready x spent c : ℕ) (w : Way) →
    Since t counts from ready x 0 0 spent → SlotTally t counts from ready x spent (vacated t c w)
tally_vacated t counts from ready x spent c Finished s = s
tally_vacated t counts from ready x spent c Cut s = at (terms_of t c).tolerated
  where
    at : (b : Bool) → SlotTally t counts from ready x spent (cond b Empty Halted)
    at true = s
    at false = s
tally_vacated t counts from ready x spent c Late s = at (terms_of t c).tolerated
  where
    at : (b : Bool) → SlotTally t counts from ready x spent (cond b Empty Halted)
    at true = s
    at false = s

module _ (t : Task) (counts : ℕ → Bool) (from clock : ℕ) (runs mark : Bool) (law : Lawful t) where
  -- a job released in the window has ended
  one_more : (ready x c r u spent : ℕ) (o : Outcome) → Job t clock ready x c r u → Newer t counts from ready x r c u spent →
      Since t counts from ready (after t o x) 0 0 (spent + gain runs (counts c))
  one_more ready x c r u spent o j n =
      let s = n.since in
      let p = part_ends (terms_of t c).budget u (counts c) runs j.under in
      let e : weight t counts c ≡ weight t counts (t.class_at x) = ap (weight t counts) j.class in
      record {
        done = suc s.done;
        budgets = s.budgets + weight t counts (t.class_at x);
        trail = then s.trail o;
        within = omega arith;
        spaced = omega (arith, s.spaced);
      }

  -- a job released before it has ended
  anew : (ready x c r spent : ℕ) → Position t x → Older counts from r c spent → Since t counts from ready x 0 0 (spent + gain runs (counts c))
  anew ready x c r spent at o =
      let g : gain runs (counts c) ≡ 0 = gain_none runs (counts c) o.aside in
      record { done = 0; budgets = 0; trail = here x at; within = omega (arith, g, o.none_spent); spaced = omega arith }

  ended_tally : (ready x c r u spent : ℕ) (o : Outcome) → Position t x → Job t clock ready x c r u → Older counts from r c spent ⊎ Newer t counts from ready x r c u spent →
      Since t counts from ready (after t o x) 0 0 (spent + gain runs (counts c))
  ended_tally ready x c r u spent o h j (inl old) = anew ready (after t o x) c r spent (law.moves x o h) old
  ended_tally ready x c r u spent o h j (inr new) = one_more ready x c r u spent o j new

  going_tally : (ready x c r u v spent : ℕ) → Job t clock ready x c r u → v ≡ u + cond runs 1 0 → v < (terms_of t c).budget →
      Older counts from r c spent ⊎ Newer t counts from ready x r c u spent →
      Older counts from r c (spent + gain runs (counts c)) ⊎ Newer t counts from ready x r c v (spent + gain runs (counts c))
  going_tally ready x c r u v spent j e m (inl old) =
      let g : gain runs (counts c) ≡ 0 = gain_none runs (counts c) old.aside in
      inl (record { before = old.before; aside = old.aside; none_spent = omega (arith, g, old.none_spent) })
  going_tally ready x c r u v spent j e m (inr new) =
      let s = new.since in
      let p = part_goes (terms_of t c).budget u v (counts c) runs j.under m e in
      inr (record { from_on = new.from_on; since = record { done = s.done; budgets = s.budgets; trail = s.trail; within = omega arith; spaced = s.spaced } })

  tally_judged : (l : Standing) (c r u spent : ℕ) → Position t l.position → Job t clock (ready_at t l) l.position c r u →
      Older counts from r c spent ⊎ Newer t counts from (ready_at t l) l.position r c u spent →
      (f : Fate) → Judged runs mark (terms_of t c).budget t.gap (clock + 1 - r) c r u f → Tally t counts from (fated t l f) (spent + gain runs (counts c))
  tally_judged l c r u spent h j k f (by_finish e) = ended_tally (ready_at t l) l.position c r u spent Finish h j k
  tally_judged l c r u spent h j k f (by_cut e v) =
      tally_vacated t counts from (ready_at t l) (t.after_miss l.position) (spent + gain runs (counts c)) c Cut (ended_tally (ready_at t l) l.position c r u spent Miss h j k)
  tally_judged l c r u spent h j k f (by_age v e m a) =
      tally_vacated t counts from (ready_at t l) (t.after_miss l.position) (spent + gain runs (counts c)) c Late (ended_tally (ready_at t l) l.position c r u spent Miss h j k)
  tally_judged l c r u spent h j k f (goes_on v e m a) = going_tally (ready_at t l) l.position c r u v spent j e (m j.under) k

  idle_since : (ready x spent : ℕ) → Since t counts from ready x 0 0 spent → Since t counts from ready x 0 0 (spent + 0)
  idle_since ready x spent s = record { done = s.done; budgets = s.budgets; trail = s.trail; within = omega (arith, s.within); spaced = s.spaced }

  pub tally_tick : (l : Standing) (spent : ℕ) → Sound t clock l → Tally t counts from l spent →
      Tally t counts from (fated t l (fate t clock runs mark l.seat.slot)) (spent + gain runs (busy counts l.seat.slot))
  tally_tick l spent s k = at l.seat.slot s.job k refl
    where
      at : (sl : Slot) → SlotSound t clock (ready_at t l) l.position sl → SlotTally t counts from (ready_at t l) l.position spent sl → l.seat.slot ≡ sl →
          Tally t counts from (fated t l (fate t clock runs mark sl)) (spent + gain runs (busy counts sl))
      at Empty j q e = rw e (idle_since (ready_at t l) l.position spent q)
      at (Pending c r u) j q e = tally_judged l c r u spent s.placed j q (judged runs mark (terms_of t c).budget t.gap (clock + 1 - r) c r u) (judged_is runs mark (terms_of t c).budget t.gap (clock + 1 - r) c r u)
      at Halted j q e = rw e (idle_since (ready_at t l) l.position spent q)

pub tally_release : (t : Task) (counts : ℕ → Bool) (from clock : ℕ) (l : Standing) (spent : ℕ) → Sound t clock l → from ≤ clock →
    ¬ IsHalted l.seat.slot → (ready_at t l) ≤ clock → Tally t counts from l spent → Tally t counts from (released t clock l) spent
tally_release t counts from clock l spent s w nh rd k = at l.seat.slot s.job k nh
  where
    at : (sl : Slot) → SlotSound t clock (ready_at t l) l.position sl → SlotTally t counts from (ready_at t l) l.position spent sl → ¬ IsHalted sl →
        Tally t counts from (released t clock l) spent
    at Empty j q nh = inr (record { from_on = w; since = record { done = q.done; budgets = q.budgets; trail = q.trail; within = omega (arith, q.within); spaced = omega (arith, q.spaced) } })
    at (Pending c r u) j q nh = absurd (omega (arith, j.gate, j.alive))
    at Halted j q nh = absurd (nh tt)

pub tally_resume : (t : Task) (counts : ℕ → Bool) (from : ℕ) (l : Standing) (spent : ℕ) → IsHalted l.seat.slot → Tally t counts from l spent → Tally t counts from (resumed l) spent
tally_resume t counts from l spent h k = at l.seat.slot h k
  where
    at : (sl : Slot) → IsHalted sl → SlotTally t counts from (ready_at t l) l.position spent sl → Tally t counts from (resumed l) spent
    at Empty h q = absurd h
    at (Pending c r u) h q = absurd h
    at Halted h q = q

-- a window begins where no counted job is pending
pub tally_opens : (t : Task) (counts : ℕ → Bool) (clock : ℕ) (l : Standing) → Sound t clock l → busy counts l.seat.slot ≡ false → Tally t counts clock l 0
tally_opens t counts clock l s b = at l.seat.slot s.job b
  where
    new : (ready : ℕ) → Since t counts clock ready l.position 0 0 0
    new ready = record { done = 0; budgets = 0; trail = here l.position s.placed; within = omega arith; spaced = omega arith }

    at : (sl : Slot) → SlotSound t clock (ready_at t l) l.position sl → busy counts sl ≡ false → SlotTally t counts clock (ready_at t l) l.position 0 sl
    at Empty j e = new (ready_at t l)
    at (Pending c r u) j e =
        elim (order r clock j.past) [
          | inl h ↦ inl (record { before = h; aside = e; none_spent = refl })
          | inr h ↦ inr (record { from_on = omega arith; since = record { done = 0; budgets = 0; trail = here l.position s.placed; within = omega arith; spaced = omega (arith, j.gate) } })
        ]
      where
        order : (a b : ℕ) → a ≤ b → (a < b) ⊎ (a ≡ b)
        order a b h = grind arith
    at Halted j e = new (ready_at t l)

-- What a task can have spent ------------------------------------------------------------------------------------------------

module _ (t : Task) (counts : ℕ → Bool) (from clock R need : ℕ) (runs mark : Bool) (begun : from ≤ clock) (running : clock < from + R)
    (gap_low : 1 ≤ t.gap) (enough : Enough t counts R need) where
  enough_trail : (m b x : ℕ) → Trail t (weight t counts) m b x → m * t.gap < R + t.gap → b ≤ need
  enough_trail m b x tr h =
      let q = listed tr [] in
      let len : length q.1 ≡ m = omega (arith, q.3) in
      omega (arith, enough q.0 q.1 q.2 (rw len h), q.4)

  limit_judged : (ready x c r u spent : ℕ) → ready ≤ clock + t.gap → Job t clock ready x c r u →
      Older counts from r c spent ⊎ Newer t counts from ready x r c u spent →
      (f : Fate) → Judged runs mark (terms_of t c).budget t.gap (clock + 1 - r) c r u f →
      (spent + gain runs (counts c) ≤ need) × (lasts counts f ≡ true → spent + gain runs (counts c) < need)
  limit_judged ready x c r u spent rd j (inl old) f q = (omega (arith, g, old.none_spent), λ e. absurd (no f q e))
    where
      g : gain runs (counts c) ≡ 0
      g = gain_none runs (counts c) old.aside

      clash : (b : Bool) → b ≡ true → b ≡ false → ⊥
      clash b e e' = grind arith

      no : (f : Fate) → Judged runs mark (terms_of t c).budget t.gap (clock + 1 - r) c r u f → lasts counts f ≡ true → ⊥
      no f (by_finish e) h = clash false h refl
      no f (by_cut e v) h = clash false h refl
      no f (by_age v e m a) h = clash (counts c) h old.aside
      no f (goes_on v e m a) h = clash (counts c) h old.aside
  limit_judged ready x c r u spent rd j (inr new) f q = (omega (arith, p), λ e. last f q e)
    where
      s : Since t counts from ready x 1 (min u (weight t counts c)) spent
      s = new.since

      same : weight t counts c ≡ weight t counts (t.class_at x)
      same = ap (weight t counts) j.class

      all : s.budgets + weight t counts c ≤ need
      all = rw same (enough_trail (suc s.done) (s.budgets + weight t counts (t.class_at x)) (t.after_finish x) (then s.trail Finish) (omega (arith, s.spaced)))

      p : spent + gain runs (counts c) ≤ need
      p = omega (arith, all, part_ends (terms_of t c).budget u (counts c) runs j.under, s.within)

      clash : false ≡ true → ⊥
      clash e = grind arith

      last : (f : Fate) → Judged runs mark (terms_of t c).budget t.gap (clock + 1 - r) c r u f → lasts counts f ≡ true → spent + gain runs (counts c) < need
      last f (by_finish e) h = absurd (clash h)
      last f (by_cut e v) h = absurd (clash h)
      last f (by_age v e m a) h = omega (arith, all, part_lasts (terms_of t c).budget u v (counts c) runs h (m j.under) e, s.within)
      last f (goes_on v e m a) h = omega (arith, all, part_lasts (terms_of t c).budget u v (counts c) runs h (m j.under) e, s.within)

  pub limit : (l : Standing) (spent : ℕ) → Sound t clock l → Tally t counts from l spent →
      (spent + gain runs (busy counts l.seat.slot) ≤ need) × (lasts counts (fate t clock runs mark l.seat.slot) ≡ true → spent + gain runs (busy counts l.seat.slot) < need)
  limit l spent s k = at l.seat.slot s.job k
    where
      clash : false ≡ true → ⊥
      clash e = grind arith

      rest : Since t counts from (ready_at t l) l.position 0 0 spent → spent ≤ need
      rest q = omega (arith, enough_trail q.done q.budgets l.position q.trail (omega (arith, q.spaced, s.soon)), q.within)

      at : (sl : Slot) → SlotSound t clock (ready_at t l) l.position sl → SlotTally t counts from (ready_at t l) l.position spent sl →
          (spent + gain runs (busy counts sl) ≤ need) × (lasts counts (fate t clock runs mark sl) ≡ true → spent + gain runs (busy counts sl) < need)
      at Empty j q = (omega (arith, rest q), λ e. absurd (clash e))
      at (Pending c r u) j q = limit_judged (ready_at t l) l.position c r u spent s.soon j q (judged runs mark (terms_of t c).budget t.gap (clock + 1 - r) c r u) (judged_is runs mark (terms_of t c).budget t.gap (clock + 1 - r) c r u)
      at Halted j q = (omega (arith, rest q), λ e. absurd (clash e))
