-- What a tick makes of one task: nothing, its job goes on, or it ends. The dispatcher's own steps, seen by cases.
use Rattle.std.proofs.Common.{◌≡◌, ℕ, ◌+◌, ◌-◌, ◌<◌, Bool, true, false, cond, eqb, ◌≢◌, ◌⊎◌, Some, None, Option, refl, inl, inr, arith}
use Rattle.group.specs.Task.{Task, terms_of, after}
use Rattle.dispatcher.specs.declared.slot.Slot.{Slot}
use Rattle.dispatcher.specs.declared.slot.Slot.TheVariants.{Empty, Pending, Halted}
use Rattle.dispatcher.specs.declared.end.Way.{Way}
use Rattle.dispatcher.specs.declared.end.Way.TheVariants.{Finished, Cut, Late}
use Rattle.dispatcher.specs.Slots.{ending, used_after, way_of, outcome_of, end_slot, run_slot}
use Rattle.dispatcher.specs.State.{Standing, stands, tick_one, settled_place}

-- what a tick does to a slot: nothing, the job goes on with so many ticks used, or it ends
pub data Fate : Type 0 where
  nothing : Fate
  going : (class released used : ℕ) → Fate
  ended : (class : ℕ) (way : Way) (age used : ℕ) → Fate

abbrev pub verdict : Option Way → (age class released used : ℕ) → Fate
verdict None age c r v = going c r v
verdict (Some w) age c r v = ended c w age v

-- the fate of a pending job; `used`: the ticks in which it ran before
abbrev pub judged : (runs mark : Bool) (budget gap age class released used : ℕ) → Fate
judged runs mark budget gap age c r u = verdict (ending runs mark budget gap age (used_after runs u)) age c r (used_after runs u)

abbrev pub fate : Task → (clock : ℕ) (runs mark : Bool) → Slot → Fate
fate t clock runs mark Empty = nothing
fate t clock runs mark (Pending c r u) = judged runs mark (terms_of t c).budget t.gap (clock + 1 - r) c r u
fate t clock runs mark Halted = nothing

-- the slot after an end
abbrev pub vacated : Task → (class : ℕ) → Way → Slot
vacated t c Finished = Empty
vacated t c Cut = cond (terms_of t c).tolerated Empty Halted
vacated t c Late = cond (terms_of t c).tolerated Empty Halted

-- where a task stands after its fate
abbrev pub fated : Task → Standing → Fate → Standing
fated t l nothing = l
fated t l (going c r u) = stands l.position (record { slot = Pending c r u; last = l.seat.last })
fated t l (ended c w a u) = stands (after t (outcome_of w) l.position) (record { slot = vacated t c w; last = l.seat.last })

-- the four fates of a job, each with what was tested
pub data Judged (runs mark : Bool) (budget gap age c r u : ℕ) : Fate → Type 0 where
  by_finish : runs ≡ true → Judged runs mark budget gap age c r u (ended c Finished age (u + 1))
  by_cut : runs ≡ true → u + 1 ≡ budget → Judged runs mark budget gap age c r u (ended c Cut age (u + 1))
  by_age : (v : ℕ) → v ≡ u + cond runs 1 0 → (u < budget → v < budget) → age ≡ gap → Judged runs mark budget gap age c r u (ended c Late age v)
  goes_on : (v : ℕ) → v ≡ u + cond runs 1 0 → (u < budget → v < budget) → age ≢ gap → Judged runs mark budget gap age c r u (going c r v)

pub judged_is : (runs mark : Bool) (budget gap age c r u : ℕ) → Judged runs mark budget gap age c r u (judged runs mark budget gap age c r u)
judged_is true true budget gap age c r u = by_finish refl
judged_is true false budget gap age c r u = at (eqb (u + 1) budget) refl (eqb age gap) refl
  where
    at : (x : Bool) → eqb (u + 1) budget ≡ x → (y : Bool) → eqb age gap ≡ y →
        Judged true false budget gap age c r u (verdict (cond x (Some Cut) (cond y (Some Late) None)) age c r (u + 1))
    at true e y f = by_cut refl (grind arith)
    at false e true f = by_age (u + 1) (omega arith) (grind arith) (grind arith)
    at false e false f = goes_on (u + 1) (omega arith) (grind arith) (grind arith)
judged_is false mark budget gap age c r u = at (eqb age gap) refl
  where
    at : (y : Bool) → eqb age gap ≡ y → Judged false mark budget gap age c r u (verdict (cond y (Some Late) None) age c r u)
    at true f = by_age u (omega arith) (omega arith) (grind arith)
    at false f = goes_on u (omega arith) (omega arith) (grind arith)

-- how a job can have ended
pub record Ended (t : Task) (clock : ℕ) (sl : Slot) (c : ℕ) (way : Way) (age used : ℕ) : Type 0 where
  pub since : ℕ
  pub used_before : ℕ
  pub was : sl ≡ Pending c since used_before
  pub aged_to : age ≡ clock + 1 - since
  pub how : (way ≡ Finished) ⊎ (((way ≡ Cut) × (used ≡ (terms_of t c).budget)) ⊎ ((way ≡ Late) × (age ≡ t.gap)))

pub ended_was : (t : Task) (clock : ℕ) (runs mark : Bool) (sl : Slot) (c : ℕ) (way : Way) (age used : ℕ) → fate t clock runs mark sl ≡ ended c way age used → Ended t clock sl c way age used
ended_was t clock runs mark Empty c way age used h = absurd (let z : ◌≡◌ {A = ℕ} 0 1 = cc in omega arith)
ended_was t clock runs mark Halted c way age used h = absurd (let z : ◌≡◌ {A = ℕ} 0 1 = cc in omega arith)
ended_was t clock runs mark (Pending d r u) c way age used h = told (judged runs mark (terms_of t d).budget t.gap (clock + 1 - r) d r u) (judged_is runs mark (terms_of t d).budget t.gap (clock + 1 - r) d r u) h
  where
    told : (f : Fate) → Judged runs mark (terms_of t d).budget t.gap (clock + 1 - r) d r u f → f ≡ ended c way age used → Ended t clock (Pending d r u) c way age used
    told f (by_finish x) q = record { since = r; used_before = u; was = cc; aged_to = cc; how = inl (cc) }
    told f (by_cut x y) q =
        let e : used ≡ u + 1 = cc in
        let same : c ≡ d = cc in
        record { since = r; used_before = u; was = cc; aged_to = cc; how = inr (inl (cc, cc)) }
    told f (by_age v x y z) q = record { since = r; used_before = u; was = cc; aged_to = cc; how = inr (inr (cc, cc)) }
    told f (goes_on v x y z) q = absurd (let o : ◌≡◌ {A = ℕ} 0 1 = cc in omega arith)

-- a tick of one task is its fate
pub tick_is_fated : (t : Task) (clock : ℕ) (runs mark : Bool) (l : Standing) → tick_one t clock runs mark l ≡ fated t l (fate t clock runs mark l.seat.slot)
tick_is_fated t clock runs mark l = at runs l.position l.seat.last l.seat.slot
  where
    moved : (runs : Bool) (x : ℕ) (last : Option ℕ) (c r u : ℕ) (w : Option Way) →
        stands (settled_place t w x) (record { slot = end_slot (run_slot runs (Pending c r u)) w (terms_of t c).tolerated; last = last })
        ≡ fated t (stands x (record { slot = Pending c r u; last = last })) (verdict w (clock + 1 - r) c r (used_after runs u))
    moved true x last c r u None = refl
    moved true x last c r u (Some Finished) = refl
    moved true x last c r u (Some Cut) = refl
    moved true x last c r u (Some Late) = refl
    moved false x last c r u None = refl
    moved false x last c r u (Some Finished) = refl
    moved false x last c r u (Some Cut) = refl
    moved false x last c r u (Some Late) = refl

    at : (runs : Bool) (x : ℕ) (last : Option ℕ) (sl : Slot) →
        tick_one t clock runs mark (stands x (record { slot = sl; last = last })) ≡ fated t (stands x (record { slot = sl; last = last })) (fate t clock runs mark sl)
    at true x last Empty = refl
    at false x last Empty = refl
    at runs x last (Pending c r u) = moved runs x last c r u (ending runs mark (terms_of t c).budget t.gap (clock + 1 - r) (used_after runs u))
    at true x last Halted = refl
    at false x last Halted = refl

-- how a job ends, and what it is then, by its fate
pub way_fate : (t : Task) (clock : ℕ) (runs mark : Bool) (c r u : ℕ) (w : Way) → way_of t clock runs mark (Pending c r u) ≡ Some w →
    fate t clock runs mark (Pending c r u) ≡ ended c w (clock + 1 - r) (used_after runs u)
way_fate t clock runs mark c r u w e = rw e

pub fate_way : (t : Task) (clock : ℕ) (runs mark : Bool) (sl : Slot) (c : ℕ) (w : Way) (a u : ℕ) → fate t clock runs mark sl ≡ ended c w a u → way_of t clock runs mark sl ≡ Some w
fate_way t clock runs mark Empty c w a u e = absurd (let z : ◌≡◌ {A = ℕ} 0 1 = cc in omega arith)
fate_way t clock runs mark (Pending d r v) c w a u e = on (ending runs mark (terms_of t d).budget t.gap (clock + 1 - r) (used_after runs v)) e
  where
    on : (o : Option Way) → verdict o (clock + 1 - r) d r (used_after runs v) ≡ ended c w a u → o ≡ Some w
    on None q = absurd (let z : ◌≡◌ {A = ℕ} 0 1 = cc in omega arith)
    on (Some x) q = cc
fate_way t clock runs mark Halted c w a u e = absurd (let z : ◌≡◌ {A = ℕ} 0 1 = cc in omega arith)
