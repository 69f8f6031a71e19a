-- The window theorem: when all jobs of a choice of counted classes end within R ticks of their release, under any rule of who
-- runs and with some ticks lost. Assumes nothing.
use Rattle.std.specs.Prelude.{◌≡◌, ℕ, ◌+◌, ◌-◌, ◌*◌, ◌<◌, ◌≤◌, Bool, true, false, cond, ◌⊎◌, List, length, Some, None, Option}
use Rattle.group.specs.declared.meaning.Outcome.{Outcome}
use Rattle.group.specs.Task.{Task, Position, along, at, terms_of}
use Rattle.bounds.specs.Bound.{sum}
use Rattle.dispatcher.specs.declared.slot.Slot.{Slot}
use Rattle.dispatcher.specs.declared.slot.Slot.TheVariants.{Empty, Pending, Halted}
use Rattle.dispatcher.specs.declared.end.Way.{Way}
use Rattle.dispatcher.specs.declared.end.Way.TheVariants.{Late}
use Rattle.dispatcher.specs.Slots.{way_of}
use Rattle.dispatcher.specs.State.{State, new, started_state, released, resumed, ticked, slot_of, is_running}
use Rattle.dispatcher.specs.Refusals.{release_fault, resume_fault}
use Rattle.promise.specs.Promise.{SoundGroup}

-- the states that accepted releases, ticks and resumes reach from the start; `rule s ran`: in state s this task may run, or none
pub data Reached (rule : State → Option ℕ → Bool) (ts : List Task) (places : List ℕ) : State → Type 0 where
  begins : Reached rule ts places (started_state (new places))
  releases : {s : State} → Reached rule ts places s → (k : ℕ) → release_fault ts s k ≡ None → Reached rule ts places (released ts k s)
  ticks : {s : State} → Reached rule ts places s → (mark : Bool) (ran : Option ℕ) → rule s ran ≡ true → Reached rule ts places (ticked ts mark ran s)
  resumes : {s : State} → Reached rule ts places s → (k : ℕ) → resume_fault ts s k ≡ None → Reached rule ts places (resumed k s)

-- is a job of a counted class pending?
abbrev pub busy : (counts : ℕ → Bool) → Slot → Bool
busy counts Empty = false
busy counts (Pending c r u) = counts c
busy counts Halted = false

-- the budget of a class, if it is counted
abbrev pub weight : Task → (counts : ℕ → Bool) → ℕ → ℕ
weight t counts c = cond (counts c) (terms_of t c).budget 0

-- `need` covers the counted budgets of all jobs of the task that can be released within R ticks
abbrev pub Enough : Task → (counts : ℕ → Bool) → (R need : ℕ) → Type 0
Enough t counts R need = (x : ℕ) (os : List Outcome) → Position t x → length os * t.gap < R + t.gap → along t (weight t counts) x os ≤ need

-- What a choice of counted classes must satisfy. `need`: what each task can use of R ticks; `spare`: how many ticks of a window
-- may be lost, that is, not given to counted jobs; `owed`: how many can still be lost while a counted job is pending.
pub record Course (rule : State → Option ℕ → Bool) (ts : List Task) (places : List ℕ) (counts : ℕ → ℕ → Bool) (R spare : ℕ) (need : ℕ → ℕ)
    (owed : State → ℕ) : Type 0 where
  pub low : 1 ≤ R
  pub enough : (i : ℕ) → i < length ts → Enough (at ts i) (counts i) R (need i)
  pub fits : sum (length ts) need + spare ≤ R
  pub most : (s : State) → Reached rule ts places s → owed s ≤ spare
  pub at_release : (s : State) → Reached rule ts places s → (k : ℕ) → release_fault ts s k ≡ None → owed (released ts k s) ≤ owed s
  pub at_resume : (s : State) → Reached rule ts places s → (k : ℕ) → resume_fault ts s k ≡ None → owed (resumed k s) ≤ owed s
  -- the closure: where a counted job is pending, a counted job runs, or one of the owed ticks is lost
  pub at_tick : (s : State) → Reached rule ts places s → (mark : Bool) (ran : Option ℕ) → rule s ran ≡ true →
      (j : ℕ) → j < length ts → busy (counts j) (slot_of s j) ≡ true →
      ((r : ℕ) × (r < length ts) × (is_running ran r ≡ true) × (busy (counts r) (slot_of s r) ≡ true) × (owed (ticked ts mark ran s) ≤ owed s))
      ⊎ (owed (ticked ts mark ran s) < owed s)

-- What then holds in a reached state: a pending job of class c of task k is younger than R; one that ends in a tick is at most R
-- old, and late only if its gap is below R.
pub record Within (rule : State → Option ℕ → Bool) (ts : List Task) (R k c : ℕ) (s : State) : Type 0 where
  pub younger : (since used : ℕ) → slot_of s k ≡ Pending c since used → s.clock - since < R
  pub ends : (mark : Bool) (ran : Option ℕ) → rule s ran ≡ true → (since used : ℕ) → slot_of s k ≡ Pending c since used →
      (way : Way) → way_of (at ts k) s.clock (is_running ran k) mark (slot_of s k) ≡ Some way →
      (s.clock + 1 - since ≤ R) × (way ≡ Late → (at ts k).gap < R)

-- the window theorem
abbrev pub WindowTheorem : Type 0
WindowTheorem = (rule : State → Option ℕ → Bool) (ts : List Task) (places : List ℕ) → SoundGroup ts places →
    (counts : ℕ → ℕ → Bool) (R spare : ℕ) (need : ℕ → ℕ) (owed : State → ℕ) → Course rule ts places counts R spare need owed →
    (s : State) → Reached rule ts places s → (k c : ℕ) → k < length ts → counts k c ≡ true → Within rule ts R k c s
