-- What is known where a call is not refused.
use Rattle.std.proofs.Common.{◌≡◌, ℕ, ◌-◌, ◌<◌, ◌≤◌, Bool, true, false, not, ◌&&◌, leb, List, length, Some, None, Ok, Err, Option, refl, arith}
use Rattle.std.specs.Option.{option_or}
use Rattle.std.proofs.lemmas.Bool.{ltb-false, leb-true, leb-false, not-false, and_parts}
use Rattle.denial.specs.declared.Denial.{Denial}
use Rattle.denial.specs.declared.Rule.TheVariants.{NotStarted, NoTask, Halted, TooSoon, NotHalted}
use Rattle.denial.specs.Numbers.{denied}
use Rattle.denial.specs.Checks.{when, unless}
use Rattle.group.specs.Task.{Task, at}
use Rattle.dispatcher.specs.declared.slot.Seat.{Seat}
use Rattle.dispatcher.specs.Slots.{is_halted}
use Rattle.dispatcher.specs.State.{State, standing, slot_of}
use Rattle.dispatcher.specs.Refusals.{seat_fault, too_soon, unstarted_fault, no_task_fault, release_fault, resume_fault}
use Rattle.bounds.proofs.Checked.{both_clear, when_clear}
use Rattle.dispatcher.specs.Sound.{ready_of}

pub never : {A : Type 0} → ◌≡◌ {A = ℕ} 0 1 → A
never e = absurd (omega arith)

-- an answer that is no refusal
pub unless_ok : {A : Type 0} (f : Option Denial) (x y : A) → unless f x ≡ Ok y → (f ≡ None) × (x ≡ y)
unless_ok None x y e = (refl, cc)
unless_ok (Some d) x y e = never (cc)

pub unless_err : {A : Type 0} (f : Option Denial) (x : A) (d : Denial) → unless f x ≡ Err d → f ≡ Some d
unless_err None x d e = never (cc)
unless_err (Some d') x d e = cc

ready_by : (gap clock : ℕ) (last : Option ℕ) → 1 ≤ gap → too_soon gap clock last ≡ false → ready_of gap last ≤ clock
ready_by gap clock None g e = omega arith
ready_by gap clock (Some last) g e = omega (arith, ltb-false (clock - last) gap e)

-- a seat that takes a release
pub record Takes (gap clock : ℕ) (seat : Seat) : Type 0 where
  pub not_halted : is_halted seat.slot ≡ false
  pub by_now : ready_of gap seat.last ≤ clock

pub takes_from : (gap clock : ℕ) (seat : Seat) → 1 ≤ gap → seat_fault gap clock seat ≡ None → Takes gap clock seat
takes_from gap clock seat g e =
    let q = both_clear (when (is_halted seat.slot) (denied Halted 0 0)) (when (too_soon gap clock seat.last) (denied TooSoon 0 0)) e in
    record {
      not_halted = when_clear (is_halted seat.slot) (denied Halted 0 0) q.0;
      by_now = ready_by gap clock seat.last g (when_clear (too_soon gap clock seat.last) (denied TooSoon 0 0) q.1);
    }

-- a start was accepted
pub started_of : (started : Bool) (count : ℕ) → not (started && leb count 64) ≡ false → started ≡ true
started_of started count e = (and_parts started (leb count 64) (not-false (started && leb count 64) e)).0

-- and there is a seat for each task
pub seats_enough : (started : Bool) (count : ℕ) → not (started && leb count 64) ≡ false → count ≤ 64
seats_enough started count e = leb-true count 64 (and_parts started (leb count 64) (not-false (started && leb count 64) e)).1

-- an accepted release of task k
pub record Releases (ts : List Task) (s : State) (k : ℕ) : Type 0 where
  pub started : s.started ≡ true
  pub task : k < length ts
  pub seat : seat_fault (at ts k).gap s.clock (standing s k).seat ≡ None

pub releases_from : (ts : List Task) (s : State) (k : ℕ) → release_fault ts s k ≡ None → Releases ts s k
releases_from ts s k e =
    let a = both_clear (unstarted_fault s.started (length ts)) (option_or (no_task_fault (length ts) k) (seat_fault (at ts k).gap s.clock (standing s k).seat)) e in
    let b = both_clear (no_task_fault (length ts) k) (seat_fault (at ts k).gap s.clock (standing s k).seat) a.1 in
    record {
      started = started_of s.started (length ts) (when_clear (not (s.started && leb (length ts) 64)) (denied NotStarted 0 0) a.0);
      task = leb-false (length ts) k (when_clear (leb (length ts) k) (denied NoTask 0 0) b.0);
      seat = b.1;
    }

-- an accepted resume of task k
pub record Resumes (ts : List Task) (s : State) (k : ℕ) : Type 0 where
  pub started : s.started ≡ true
  pub task : k < length ts
  pub halted : is_halted (slot_of s k) ≡ true

pub resumes_from : (ts : List Task) (s : State) (k : ℕ) → resume_fault ts s k ≡ None → Resumes ts s k
resumes_from ts s k e =
    let a = both_clear (unstarted_fault s.started (length ts)) (option_or (no_task_fault (length ts) k) (when (not (is_halted (slot_of s k))) (denied NotHalted 0 0))) e in
    let b = both_clear (no_task_fault (length ts) k) (when (not (is_halted (slot_of s k))) (denied NotHalted 0 0)) a.1 in
    record {
      started = started_of s.started (length ts) (when_clear (not (s.started && leb (length ts) 64)) (denied NotStarted 0 0) a.0);
      task = leb-false (length ts) k (when_clear (leb (length ts) k) (denied NoTask 0 0) b.0);
      halted = not-false (is_halted (slot_of s k)) (when_clear (not (is_halted (slot_of s k))) (denied NotHalted 0 0) b.1);
    }
