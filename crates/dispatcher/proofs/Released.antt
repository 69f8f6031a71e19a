-- What a release and a resume check and leave, from what the dispatcher holds.
use Rattle.std.proofs.Common.{◌≡◌, ℕ, ◌<◌, ◌≤◌, Bool, not, leb, List, length, get_or, set, None, Ok, Option, Result, sym, ap, ◌∙◌, arith}
use Rattle.std.specs.Option.{option_or}
use Rattle.denial.specs.declared.Denial.{Denial}
use Rattle.denial.specs.declared.Rule.TheVariants.{NotHalted}
use Rattle.denial.specs.Numbers.{denied}
use Rattle.denial.specs.Checks.{when, unless}
use Rattle.group.specs.Task.{Task, at, place}
use Rattle.dispatcher.specs.declared.slot.Seat.{Seat}
use Rattle.dispatcher.specs.declared.slot.Slot.{Slot}
use Rattle.dispatcher.specs.Slots.{is_halted}
use Rattle.dispatcher.specs.State.{state_of, standing, stands, seated, new_seat, slot_of, release_seat, resume_seat, release_one, resume_one, released, resumed}
use Rattle.dispatcher.specs.Refusals.{unstarted_fault, no_task_fault, seat_fault, known_answer, release_fault, resume_fault, release_answer, resume_answer, kept_if}
use Rattle.dispatcher.proofs.Seated.{seated_at, seated_set}
use Rattle.bounds.proofs.Checked.{both_clear, when_clear}
use Rattle.dispatcher.proofs.Faults.{seats_enough}
use Rattle.std.proofs.lemmas.Bool.{leb-false}

module _ (ts : List Task) (clock : ℕ) (started : Bool) (places : List ℕ) (seats : List Seat) (many : length places ≡ length ts) where
  -- a task's standing, from its position and its seat
  pub standing_is : (k : ℕ) → k < length ts → standing (state_of clock started places seats) k ≡ stands (place places k) (get_or seats k new_seat)
  standing_is k l = seated_at places seats k (stands 0 new_seat) (omega arith)

  pub number_known : (k : ℕ) → no_task_fault (length ts) k ≡ None → k < length ts
  number_known k e = leb-false (length ts) k (when_clear (leb (length ts) k) _ e)

  -- the checks in their order
  pub known_checked : (k : ℕ) (seat : Seat) → unstarted_fault started (length ts) ≡ None → no_task_fault (length ts) k ≡ None → seat ≡ get_or seats k new_seat
      → ◌≡◌ {A = Result Seat Denial} (Ok seat) (known_answer ts (state_of clock started places seats) k)
  known_checked k seat u n e =
      let s = state_of clock started places seats in
      ap Ok (e ∙ ap (λ x. x.seat) (sym (standing_is k (number_known k n))))
      ∙ ap (λ f. unless f (standing s k).seat) (sym (ap (λ f. option_or f (no_task_fault (length ts) k)) u ∙ n))

  pub release_checked : (k : ℕ) (r : Result (Unit {0}) Denial) → unstarted_fault started (length ts) ≡ None → no_task_fault (length ts) k ≡ None
      → r ≡ unless (seat_fault (at ts k).gap clock (get_or seats k new_seat)) tt → r ≡ release_answer ts (state_of clock started places seats) k
  release_checked k r u n e =
      let s = state_of clock started places seats in
      e ∙ ap (λ x. unless (seat_fault (at ts k).gap clock x.seat) tt) (sym (standing_is k (number_known k n)))
      ∙ ap (λ f. unless f tt) (sym (ap (λ f. option_or f (option_or (no_task_fault (length ts) k) (seat_fault (at ts k).gap clock (standing s k).seat))) u
      ∙ ap (λ f. option_or f (seat_fault (at ts k).gap clock (standing s k).seat)) n))

  pub resume_checked : (k : ℕ) (r : Result (Unit {0}) Denial) → unstarted_fault started (length ts) ≡ None → no_task_fault (length ts) k ≡ None
      → r ≡ unless (when (not (is_halted (get_or seats k new_seat).slot)) (denied NotHalted 0 0)) tt → r ≡ resume_answer ts (state_of clock started places seats) k
  resume_checked k r u n e =
      let s = state_of clock started places seats in
      e ∙ ap (λ x. unless (when (not (is_halted x.seat.slot)) (denied NotHalted 0 0)) tt) (sym (standing_is k (number_known k n)))
      ∙ ap (λ f. unless f tt) (sym (ap (λ f. option_or f (option_or (no_task_fault (length ts) k) (when (not (is_halted (slot_of s k))) (denied NotHalted 0 0)))) u
      ∙ ap (λ f. option_or f (when (not (is_halted (slot_of s k))) (denied NotHalted 0 0))) n))

  -- a call for a task that is not refused: what the first two checks said, whatever the third is
  task_known : (k : ℕ) (third : Option Denial) → option_or (unstarted_fault started (length ts)) (option_or (no_task_fault (length ts) k) third) ≡ None
      → (k < length ts) × (length ts ≤ 64)
  task_known k third e =
      let a = both_clear (unstarted_fault started (length ts)) _ e in
      (number_known k (both_clear (no_task_fault (length ts) k) _ a.1).0, seats_enough started (length ts) (when_clear _ _ a.0))

  pub release_known : (k : ℕ) → release_fault ts (state_of clock started places seats) k ≡ None → (k < length ts) × (length ts ≤ 64)
  release_known k e = task_known k _ e

  pub resume_known : (k : ℕ) → resume_fault ts (state_of clock started places seats) k ≡ None → (k < length ts) × (length ts ≤ 64)
  resume_known k e = task_known k _ e

  -- what it leaves: the task's seat is set
  seat_left : (k : ℕ) (seat : Seat) → k < length ts → k < length seats
      → state_of clock started places (set seats k seat) ≡ record { clock = clock; started = started; standings = set (seated places seats) k (stands (place places k) seat) }
  seat_left k seat l m = ap (λ x. record { clock = clock; started = started; standings = x }) (seated_set places seats k seat (omega arith) m)

  pub release_left : (k : ℕ) → k < length ts → k < length seats
      → state_of clock started places (set seats k (release_seat ((at ts k).class_at (place places k)) clock (get_or seats k new_seat))) ≡ released ts k (state_of clock started places seats)
  release_left k l m =
      seat_left k (release_seat ((at ts k).class_at (place places k)) clock (get_or seats k new_seat)) l m
      ∙ ap (λ x. record { clock = clock; started = started; standings = set (seated places seats) k (release_one (at ts k) clock x) }) (sym (standing_is k l))

  pub resume_left : (k : ℕ) → k < length ts → k < length seats
      → state_of clock started places (set seats k (resume_seat (get_or seats k new_seat))) ≡ resumed k (state_of clock started places seats)
  resume_left k l m =
      seat_left k (resume_seat (get_or seats k new_seat)) l m
      ∙ ap (λ x. record { clock = clock; started = started; standings = set (seated places seats) k (resume_one x) }) (sym (standing_is k l))

  -- so a release that is not refused leaves what its definition says, and so does a resume
  pub release_kept : (k : ℕ) (seats' : List Seat) → length seats ≡ 64 → release_fault ts (state_of clock started places seats) k ≡ None
      → seats' ≡ set seats k (release_seat ((at ts k).class_at (place places k)) clock (get_or seats k new_seat))
      → state_of clock started places seats'
      ≡ kept_if (release_fault ts (state_of clock started places seats) k) (state_of clock started places seats) (released ts k (state_of clock started places seats))
  release_kept k seats' sized f e =
      let s = state_of clock started places seats in
      let h = release_known k f in
      ap (state_of clock started places) e ∙ release_left k h.0 (omega (arith, h.0, h.1, sized)) ∙ sym (ap (λ x. kept_if x s (released ts k s)) f)

  pub resume_kept : (k : ℕ) (seats' : List Seat) → length seats ≡ 64 → resume_fault ts (state_of clock started places seats) k ≡ None
      → seats' ≡ set seats k (resume_seat (get_or seats k new_seat))
      → state_of clock started places seats'
      ≡ kept_if (resume_fault ts (state_of clock started places seats) k) (state_of clock started places seats) (resumed k (state_of clock started places seats))
  resume_kept k seats' sized f e =
      let s = state_of clock started places seats in
      let h = resume_known k f in
      ap (state_of clock started places) e ∙ resume_left k h.0 (omega (arith, h.0, h.1, sized)) ∙ sym (ap (λ x. kept_if x s (resumed k s)) f)

  -- the view of a task's slot
  pub seen_is : (k : ℕ) → k < length ts → (slot : Slot) → slot ≡ (get_or seats k new_seat).slot → slot ≡ slot_of (state_of clock started places seats) k
  seen_is k l slot e = e ∙ ap (λ x. x.seat.slot) (sym (standing_is k l))
