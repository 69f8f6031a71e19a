-- What a tick leaves, from what it made of each task.
use Rattle.std.proofs.Common.{◌≡◌, ℕ, ◌+◌, ◌<◌, Bool, true, List, ◌++◌, length, get_or, drop, None, Ok, Option, Result, sym, ap, ◌∙◌}
use Rattle.denial.specs.declared.Denial.{Denial}
use Rattle.denial.specs.Checks.{unless}
use Rattle.group.specs.Task.{Task, at, place}
use Rattle.bounds.proofs.Checked.{both_clear, when_clear}
use Rattle.dispatcher.specs.declared.end.End.{End}
use Rattle.dispatcher.specs.declared.slot.Seat.{Seat}
use Rattle.dispatcher.specs.Slots.{way_of}
use Rattle.dispatcher.specs.State.{State, state_of, stands, standing, new_seat, is_running, runner, tick_one, settled_place, ticked}
use Rattle.dispatcher.specs.Refusals.{unstarted_fault, tick_fault, kept_if}
use Rattle.dispatcher.specs.Records.{ends_upto, tick_ends, tick_answer, tick_state, Listed}
use Rattle.dispatcher.specs.Passing.{Passed}
use Rattle.dispatcher.proofs.Seated.{seated_by}
use Rattle.dispatcher.proofs.Released.{standing_is}
use Rattle.dispatcher.proofs.Faults.{started_of}
use Rattle.dispatcher.proofs.Ends.{recorded_as}

module _ (ts : List Task) (clock : ℕ) (started : Bool) (places places' : List ℕ) (seats seats' : List Seat) (many : length places ≡ length ts) (mark : Bool) where
  -- the state
  pub ticked_is : (ran : Option ℕ) → Passed ts clock mark ran (length ts) seats seats' places places'
      → state_of (clock + 1) started places' seats' ≡ ticked ts mark ran (state_of clock started places seats)
  ticked_is ran p =
      ap (λ x. record { clock = clock + 1; started = started; standings = x })
      (seated_by (λ i. tick_one (at ts i) clock (is_running ran i) mark (standing (state_of clock started places seats) i)) (length ts) places' seats'
      (p.places_long ∙ many) one)
    where
      one : (i : ℕ) → i < length ts
          → stands (place places' i) (get_or seats' i new_seat) ≡ tick_one (at ts i) clock (is_running ran i) mark (standing (state_of clock started places seats) i)
      one i l =
          ap (λ x. stands x (get_or seats' i new_seat)) (p.moved i l)
          ∙ ap (stands (settled_place (at ts i) (way_of (at ts i) clock (is_running ran i) mark (get_or seats i new_seat).slot) (place places i))) (p.seat i l)
          ∙ ap (tick_one (at ts i) clock (is_running ran i) mark) (sym (standing_is ts clock started places seats many i l))

  -- a tick that is not refused: a start was accepted
  pub tick_began : (room : ℕ) → tick_fault ts (state_of clock started places seats) mark room ≡ None → started ≡ true
  tick_began room e = started_of started (length ts) (when_clear _ _ (both_clear (unstarted_fault started (length ts)) _ e).0)

  -- the records, from the state as it is once started
  pub ends_as : (ran : Option ℕ) → started ≡ true
      → ends_upto ts (state_of clock true places seats) mark ran (length ts) ≡ ends_upto ts (state_of clock started places seats) mark ran (length ts)
  ends_as ran e = ap (λ b. ends_upto ts (state_of clock b places seats) mark ran (length ts)) (sym e)

-- the answer, the state and the list of a tick that is not refused
module _ (ts : List Task) (s : State) (mark : Bool) (room : ℕ) (f : tick_fault ts s mark room ≡ None) where
  pub tick_says : (ran : Option ℕ) (count : ℕ) → ran ≡ runner ts s → count ≡ length (ends_upto ts s mark ran (length ts))
      → ◌≡◌ {A = Result (Option ℕ × ℕ) Denial} (Ok (ran, count)) (tick_answer ts s mark room)
  tick_says ran count r c =
      let n : count ≡ length (tick_ends ts s mark) = c ∙ ap (λ x. length (ends_upto ts s mark x (length ts))) r in
      let p : ◌≡◌ {A = Option ℕ × ℕ} (ran, count) (runner ts s, length (tick_ends ts s mark)) = λ i. (r i, n i) in
      ap Ok p ∙ ap (λ x. unless x (runner ts s, length (tick_ends ts s mark))) (sym f)

  pub tick_leaves : (ran : Option ℕ) (t : State) → ran ≡ runner ts s → t ≡ ticked ts mark ran s → t ≡ tick_state ts s mark room
  tick_leaves ran t r e = e ∙ ap (λ x. ticked ts mark x s) r ∙ ap (λ x. kept_if x s (ticked ts mark (runner ts s) s)) (sym f)

  pub tick_lists : (ran : Option ℕ) (before after : List End) (count : ℕ) → ran ≡ runner ts s → count ≡ length (ends_upto ts s mark ran (length ts))
      → after ≡ ends_upto ts s mark ran (length ts) ++ drop count before → Listed (tick_fault ts s mark room) (tick_ends ts s mark) before after
  tick_lists ran before after count r c e =
      let a : after ≡ tick_ends ts s mark ++ drop (length (tick_ends ts s mark)) before =
      e ∙ ap (λ x. ends_upto ts s mark ran (length ts) ++ drop x before) c
      ∙ ap (λ x. ends_upto ts s mark x (length ts) ++ drop (length (ends_upto ts s mark x (length ts))) before) r in
      rw f (recorded_as (tick_ends ts s mark) before after a)
