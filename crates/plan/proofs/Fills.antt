-- Rows taken in one by one.
use Rattle.std.proofs.Common.{◌≡◌, ℕ, ◌+◌, ◌<◌, List, length, Ok, Err, Result, sym, refl, ap, ◌∙◌, arith}
use Rattle.std.proofs.lemmas.List.{length_push}
use Rattle.denial.specs.declared.Denial.{Denial}
use Rattle.plate.specs.Rows.{Counted, Framed, frames_of}
use Rattle.plate.specs.Plans.{Plan}
use Rattle.plate.specs.Reading.{Handed, State, rest_of}
use Rattle.plate.specs.Reading.Handed.{counted, framed}
use Rattle.plate.proofs.Rests.{Took}
use Rattle.plan.specs.Loads.{Added}
use Rattle.plan.specs.Rows.{after_rows}
use Rattle.plan.proofs.Afters.{after_counted, after_framed}

-- a row that was read and taken in
pub record Filled (bs : List ℕ) (s t : State) (cs cs' : List Counted) (fs fs' : List Framed) : Type 0 where
  pub rows : after_rows cs' fs' (rest_of bs t) ≡ after_rows cs fs (rest_of bs s)
  pub counted : length cs' + t.counted ≡ length cs + s.counted
  pub framed : length fs' + t.framed ≡ length fs + s.framed
  pub place : 0 < t.place

pub filled : (bs : List ℕ) (s t : State) (h : Handed) (cs cs' : List Counted) (fs fs' : List Framed)
    → Took bs s t h → Added h cs cs' fs fs' → Filled bs s t cs cs' fs fs'
filled bs s t (counted gap budget ranks place) cs cs' fs fs' took added =
    let c : Counted = record { gap = gap; budget = budget; ranks = ranks } in
    record {
      rows = rw (added.0, added.1) (sym (after_counted cs fs c (rest_of bs t)) ∙ ap (after_rows cs fs) (sym took.0));
      counted = rw (added.0, took.1) (omega (arith, length_push cs c));
      framed = rw (added.1, took.2) refl;
      place = took.3;
    }
filled bs s t (framed gap bytes place) cs cs' fs fs' took added =
    let f : Framed = record { gap = gap; frames = frames_of bytes } in
    record {
      rows = rw (added.0, added.1) (sym (after_framed cs fs _ (rest_of bs t)) ∙ ap (after_rows cs fs) (sym took.0));
      counted = rw (added.0, took.1) refl;
      framed = rw (added.1, took.2) (omega (arith, length_push fs f));
      place = took.3;
    }

-- the rows to come end in a fault
pub after_err : (cs : List Counted) (fs : List Framed) (r : Result Plan Denial) (d : Denial) → after_rows cs fs r ≡ Err d → r ≡ Err d
after_err cs fs (Ok plan) d e = let z : ◌≡◌ {A = ℕ} 0 1 = cc in absurd (omega arith)
after_err cs fs (Err x) d e = e
