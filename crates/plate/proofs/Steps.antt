-- One step of a reader, past the header.
use Rattle.std.proofs.Common.{◌≡◌, ℕ, ◌+◌, ◌-◌, ◌<◌, ◌≤◌, cond, ltb, List, Some, None, Ok, Err, Option, Result, sym, subst, inl, inr, arith}
use Rattle.std.proofs.lemmas.Bool.{lt-ltb, le-ltb, cond_both, cases_lt}
use Rattle.denial.specs.declared.Denial.{Denial}
use Rattle.plate.specs.Rows.{counted_bits, counted_denial, framed_bits, framed_denial}
use Rattle.denial.specs.Checks.{unless}
use Rattle.plate.specs.Plans.{extra_fault}
use Rattle.plate.specs.Reading.{State, Kept, Handed, counted_here, framed_here, row_denial, next_row, after_row, open_denial, opened, next_denial, SoundRow, SoundNext}
use Rattle.plate.proofs.Fields.{field_low}
use Rattle.plate.proofs.Nones.{or_none, unless_ok}
use Rattle.plate.proofs.Counteds
use Rattle.plate.proofs.Frameds

-- a place only grows
pub after_place : (bs : List ℕ) (s : State) → 0 < s.place → 0 < (after_row bs s).place
after_place bs s l =
    cond_both (ltb 0 s.counted) _ _ (λ (t : State). 0 < t.place) (λ _. omega arith)
    (λ _. cond_both (ltb 0 s.framed) _ _ (λ (t : State). 0 < t.place) (λ _. omega arith) (λ _. l))

-- what a reader does at a row
pub record Step (bs : List ℕ) (s t : State) (h : Handed) : Type 0 where
  pub result : Ok (Some h) ≡ unless (row_denial bs s) (next_row bs s)
  pub after : t ≡ after_row bs s
  pub kept : Kept t

pub step_counted : (bs : List ℕ) (s t : State) (h : Handed) (place : ℕ) → 0 < s.counted → Kept s
    → Ok h ≡ unless (counted_denial bs s.place s.row) (counted_here bs s.place)
    → place ≡ s.place + counted_bits bs s.place
    → t ≡ record { place = place; row = s.row + 1; counted = s.counted - 1; framed = s.framed }
    → Step bs s t h
step_counted bs s t h place l k e m w =
    let test = lt-ltb 0 s.counted l in
    let got = unless_ok (counted_denial bs s.place s.row) (counted_here bs s.place) h e in
    let low = field_low bs (s.place + 24) 3 3 (omega arith) in
    record {
      result = rw (test, got.0, got.1);
      after = rw (test, w, m);
      kept = rw (w, m) (record {
        aligned = omega (arith, k.aligned);
        within = omega (arith, k.within);
        few = omega (arith, k.few);
        counts = (omega (arith, k.counts), omega (arith, k.counts));
      });
    }

pub step_framed : (bs : List ℕ) (s t : State) (h : Handed) (place : ℕ) → s.counted ≤ 0 → 0 < s.framed → Kept s
    → Ok h ≡ unless (framed_denial bs s.place s.row) (framed_here bs s.place)
    → place ≡ s.place + framed_bits bs s.place
    → t ≡ record { place = place; row = s.row + 1; counted = s.counted; framed = s.framed - 1 }
    → Step bs s t h
step_framed bs s t h place none l k e m w =
    let skip = le-ltb 0 s.counted none in
    let test = lt-ltb 0 s.framed l in
    let got = unless_ok (framed_denial bs s.place s.row) (framed_here bs s.place) h e in
    let low = field_low bs (s.place + 12) 3 3 (omega arith) in
    record {
      result = rw (skip, test, got.0, got.1);
      after = rw (skip, test, w, m);
      kept = rw (w, m) (record {
        aligned = omega (arith, k.aligned);
        within = omega (arith, k.within);
        few = omega (arith, k.few);
        counts = (omega (arith, k.counts), omega (arith, k.counts));
      });
    }

-- a row that is handed out keeps the rules of its kind
sound_step : (bs : List ℕ) (s : State) (h : Handed) → row_denial bs s ≡ None → next_row bs s ≡ Some h → SoundRow h
sound_step bs s h e f =
    elim (cases_lt 0 s.counted) [
      | inl l ↦ (let t = lt-ltb 0 s.counted l in at_counted (rw t at e) (rw t at f))
      | inr l ↦ (let t = le-ltb 0 s.counted l in later (rw t at e) (rw t at f))
    ]
  where
    at_counted : counted_denial bs s.place s.row ≡ None → Some (counted_here bs s.place) ≡ Some h → SoundRow h
    at_counted d g = let same : counted_here bs s.place ≡ h = cc in subst SoundRow same (Counteds.denial_sound bs s.place s.row d)

    at_framed : framed_denial bs s.place s.row ≡ None → Some (framed_here bs s.place) ≡ Some h → SoundRow h
    at_framed d g = let same : framed_here bs s.place ≡ h = cc in subst SoundRow same (Frameds.denial_sound bs s.place s.row d)

    later : cond (ltb 0 s.framed) (framed_denial bs s.place s.row) (extra_fault bs s.place) ≡ None
        → cond (ltb 0 s.framed) (Some (framed_here bs s.place)) None ≡ Some h → SoundRow h
    later d g =
        elim (cases_lt 0 s.framed) [
          | inl l ↦ (let t = lt-ltb 0 s.framed l in at_framed (rw t at d) (rw t at g))
          | inr l ↦ (let t = le-ltb 0 s.framed l in let n : None ≡ Some h = rw t at g in let z : ◌≡◌ {A = ℕ} 0 1 = cc in absurd (omega arith))
        ]

pub sound_next : (bs : List ℕ) (s : State) (r : Result (Option Handed) Denial)
    → r ≡ unless (next_denial bs s) (next_row bs (opened bs s)) → SoundNext r
sound_next bs s (Err d) e = tt
sound_next bs s (Ok None) e = tt
sound_next bs s (Ok (Some h)) e =
    let got = unless_ok (next_denial bs s) (next_row bs (opened bs s)) (Some h) e in
    let parts = or_none (open_denial bs s) (row_denial bs (opened bs s)) got.0 in
    sound_step bs (opened bs s) h parts.1 (sym got.1)
