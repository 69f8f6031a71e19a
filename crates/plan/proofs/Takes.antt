-- A row taken into the table of its kind.
use Rattle.std.proofs.Common.{◌≡◌, ℕ, ◌<◌, ◌≤◌, List, [], ◌∷◌, ◌++◌, length, None, Ok, Option, Result, sym, refl, ap, ◌∙◌, subst, MatchResult}
use Rattle.std.proofs.lemmas.Result.{MatchResult-at_ok}
use Rattle.denial.specs.declared.Denial.{Denial}
use Rattle.group.specs.Task.{Task}
use Rattle.plate.specs.Rows.{Counted, Framed, frames_of}
use Rattle.denial.specs.Checks.{unless}
use Rattle.plate.specs.Plans.{SoundCounted, SoundFramed}
use Rattle.kinds.specs.declared.rows.MissCountedRow.{MissCountedRow}
use Rattle.kinds.specs.declared.rows.FrameRow.{FrameRow}
use Rattle.kinds.specs.MissCounted.{counted_task}
use Rattle.kinds.specs.Frames.{framed_task}
use Rattle.kinds.specs.Listed.{MissCountedTable, FrameTable, counted_rows, counted_places, CountedAdded, framed_rows, framed_places, FramedAdded}
use Rattle.kinds.specs.Rows.{counted_of, counted_row_fault, framed_of, framed_row_fault}
use Rattle.kinds.specs.Tables.{add_fault, Grown}
use Rattle.kinds.specs.CountedRows
use Rattle.kinds.specs.FramedRows
use Rattle.kinds.specs.TablesLemmas.{taken}
use Rattle.plate.specs.Reading.Handed.{counted, framed}
use Rattle.plate.specs.Reading.{Handed, SoundRow}
use Rattle.plan.specs.Loads.{RoomFor, Added}
use Rattle.plan.specs.Rows.{firsts}
use Rattle.plan.proofs.Afters.{firsts_push}

-- a row without fault, in a table that has room, is the last of its rows, and at its first position
row_taken : {X : Type 0} (task : X → Task) (xs xs' : List X) (ps ps' : List ℕ) (place : ℕ) (fault : Option Denial) (y x : X) (r : Result (Unit {0}) Denial) (stays : Type 0)
    → length xs < 16 → fault ≡ None → y ≡ x → r ≡ unless (add_fault xs place fault) tt → MatchResult r (λ _. Grown task y xs xs' ps ps') (λ _. stays)
    → (r ≡ Ok tt) × (xs' ≡ xs ++ (x ∷ [])) × (ps ≡ firsts xs → ps' ≡ firsts xs')
row_taken task xs xs' ps ps' place fault y x r stays room none says e w =
    let ok : r ≡ Ok tt = e ∙ ap (λ o. unless o tt) (taken xs place fault room none) in
    let grown = MatchResult-at_ok (λ _. Grown task y xs xs' ps ps') (λ _. stays) tt ok w in
    let rows : xs' ≡ xs ++ (x ∷ []) = grown.listed ∙ ap (λ z. xs ++ (z ∷ [])) says in
    (ok, rows, λ first. grown.placed ∙ ap (λ qs. qs ++ (1 ∷ [])) first ∙ sym (firsts_push xs x) ∙ ap firsts (sym rows))

pub counted_taken : (t t' : MissCountedTable) (row : MissCountedRow) (x : Counted) (r : Result (Unit {0}) Denial)
    → length (counted_rows t) < 16 → row.misses ≤ 7 → counted_of row ≡ x → SoundCounted x
    → r ≡ unless (add_fault (counted_rows t) 4 (counted_row_fault row)) tt
    → MatchResult r (λ _. CountedAdded t row t') (λ _. t' ≡ t)
    → (r ≡ Ok tt) × (counted_rows t' ≡ counted_rows t ++ (x ∷ [])) × (counted_places t ≡ firsts (counted_rows t) → counted_places t' ≡ firsts (counted_rows t'))
counted_taken t t' row x r room few says sound =
    row_taken counted_task (counted_rows t) (counted_rows t') (counted_places t) (counted_places t') 4 (counted_row_fault row) (counted_of row) x r (t' ≡ t)
    room (CountedRows.sound_faultless row few (rw says sound)) says

pub framed_taken : (t t' : FrameTable) (row : FrameRow) (x : Framed) (r : Result (Unit {0}) Denial)
    → length (framed_rows t) < 16 → row.count ≤ 8 → framed_of row ≡ x → SoundFramed x
    → r ≡ unless (add_fault (framed_rows t) 10 (framed_row_fault row)) tt
    → MatchResult r (λ _. FramedAdded t row t') (λ _. t' ≡ t)
    → (r ≡ Ok tt) × (framed_rows t' ≡ framed_rows t ++ (x ∷ [])) × (framed_places t ≡ firsts (framed_rows t) → framed_places t' ≡ firsts (framed_rows t'))
framed_taken t t' row x r room few says sound =
    row_taken framed_task (framed_rows t) (framed_rows t') (framed_places t) (framed_places t') 10 (framed_row_fault row) (framed_of row) x r (t' ≡ t)
    room (FramedRows.sound_faultless row few (rw says sound)) says

-- What holds of a row as it was handed out, at its kind.
pub record AsCounted (h : Handed) (gap budget : ℕ) (ranks : List ℕ) : Type 0 where
  pub sound : SoundRow h → SoundCounted (record { gap = gap; budget = budget; ranks = ranks })
  pub room : (m n : ℕ) → RoomFor h m n → m < 16
  pub added : (cs cs' : List Counted) (fs : List Framed) → cs' ≡ cs ++ (record { gap = gap; budget = budget; ranks = ranks } ∷ []) → Added h cs cs' fs fs

pub as_counted : (h : Handed) (gap budget : ℕ) (ranks : List ℕ) (place : ℕ) → h ≡ counted gap budget ranks place → AsCounted h gap budget ranks
as_counted h gap budget ranks place e = record {
  sound = λ s. subst SoundRow e s;
  room = λ m n s. subst (λ (x : Handed). RoomFor x m n) e s;
  added = λ cs cs' fs p. subst (λ (x : Handed). Added x cs cs' fs fs) (sym e) (p, refl);
}

pub record AsFramed (h : Handed) (gap : ℕ) (bytes : List ℕ) : Type 0 where
  pub sound : SoundRow h → SoundFramed (record { gap = gap; frames = frames_of bytes })
  pub room : (m n : ℕ) → RoomFor h m n → n < 16
  pub added : (cs : List Counted) (fs fs' : List Framed) → fs' ≡ fs ++ (record { gap = gap; frames = frames_of bytes } ∷ []) → Added h cs cs fs fs'

pub as_framed : (h : Handed) (gap : ℕ) (bytes : List ℕ) (place : ℕ) → h ≡ framed gap bytes place → AsFramed h gap bytes
as_framed h gap bytes place e = record {
  sound = λ s. subst SoundRow e s;
  room = λ m n s. subst (λ (x : Handed). RoomFor x m n) e s;
  added = λ cs fs fs' p. subst (λ (x : Handed). Added x cs cs fs fs') (sym e) (refl, p);
}
