-- What is left of a plate, from a state of its reader on.
use Rattle.std.proofs.Common.{◌≡◌, ℕ, zero, suc, ◌+◌, ◌-◌, ◌<◌, true, ltb, List, [], Some, None, Ok, Err, Option, Result, sym, refl, ap, ◌∙◌, subst, arith}
use Rattle.std.proofs.lemmas.Bool.{lt-ltb, ne_eqb}
use Rattle.denial.specs.declared.Denial.{Denial}
use Rattle.plate.specs.Rows.{Counted, Framed, frames_of, counted_denial, counted_bits, framed_denial, framed_bits}
use Rattle.denial.specs.Checks.{unless}
use Rattle.plate.specs.Plans.{Plan, with_counted, with_framed, framed_from, counted_from}
use Rattle.plate.specs.Reading.Handed.{counted, framed}
use Rattle.plate.specs.Reading.{State, Handed, counted_here, framed_here, row_denial, next_row, after_row, next_denial, opened, fault_of, rest_of}
use Rattle.plate.proofs.Nones.{unless_ok, unless_err}

fault_counted : (c : Counted) (r : Result Plan Denial) → fault_of (with_counted c r) ≡ fault_of r
fault_counted c (Ok plan) = refl
fault_counted c (Err d) = refl

fault_framed : (f : Framed) (r : Result Plan Denial) → fault_of (with_framed f r) ≡ fault_of r
fault_framed f (Ok plan) = refl
fault_framed f (Err d) = refl

pos : (n : ℕ) → ltb 0 (suc n) ≡ true
pos n = lt-ltb 0 (suc n) (omega arith)

less : (n : ℕ) → suc n - 1 ≡ n
less n = omega arith

-- a fault of what is read next is the first fault
pub rest_fault : (bs : List ℕ) (m n p row : ℕ) (d : Denial)
    → row_denial bs (record { place = p; row = row; counted = m; framed = n }) ≡ Some d
    → counted_from bs m n p row ≡ Err d
unfolding counted_from framed_from
rest_fault bs zero zero p row d e = rw e
rest_fault bs zero (suc n) p row d e = let f = rw (pos n) at e in rw f
rest_fault bs (suc m) n p row d e = let f = rw (pos m) at e in rw f

-- after the last row there is none to come
pub rest_end : (bs : List ℕ) (m n p row : ℕ)
    → row_denial bs (record { place = p; row = row; counted = m; framed = n }) ≡ None
    → next_row bs (record { place = p; row = row; counted = m; framed = n }) ≡ None
    → counted_from bs m n p row ≡ Ok (record { counted = []; framed = [] })
unfolding counted_from framed_from
rest_end bs zero zero p row e f = rw e
rest_end bs zero (suc n) p row e f = let g = rw (pos n) at f in let z : ◌≡◌ {A = ℕ} 0 1 = cc in absurd (omega arith)
rest_end bs (suc m) n p row e f = let g = rw (pos m) at f in let z : ◌≡◌ {A = ℕ} 0 1 = cc in absurd (omega arith)

-- What a row that is read, from state s to state t, says of the rows to come.
abbrev pub Took : List ℕ → (s t : State) → Handed → Type 0
Took bs s t (counted gap budget ranks place) =
    (rest_of bs s ≡ with_counted (record { gap = gap; budget = budget; ranks = ranks }) (rest_of bs t))
    × (s.counted ≡ suc t.counted) × (s.framed ≡ t.framed) × (0 < t.place)
Took bs s t (framed gap bytes place) =
    (rest_of bs s ≡ with_framed (record { gap = gap; frames = frames_of bytes }) (rest_of bs t))
    × (s.counted ≡ t.counted) × (s.framed ≡ suc t.framed) × (0 < t.place)

took_counted : (bs : List ℕ) (m n p row : ℕ) (t : State) → counted_denial bs p row ≡ None → 0 < p
    → t ≡ record { place = p + counted_bits bs p; row = row + 1; counted = m; framed = n }
    → Took bs (record { place = p; row = row; counted = suc m; framed = n }) t (counted_here bs p)
unfolding counted_from
took_counted bs m n p row t e l w = rw (w, e) (refl, refl, refl, omega arith)

took_framed : (bs : List ℕ) (n p row : ℕ) (t : State) → framed_denial bs p row ≡ None → 0 < p
    → t ≡ record { place = p + framed_bits bs p; row = row + 1; counted = 0; framed = n }
    → Took bs (record { place = p; row = row; counted = 0; framed = suc n }) t (framed_here bs p)
unfolding counted_from framed_from
took_framed bs n p row t e l w = rw (w, e) (refl, refl, refl, omega arith)

took_at : (bs : List ℕ) (m n p row : ℕ) (t : State) (h : Handed) → 0 < p
    → row_denial bs (record { place = p; row = row; counted = m; framed = n }) ≡ None
    → next_row bs (record { place = p; row = row; counted = m; framed = n }) ≡ Some h
    → t ≡ after_row bs (record { place = p; row = row; counted = m; framed = n })
    → Took bs (record { place = p; row = row; counted = m; framed = n }) t h
took_at bs zero zero p row t h l e f w = let z : ◌≡◌ {A = ℕ} 0 1 = cc in absurd (omega arith)
took_at bs zero (suc n) p row t h l e f w =
    let d = rw (pos n) at e in
    let g = rw (pos n) at f in
    let same : framed_here bs p ≡ h = cc in
    subst (Took bs _ t) same (took_framed bs n p row t d l (w ∙ rw (pos n, less n)))
took_at bs (suc m) n p row t h l e f w =
    let d = rw (pos m) at e in
    let g = rw (pos m) at f in
    let same : counted_here bs p ≡ h = cc in
    subst (Took bs _ t) same (took_counted bs m n p row t d l (w ∙ rw (pos m, less m)))

took_fault : (bs : List ℕ) (s t : State) (h : Handed) → Took bs s t h
    → (fault_of (rest_of bs s) ≡ fault_of (rest_of bs t)) × (0 < t.place)
took_fault bs s t (counted gap budget ranks place) w = (ap fault_of w.0 ∙ fault_counted _ (rest_of bs t), w.3)
took_fault bs s t (framed gap bytes place) w = (ap fault_of w.0 ∙ fault_framed _ (rest_of bs t), w.3)

-- The same of what a reader answers, once its place is past the header.
past_header : (bs : List ℕ) (s : State) → 0 < s.place
    → (opened bs s ≡ s) × (next_denial bs s ≡ row_denial bs s)
past_header bs s l = let test = ne_eqb s.place 0 (omega arith) in (rw test, rw test)

pub reads_err : (bs : List ℕ) (s : State) (o : Option Handed) (d : Denial) → 0 < s.place
    → Err d ≡ unless (next_denial bs s) o → rest_of bs s ≡ Err d
reads_err bs s o d l e =
    let past = past_header bs s l in
    let f = unless_err (next_denial bs s) o d e in
    rest_fault bs s.counted s.framed s.place s.row d (sym past.1 ∙ f)

pub reads_end : (bs : List ℕ) (s : State) → 0 < s.place
    → Ok None ≡ unless (next_denial bs s) (next_row bs (opened bs s)) → rest_of bs s ≡ Ok (record { counted = []; framed = [] })
reads_end bs s l e =
    let past = past_header bs s l in
    let f = unless_ok (next_denial bs s) (next_row bs (opened bs s)) None e in
    rest_end bs s.counted s.framed s.place s.row (sym past.1 ∙ f.0) (ap (next_row bs) (sym past.0) ∙ sym f.1)

pub reads_row : (bs : List ℕ) (s t : State) (h : Handed) → 0 < s.place
    → Ok (Some h) ≡ unless (next_denial bs s) (next_row bs (opened bs s)) → t ≡ after_row bs (opened bs s) → Took bs s t h
reads_row bs s t h l e w =
    let past = past_header bs s l in
    let f = unless_ok (next_denial bs s) (next_row bs (opened bs s)) (Some h) e in
    took_at bs s.counted s.framed s.place s.row t h l (sym past.1 ∙ f.0)
    (ap (next_row bs) (sym past.0) ∙ sym f.1) (w ∙ ap (after_row bs) past.0)

pub reads_more : (bs : List ℕ) (s t : State) (h : Handed) → 0 < s.place
    → Ok (Some h) ≡ unless (next_denial bs s) (next_row bs (opened bs s)) → t ≡ after_row bs (opened bs s)
    → (fault_of (rest_of bs s) ≡ fault_of (rest_of bs t)) × (0 < t.place)
reads_more bs s t h l e w = took_fault bs s t h (reads_row bs s t h l e w)

-- what a step of a reader says of the rows to come
pub ruleset reads = (reads_err, reads_end, reads_more)
