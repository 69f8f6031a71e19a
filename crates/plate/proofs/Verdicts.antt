-- From what was read of a plate to what it decodes to.
use Rattle.std.proofs.Common.{◌≡◌, ℕ, ◌<◌, ◌≤◌, List, length, Some, None, Ok, Err, Result, sym, refl, ap, ◌∙◌, subst, arith}
use Rattle.denial.specs.declared.Denial.{Denial}
use Rattle.plate.specs.Bits.{field}
use Rattle.plate.specs.Plans.{Plan, Bytes, Accepted, Refused, header_denial, decode}
use Rattle.plate.specs.declared.reader.Counts.{Counts}
use Rattle.denial.specs.Checks.{unless}
use Rattle.plate.specs.Reading.{State, fault_of, rest_of, first_state, opened, open_denial}
use Rattle.plate.specs.Readers.{to_come}
use Rattle.plate.proofs.Nones.{unless_ok, unless_err}
use Rattle.plate.proofs.Trips.{read_is_written, written_is_read, few_bytes, read_counts}

-- a plate that decodes to a fault
refused : (bs : List ℕ) (d : Denial) → decode bs ≡ Err d → Refused bs d
refused bs d e = record {
  first = e;
  never = λ plan s w. (let h : decode bs ≡ Ok plan = rw (← w) (written_is_read plan s) in let z : ◌≡◌ {A = ℕ} 0 1 = cc in omega arith);
}

pub header_refused : (bs : List ℕ) (d : Denial) → header_denial bs ≡ Some d → Refused bs d
unfolding decode
header_refused bs d e = refused bs d (rw e)

faulty : (r : Result Plan Denial) (d : Denial) → Some d ≡ fault_of r → r ≡ Err d
faulty (Ok plan) d e = let z : ◌≡◌ {A = ℕ} 0 1 = cc in absurd (omega arith)
faulty (Err c) d e = cc

faultless : (r : Result Plan Denial) → None ≡ fault_of r → (plan : Plan) × (r ≡ Ok plan)
faultless (Ok plan) e = (plan, refl)
faultless (Err c) e = let z : ◌≡◌ {A = ℕ} 0 1 = cc in absurd (omega arith)

pub decode_rows : (bs : List ℕ) → header_denial bs ≡ None → decode bs ≡ rest_of bs (first_state bs)
unfolding decode
decode_rows bs h = rw h

pub rows_refused : (bs : List ℕ) (d : Denial) → header_denial bs ≡ None → Some d ≡ fault_of (rest_of bs (first_state bs)) → Refused bs d
rows_refused bs d h e = refused bs d (decode_rows bs h ∙ faulty (rest_of bs (first_state bs)) d e)

pub rows_accepted : (bs : List ℕ) (m n : ℕ) → Bytes bs → header_denial bs ≡ None → None ≡ fault_of (rest_of bs (first_state bs))
    → m ≡ field bs 4 6 → n ≡ field bs 10 6 → Accepted bs m n
rows_accepted bs m n small h e em en =
    let got = faultless (rest_of bs (first_state bs)) e in
    let all = decode_rows bs h ∙ got.1 in
    let back = read_is_written bs small got.0 all in
    let counts = read_counts bs small got.0 all in
    record {
      plan = got.0;
      decoded = all;
      sound = back.0;
      encoded = back.1;
      counts = (counts.0 ∙ sym em, counts.1 ∙ sym en);
      few = subst (λ (x : List ℕ). length x ≤ 610) back.1 (few_bytes got.0 back.0);
    }

-- A reader that has just opened a plate: bs₀ is the plate that it was made over, and s₀ its first state.
abbrev pub start : State
start = record { place = 0; row = 0; counted = 0; framed = 0 }

pub opened_ok : (bs bs₀ : List ℕ) (s₀ : State) (n : Counts) → bs₀ ≡ bs → s₀ ≡ start
    → Ok n ≡ unless (open_denial bs₀ s₀) (to_come (opened bs₀ s₀))
    → (header_denial bs ≡ None) × (n.counted ≡ field bs 4 6) × (n.framed ≡ field bs 10 6)
opened_ok bs bs₀ s₀ n e f h =
    let g : Ok n ≡ unless (header_denial bs) (to_come (first_state bs)) =
    h ∙ ap (λ s. unless (open_denial bs₀ s) (to_come (opened bs₀ s))) f ∙ ap (λ x. unless (header_denial x) (to_come (first_state x))) e in
    let got = unless_ok (header_denial bs) (to_come (first_state bs)) n g in
    (got.0, ap (λ (c : Counts). c.counted) got.1, ap (λ (c : Counts). c.framed) got.1)

pub opened_err : (bs bs₀ : List ℕ) (s₀ : State) (d : Denial) → bs₀ ≡ bs → s₀ ≡ start
    → Err d ≡ unless (open_denial bs₀ s₀) (to_come (opened bs₀ s₀)) → header_denial bs ≡ Some d
opened_err bs bs₀ s₀ d e f h =
    let g : Err d ≡ unless (header_denial bs) (to_come (first_state bs)) =
    h ∙ ap (λ s. unless (open_denial bs₀ s) (to_come (opened bs₀ s))) f ∙ ap (λ x. unless (header_denial x) (to_come (first_state x))) e in
    unless_err (header_denial bs) (to_come (first_state bs)) d g

-- what it has yet to read is all the rows
pub opened_rest : (bs bs₀ bs₁ : List ℕ) (s₀ s₁ : State) → bs₀ ≡ bs → bs₁ ≡ bs₀ → s₀ ≡ start → s₁ ≡ opened bs₀ s₀
    → (0 < s₁.place) × (rest_of bs₁ s₁ ≡ rest_of bs (first_state bs))
opened_rest bs bs₀ bs₁ s₀ s₁ e g f h =
    let first : s₁ ≡ first_state bs = h ∙ ap (opened bs₀) f ∙ ap first_state e in
    (rw first (omega arith), ap (λ x. rest_of x s₁) (g ∙ e) ∙ ap (rest_of bs) first)

-- what a plate that was opened, and then read to its end or its first fault, is
pub ruleset verdicts = (opened_ok, opened_err, opened_rest, header_refused, rows_refused, rows_accepted, written_is_read)
