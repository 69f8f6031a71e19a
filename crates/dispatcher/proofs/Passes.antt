-- A tick, task by task: the seats, the positions and the list of records after one task more.
use Rattle.std.proofs.Common.{◌≡◌, ℕ, ◌+◌, ◌-◌, ◌<◌, ◌≤◌, Bool, true, ◌⊎◌, List, [], ◌∷◌, ◌++◌, length, get_or, drop, set, Some, None, Option, sym, refl, ap, ◌∙◌, inl, inr, append_assoc, add-zero, arith}
use Rattle.std.proofs.lemmas.List.{length-set, length-append, length-drop, get_or-set_same, get_or-set_other, set-append_right, drop_more, append-nil}
use Rattle.group.specs.Task.{Task, at, place}
use Rattle.dispatcher.specs.declared.end.End.{End}
use Rattle.dispatcher.specs.declared.slot.Seat.{Seat}
use Rattle.dispatcher.specs.Slots.{way_of, end_record}
use Rattle.dispatcher.specs.State.{State, state_of, new_seat, is_running, pending_count, tick_seat, settled_place}
use Rattle.dispatcher.specs.Records.{ends_at, ends_upto}
use Rattle.dispatcher.specs.Passing.{listed, Passed}
use Rattle.dispatcher.proofs.Released.{standing_is}
use Rattle.dispatcher.proofs.Ends.{ends_few, ends_more, pending_grows}

-- no task yet
pub passed_none : (ts : List Task) (clock : ℕ) (mark : Bool) (ran : Option ℕ) (seats : List Seat) (places : List ℕ) → Passed ts clock mark ran 0 seats seats places places
passed_none ts clock mark ran seats places = record {
  seats_long = refl;
  seat = λ i l. absurd (omega arith);
  seat_left = λ i l. refl;
  places_long = refl;
  moved = λ i l. absurd (omega arith);
  left = λ i l. refl;
}

last_or_below : (i n : ℕ) → i < n + 1 → (i ≡ n) ⊎ (i < n)
last_or_below i n h = grind arith

-- one task more
module _ (ts : List Task) (clock : ℕ) (mark : Bool) (ran : Option ℕ) (n : ℕ) (seats seats₁ seats₂ : List Seat) (places places₁ places₂ : List ℕ)
    (h : Passed ts clock mark ran n seats seats₁ places places₁) (here : n < length seats) (there : n < length places) where
  pub passed_more : (seats₂ ≡ set seats₁ n (tick_seat (at ts n) clock (is_running ran n) mark (get_or seats₁ n new_seat)))
      → (places₂ ≡ set places₁ n (settled_place (at ts n) (way_of (at ts n) clock (is_running ran n) mark (get_or seats₁ n new_seat).slot) (place places₁ n)))
      → Passed ts clock mark ran (n + 1) seats seats₂ places places₂
  passed_more e f = record {
    seats_long = ap length e ∙ length-set seats₁ n new ∙ h.seats_long;
    seat = λ i l. elim (last_or_below i n l) [
      | inl q ↦ rw q at_seat
      | inr q ↦ (let ne : i ≡ n → ⊥ = λ p. omega arith in
          ap (λ x. get_or x i new_seat) e ∙ get_or-set_other seats₁ n i new new_seat ne ∙ h.seat i q)
    ];
    seat_left = λ i l. (let ne : i ≡ n → ⊥ = λ p. omega arith in
        ap (λ x. get_or x i new_seat) e ∙ get_or-set_other seats₁ n i new new_seat ne ∙ h.seat_left i (omega arith));
    places_long = ap length f ∙ length-set places₁ n moved ∙ h.places_long;
    moved = λ i l. elim (last_or_below i n l) [
      | inl q ↦ rw q at_place
      | inr q ↦ (let ne : i ≡ n → ⊥ = λ p. omega arith in
          ap (λ x. get_or x i 0) f ∙ get_or-set_other places₁ n i moved 0 ne ∙ h.moved i q)
    ];
    left = λ i l. (let ne : i ≡ n → ⊥ = λ p. omega arith in
        ap (λ x. get_or x i 0) f ∙ get_or-set_other places₁ n i moved 0 ne ∙ h.left i (omega arith));
  }
    where
      new : Seat
      new = tick_seat (at ts n) clock (is_running ran n) mark (get_or seats₁ n new_seat)

      moved : ℕ
      moved = settled_place (at ts n) (way_of (at ts n) clock (is_running ran n) mark (get_or seats₁ n new_seat).slot) (place places₁ n)

      at_seat : get_or seats₂ n new_seat ≡ tick_seat (at ts n) clock (is_running ran n) mark (get_or seats n new_seat)
      at_seat =
          ap (λ x. get_or x n new_seat) e ∙ get_or-set_same seats₁ n new new_seat (omega (arith, h.seats_long))
          ∙ ap (tick_seat (at ts n) clock (is_running ran n) mark) (h.seat_left n (omega arith))

      at_place : place places₂ n ≡ settled_place (at ts n) (way_of (at ts n) clock (is_running ran n) mark (get_or seats n new_seat).slot) (place places n)
      at_place =
          ap (λ x. get_or x n 0) f ∙ get_or-set_same places₁ n moved 0 (omega (arith, h.places_long))
          ∙ ap (λ x. settled_place (at ts n) (way_of (at ts n) clock (is_running ran n) mark x.slot) (place places₁ n)) (h.seat_left n (omega arith))
          ∙ ap (settled_place (at ts n) (way_of (at ts n) clock (is_running ran n) mark (get_or seats n new_seat).slot)) (h.left n (omega arith))

-- a list of records once one, if there is one, was written at a place
abbrev pub noted : {A : Type 0} → List A → (place : ℕ) → Option A → List A
noted xs place None = xs
noted xs place (Some x) = set xs place x

-- one record more, if there is one
pub noted_more : (front before now : List End) (count : ℕ) (o : Option End) → count ≡ length front → now ≡ front ++ drop count before
    → count + length (listed o) ≤ length before → noted now count o ≡ (front ++ listed o) ++ drop (count + length (listed o)) before
noted_more front before now count None c e r =
    e ∙ ap (λ n. front ++ drop n before) (sym (add-zero count)) ∙ ap (λ x. x ++ drop (count + 0) before) (sym (append-nil front))
noted_more front before now count (Some x) c e r =
    let l : count < length before = omega arith in
    let z : count ≤ count = omega arith in
    let d : count - count ≡ 0 = omega arith in
    ap (λ y. set y count x) e ∙ set-append_right front (drop count before) count count x (sym c) z
    ∙ ap (λ n. front ++ set (drop count before) n x) d
    ∙ ap (λ y. front ++ set y 0 x) (drop_more before count x l)
    ∙ sym (append_assoc front (x ∷ []) (drop (count + 1) before))

-- the list stays as long as it was
pub noted_long : (front before now : List End) (count : ℕ) → count ≡ length front → count ≤ length before → now ≡ front ++ drop count before → length now ≡ length before
noted_long front before now count c l e =
    let a = ap length e ∙ length-append front (drop count before) in
    let d = length-drop count before in
    omega arith

-- the record of one task is that of the state when the tick began
pub end_at : (ts ts₁ : List Task) (clock : ℕ) (places : List ℕ) (seats seats₁ : List Seat) (mark : Bool) (ran : Option ℕ) (n : ℕ) (l : List End) → length places ≡ length ts
    → n < length ts → ts₁ ≡ ts → get_or seats₁ n new_seat ≡ get_or seats n new_seat
    → l ≡ end_record n clock (get_or seats₁ n new_seat).slot (way_of (at ts₁ n) clock (is_running ran n) mark (get_or seats₁ n new_seat).slot)
    → l ≡ ends_at ts (state_of clock true places seats) mark ran n
end_at ts ts₁ clock places seats seats₁ mark ran n l m h e q p =
    p ∙ ap (λ x. end_record n clock (get_or seats₁ n new_seat).slot (way_of (at x n) clock (is_running ran n) mark (get_or seats₁ n new_seat).slot)) e
    ∙ ap (λ x. end_record n clock x.slot (way_of (at ts n) clock (is_running ran n) mark x.slot)) q
    ∙ ap (λ x. end_record n clock x.seat.slot (way_of (at ts n) clock (is_running ran n) mark x.seat.slot)) (sym (standing_is ts clock true places seats m n h))

-- there is room for it
pub end_fits : (ts : List Task) (s : State) (mark : Bool) (ran : Option ℕ) (n count room : ℕ) (l : List End) → n < length ts → l ≡ ends_at ts s mark ran n
    → count ≡ length (ends_upto ts s mark ran n) → pending_count ts s ≤ room → count + length l ≤ room
end_fits ts s mark ran n count room l h e c r =
    let a = ends_few ts s mark ran (n + 1) in
    let b = ap length (ends_more ts s mark ran n) ∙ length-append (ends_upto ts s mark ran n) (ends_at ts s mark ran n) in
    let k : n + 1 ≤ length ts = omega arith in
    let p = pending_grows ts s mark ran (n + 1) (length ts) k in
    let q = ap length e in
    omega arith
