-- Lists of keys, and the foremost of them.
use Rattle.std.proofs.Common.{◌≡◌, ℕ, ◌+◌, ◌-◌, ◌<◌, ◌≤◌, min, Bool, true, false, cond, ltb, eqb, ◌⊎◌, List, length, get_or, set, replicate, is_some, None, Option, sym, refl, ap, ◌∙◌, inl, inr, arith}
use Rattle.std.proofs.lemmas.List.{length-set, length-replicate, get_or-set_same, get_or-set_other, get_or_past}
use Rattle.std.proofs.lemmas.Bool.{cases_lt, both_ways}
use Rattle.std.specs.declared.cmp.Ordering.{Ordering}
use Rattle.std.specs.declared.cmp.Ordering.TheVariants.{Less, Equal, Greater}
use Rattle.std.specs.declared.cmp.Reverse.{Reverse}
use Rattle.std.specs.Ordering.{is_lt, nat_cmp, ordering_then}
use Rattle.choose.specs.Foremost.{foremost, key_ahead, goes_ahead}
use Rattle.choose.proofs.Chosen.{present, lesser, foremost_same, foremost_beyond}
use Rattle.group.specs.Task.{Task, at}
use Rattle.dispatcher.specs.declared.order.ByExpiry.{ByExpiry}
use Rattle.dispatcher.specs.declared.slot.Seat.{Seat}
use Rattle.dispatcher.specs.declared.slot.Slot.{Slot}
use Rattle.dispatcher.specs.declared.slot.Slot.TheVariants.{Empty, Pending, Halted}
use Rattle.dispatcher.specs.Slots.{is_pending, rank_of, age_of}
use Rattle.dispatcher.specs.State.{state_of, slot_of, waits, outranks, runner, new_seat}
use Rattle.dispatcher.specs.Questions.{expires_sooner, expiry_answer}
use Rattle.dispatcher.specs.Keys.{rank_key, expiry_key, KeysOf}
use Rattle.dispatcher.proofs.NewSeats.{getD_same}
use Rattle.dispatcher.proofs.Released.{standing_is}

pub keys_none : {K : Type 0} (key : ℕ → Option K) → KeysOf key 0 (replicate 64 None)
keys_none {K} key = record {
  long = length-replicate {A = Option K} 64 None;
  has = λ i l m. absurd (omega arith);
  lacks = λ i l. getD_same 64 i None;
}

pub keys_more : {K : Type 0} (key : ℕ → Option K) (n : ℕ) (keys : List (Option K)) (k : Option K) → n < 64 → k ≡ key n → KeysOf key n keys → KeysOf key (n + 1) (set keys n k)
keys_more {K} key n keys k l e h = record {
  long = length-set keys n k ∙ h.long;
  has = λ i m b. elim (last i m) [
    | inl q ↦ rw q (get_or-set_same keys n k None (omega (arith, h.long)) ∙ e)
    | inr q ↦ (let ne : i ≡ n → ⊥ = λ p. omega arith in
        get_or-set_other keys n i k None ne ∙ h.has i q b)
  ];
  lacks = λ i m. (let ne : i ≡ n → ⊥ = λ p. omega arith in get_or-set_other keys n i k None ne ∙ h.lacks i (omega arith));
}
  where
    last : (i : ℕ) → i < n + 1 → (i ≡ n) ⊎ (i < n)
    last i h = grind arith

pub keys_all : {K : Type 0} (key : ℕ → Option K) (n m : ℕ) (keys : List (Option K)) → m ≡ min n 64 → KeysOf key m keys → KeysOf key n keys
keys_all key n m keys e h = record {
  long = h.long;
  has = λ i l b. h.has i (omega arith) b;
  lacks = λ i l. h.lacks i (omega arith);
}

-- the foremost of the keys is the foremost of the tasks
pub keys_foremost : {K : Type 0} (ahead : K → K → Bool) (key : ℕ → Option K) (n : ℕ) (keys : List (Option K)) (there : ℕ → Bool) (before : ℕ → ℕ → Bool)
    → KeysOf key n keys → ((i : ℕ) → 64 ≤ i → key i ≡ None) → ((i : ℕ) → i < n → is_some (key i) ≡ there i)
    → ((i j : ℕ) → i < n → j < i → there i ≡ true → there j ≡ true → key_ahead ahead (key i) (key j) ≡ before i j)
    → foremost (present keys) (goes_ahead ahead keys) (length keys) ≡ foremost there before n
keys_foremost ahead key n keys there before h past pres ord = ap (foremost (present keys) (goes_ahead ahead keys)) h.long ∙ elim (cases_lt 64 n) [ inl l ↦ many l | inr l ↦ few l ]
  where
    here : (i : ℕ) → i < n → i < 64 → present keys i ≡ there i
    here i l m = ap is_some (h.has i l m) ∙ pres i l

    same : (m : ℕ) → m ≤ n → m ≤ 64 → foremost (present keys) (goes_ahead ahead keys) m ≡ foremost there before m
    same m a b = foremost_same (present keys) there (goes_ahead ahead keys) before m (λ i l. here i (omega arith) (omega arith))
        (λ i j l k p q. (let u : i < n = omega arith in let v : i < 64 = omega arith in let w : j < n = omega arith in let x : j < 64 = omega arith in
        ap (λ y. key_ahead ahead y (get_or keys j None)) (h.has i u v) ∙ ap (key_ahead ahead (key i)) (h.has j w x)
        ∙ ord i j u k (sym (here i u v) ∙ p) (sym (here j w x) ∙ q)))

    few : n ≤ 64 → foremost (present keys) (goes_ahead ahead keys) 64 ≡ foremost there before n
    few l = foremost_beyond (present keys) (goes_ahead ahead keys) n 64 l (λ i a b. ap is_some (h.lacks i a)) ∙ same n (omega arith) l

    many : 64 < n → foremost (present keys) (goes_ahead ahead keys) 64 ≡ foremost there before n
    many l = same 64 (omega arith) (omega arith) ∙ sym (foremost_beyond there before 64 n (omega arith) (λ i a b. sym (pres i b) ∙ ap is_some (past i a)))

decided : (x y : Bool) (o : Ordering) → is_lt o ≡ false → is_lt (ordering_then (cond x Less (cond y Equal Greater)) o) ≡ x
decided true y o e = refl
decided false true o e = e
decided false false o e = refl

less : (a b : ℕ) → is_lt (nat_cmp a b) ≡ ltb a b
less a b = on (ltb a b) (eqb a b)
  where
    on : (x y : Bool) → is_lt (cond x Less (cond y Equal Greater)) ≡ x
    on true y = refl
    on false true = refl
    on false false = refl

-- of two with as many ticks left the lower task does not come later
left_first : (a b i j : ℕ) → j < i → is_lt (ordering_then (nat_cmp a b) (nat_cmp i j)) ≡ ltb a b
left_first a b i j l = decided (ltb a b) (eqb a b) (nat_cmp i j) (less i j ∙ above)
  where
    above : ltb i j ≡ false
    above = grind arith

module _ (ts : List Task) (clock : ℕ) (started : Bool) (places : List ℕ) (seats : List Seat) (many : length places ≡ length ts) (sized : length seats ≡ 64) where
  -- the slot of task i
  slot_is : (i : ℕ) → i < length ts → slot_of (state_of clock started places seats) i ≡ (get_or seats i new_seat).slot
  slot_is i l = ap (λ x. x.seat.slot) (standing_is ts clock started places seats many i l)

  beyond : (i : ℕ) → 64 ≤ i → get_or seats i new_seat ≡ new_seat
  beyond i l = get_or_past seats i new_seat (omega arith)

  pub runner_found : (keys : List (Option (Reverse ℕ))) → KeysOf (λ i. rank_key (at ts i) (get_or seats i new_seat).slot) (length ts) keys
      → foremost (present keys) (goes_ahead (lesser (λ x y. nat_cmp y.0 x.0)) keys) (length keys) ≡ runner ts (state_of clock started places seats)
  runner_found keys h =
      keys_foremost (lesser (λ x y. nat_cmp y.0 x.0)) (λ i. rank_key (at ts i) (get_or seats i new_seat).slot) (length ts) keys (waits (state_of clock started places seats))
      (outranks ts (state_of clock started places seats)) h (λ i l. ap (λ x. rank_key (at ts i) x.slot) (beyond i l)) there order
    where
      shown : (t : Task) (s : Slot) → is_some (rank_key t s) ≡ is_pending s
      shown t Empty = refl
      shown t (Pending c r u) = refl
      shown t Halted = refl

      there : (i : ℕ) → i < length ts → is_some (rank_key (at ts i) (get_or seats i new_seat).slot) ≡ waits (state_of clock started places seats) i
      there i l = shown (at ts i) (get_or seats i new_seat).slot ∙ ap is_pending (sym (slot_is i l))

      test : (t u : Task) (a b : Slot) → is_pending a ≡ true → is_pending b ≡ true → key_ahead (lesser (λ x y. nat_cmp y.0 x.0)) (rank_key t a) (rank_key u b) ≡ ltb (rank_of u b) (rank_of t a)
      test t u Empty b p q = absurd (both_ways false refl p)
      test t u Halted b p q = absurd (both_ways false refl p)
      test t u (Pending c r v) Empty p q = absurd (both_ways false refl q)
      test t u (Pending c r v) Halted p q = absurd (both_ways false refl q)
      test t u (Pending c r v) (Pending d s w) p q = less (rank_of u (Pending d s w)) (rank_of t (Pending c r v))

      order : (i j : ℕ) → i < length ts → j < i → waits (state_of clock started places seats) i ≡ true → waits (state_of clock started places seats) j ≡ true
          → key_ahead (lesser (λ x y. nat_cmp y.0 x.0)) (rank_key (at ts i) (get_or seats i new_seat).slot) (rank_key (at ts j) (get_or seats j new_seat).slot)
          ≡ outranks ts (state_of clock started places seats) i j
      order i j l k p q =
          let m : j < length ts = omega arith in
          let a = slot_is i l in
          let b = slot_is j m in
          test (at ts i) (at ts j) (get_or seats i new_seat).slot (get_or seats j new_seat).slot (ap is_pending (sym a) ∙ p) (ap is_pending (sym b) ∙ q)
          ∙ ap (λ x. ltb (rank_of (at ts j) x) (rank_of (at ts i) (get_or seats i new_seat).slot)) (sym b)
          ∙ ap (λ x. ltb (rank_of (at ts j) (slot_of (state_of clock started places seats) j)) (rank_of (at ts i) x)) (sym a)

  pub expiry_found : (keys : List (Option ByExpiry)) → KeysOf (λ i. expiry_key (at ts i).gap i clock (get_or seats i new_seat).slot) (length ts) keys
      → foremost (present keys) (goes_ahead (lesser (λ x y. ordering_then (nat_cmp x.left y.left) (nat_cmp x.task y.task))) keys) (length keys) ≡ expiry_answer ts (state_of clock started places seats)
  expiry_found keys h =
      keys_foremost (lesser (λ x y. ordering_then (nat_cmp x.left y.left) (nat_cmp x.task y.task))) (λ i. expiry_key (at ts i).gap i clock (get_or seats i new_seat).slot) (length ts) keys
      (waits (state_of clock started places seats)) (expires_sooner ts (state_of clock started places seats)) h
      (λ i l. ap (λ x. expiry_key (at ts i).gap i clock x.slot) (beyond i l)) there order
    where
      shown : (gap i : ℕ) (s : Slot) → is_some (expiry_key gap i clock s) ≡ is_pending s
      shown gap i Empty = refl
      shown gap i (Pending c r u) = refl
      shown gap i Halted = refl

      there : (i : ℕ) → i < length ts → is_some (expiry_key (at ts i).gap i clock (get_or seats i new_seat).slot) ≡ waits (state_of clock started places seats) i
      there i l = shown (at ts i).gap i (get_or seats i new_seat).slot ∙ ap is_pending (sym (slot_is i l))

      test : (g h i j : ℕ) (a b : Slot) → j < i → is_pending a ≡ true → is_pending b ≡ true
          → key_ahead (lesser (λ x y. ordering_then (nat_cmp x.left y.left) (nat_cmp x.task y.task))) (expiry_key g i clock a) (expiry_key h j clock b) ≡ ltb (g - age_of clock a) (h - age_of clock b)
      test g h i j Empty b l p q = absurd (both_ways false refl p)
      test g h i j Halted b l p q = absurd (both_ways false refl p)
      test g h i j (Pending c r v) Empty l p q = absurd (both_ways false refl q)
      test g h i j (Pending c r v) Halted l p q = absurd (both_ways false refl q)
      test g h i j (Pending c r v) (Pending d s w) l p q = left_first (g - (clock - r)) (h - (clock - s)) i j l

      order : (i j : ℕ) → i < length ts → j < i → waits (state_of clock started places seats) i ≡ true → waits (state_of clock started places seats) j ≡ true
          → key_ahead (lesser (λ x y. ordering_then (nat_cmp x.left y.left) (nat_cmp x.task y.task))) (expiry_key (at ts i).gap i clock (get_or seats i new_seat).slot)
          (expiry_key (at ts j).gap j clock (get_or seats j new_seat).slot) ≡ expires_sooner ts (state_of clock started places seats) i j
      order i j l k p q =
          let m : j < length ts = omega arith in
          let a = slot_is i l in
          let b = slot_is j m in
          test (at ts i).gap (at ts j).gap i j (get_or seats i new_seat).slot (get_or seats j new_seat).slot k (ap is_pending (sym a) ∙ p) (ap is_pending (sym b) ∙ q)
          ∙ ap (λ x. ltb ((at ts i).gap - age_of clock x) ((at ts j).gap - age_of clock (get_or seats j new_seat).slot)) (sym a)
          ∙ ap (λ x. ltb ((at ts i).gap - age_of clock (slot_of (state_of clock started places seats) i)) ((at ts j).gap - age_of clock x)) (sym b)
