-- The records of a tick, task by task: each step of a loop over the tasks, that there is room for all, and what the list then holds.
use Rattle.std.proofs.Common.{◌≡◌, ℕ, zero, suc, ◌+◌, ◌<◌, ◌≤◌, Bool, cond, ◌⊎◌, List, [], ◌∷◌, ◌++◌, length, take, drop, Some, None, Option, refl, ap, inl, inr, add-one, arith}
use Rattle.std.proofs.lemmas.List.{length-append}
use Rattle.std.proofs.lemmas.List.Sorted.{IsPermutation-refl}
use Rattle.group.specs.Task.{Task, at}
use Rattle.bounds.specs.Bound.{sum}
use Rattle.dispatcher.specs.declared.slot.Slot.{Slot}
use Rattle.dispatcher.specs.declared.slot.Slot.TheVariants.{Empty, Pending, Halted}
use Rattle.dispatcher.specs.declared.end.Way.{Way}
use Rattle.dispatcher.specs.declared.end.End.{End}
use Rattle.dispatcher.specs.Slots.{is_pending, way_of, end_record}
use Rattle.dispatcher.specs.State.{State, slot_of, is_running}
use Rattle.dispatcher.specs.Records.{ends_at, ends_upto, Recorded}

module _ (ts : List Task) (s : State) (mark : Bool) (ran : Option ℕ) where
  -- how task i's job ends in the tick
  abbrev pub way_at : ℕ → Option Way
  way_at i = way_of (at ts i) s.clock (is_running ran i) mark (slot_of s i)

  -- the pending jobs of the first n tasks
  abbrev pub pending_upto : ℕ → ℕ
  pending_upto n = sum n (λ i. cond (is_pending (slot_of s i)) 1 0)

  pub ends_none : ends_upto ts s mark ran 0 ≡ []
  unfolding ends_upto
  ends_none = refl

  -- one task more
  pub ends_more : (i : ℕ) → ends_upto ts s mark ran (i + 1) ≡ ends_upto ts s mark ran i ++ ends_at ts s mark ran i
  unfolding ends_upto
  ends_more i = rw (add-one i)

  -- a job that ends was pending
  one_end : (i : ℕ) (w : Option Way) → way_at i ≡ w → length (end_record i s.clock (slot_of s i) w) ≤ cond (is_pending (slot_of s i)) 1 0
  one_end i None e = omega arith
  one_end i (Some w) e = on (slot_of s i) e
    where
      on : (sl : Slot) → way_of (at ts i) s.clock (is_running ran i) mark sl ≡ Some w → 1 ≤ cond (is_pending sl) 1 0
      on Empty q = absurd (let z : ◌≡◌ {A = ℕ} 0 1 = cc in omega arith)
      on (Pending c r u) q = omega arith
      on Halted q = absurd (let z : ◌≡◌ {A = ℕ} 0 1 = cc in omega arith)

  -- there are no more ends than pending jobs
  pub ends_few : (n : ℕ) → length (ends_upto ts s mark ran n) ≤ pending_upto n
  unfolding ends_upto
  ends_few zero = omega arith
  ends_few (suc n) = omega (arith, ends_few n, one_end n (way_at n) refl, length-append (ends_upto ts s mark ran n) (ends_at ts s mark ran n))

  pub pending_grows : (m n : ℕ) → m ≤ n → pending_upto m ≤ pending_upto n
  pending_grows m zero h = on m h
    where
      on : (m : ℕ) → m ≤ 0 → pending_upto m ≤ 0
      on zero h = omega arith
      on (suc m) h = absurd (omega arith)
  pending_grows m (suc n) h = elim (order m n h) [ inl e ↦ rw e (omega arith) | inr l ↦ omega (arith, pending_grows m n l) ]
    where
      order : (m n : ℕ) → m ≤ suc n → (m ≡ suc n) ⊎ (m ≤ n)
      order m n h = grind arith

  -- so a list with room for all pending jobs has room for the next end
  pub ends_room : (n i : ℕ) → i < n → (w : Way) → way_at i ≡ Some w → length (ends_upto ts s mark ran i) < pending_upto n
  ends_room n i l w e =
      let a = ends_few i in
      let b : 1 ≤ cond (is_pending (slot_of s i)) 1 0 = one_end i (Some w) e in
      let c : pending_upto (suc i) ≤ pending_upto n = pending_grows (suc i) n l in
      omega arith

-- a list whose front are the ends in this order, and whose rest is as before
pub recorded_as : (ends before after : List End) → after ≡ ends ++ drop (length ends) before → Recorded ends before after
recorded_as ends before after e = record {
  front = rw (e, front ends (drop (length ends) before)) (IsPermutation-refl ends);
  rest = rw (e, rest ends (drop (length ends) before));
}
  where
    front : (xs ys : List End) → take (length xs) (xs ++ ys) ≡ xs
    front [] ys = on ys
      where
        on : (ys : List End) → take 0 ys ≡ []
        on [] = refl
        on (y ∷ ys) = refl
    front (x ∷ xs) ys = ap (λ zs. x ∷ zs) (front xs ys)

    rest : (xs ys : List End) → drop (length xs) (xs ++ ys) ≡ ys
    rest [] ys = on ys
      where
        on : (ys : List End) → drop 0 ys ≡ ys
        on [] = refl
        on (y ∷ ys) = refl
    rest (x ∷ xs) ys = rest xs ys
