-- What the records of a tick tell: each is of a job that ended so, and each job that ended has one, whatever their order.
use Rattle.std.proofs.Common.{◌≡◌, ℕ, zero, suc, ◌+◌, ◌<◌, ◌≤◌, Bool, true, false, cond, eqb, ◌≢◌, ◌⊎◌, List, [], ◌∷◌, ◌++◌, Some, None, Option, sym, refl, ◌∙◌, subst, inl, inr, arith}
use Rattle.std.specs.List.Sorted.{IsPermutation}
use Rattle.std.specs.List.{AllByRecursion}
use Rattle.std.proofs.ByRecursion.{All-append, all_shuffled}
use Rattle.std.proofs.lemmas.List.Sorted.{IsPermutation-sym}
use Rattle.std.proofs.lemmas.Bool.{eqb-false}
use Rattle.group.specs.Task.{Task}
use Rattle.dispatcher.specs.declared.end.Way.{Way}
use Rattle.dispatcher.specs.declared.end.End.{End}
use Rattle.dispatcher.specs.Slots.{class_of, age_of, end_record}
use Rattle.dispatcher.specs.State.{State, slot_of}
use Rattle.dispatcher.specs.Records.{ends_at, ends_upto}
use Rattle.promise.specs.Reading.{told}
use Rattle.dispatcher.proofs.Ends.{way_at}
use Rattle.dispatcher.proofs.Faults.{never}
use Rattle.promise.proofs.Window.{eqb_true}

module _ (ts : List Task) (s : State) (mark : Bool) (ran : Option ℕ) where
  -- a record tells of an end
  pub record Tells (n : ℕ) (e : End) : Type 0 where
    pub task : e.task < n
    pub way : way_at ts s mark ran e.task ≡ Some e.way
    pub class : e.class ≡ class_of (slot_of s e.task)
    pub age : e.age ≡ age_of (s.clock + 1) (slot_of s e.task)

  one_tells : (n i : ℕ) → i < n → (w : Option Way) → way_at ts s mark ran i ≡ w → AllByRecursion (Tells n) (end_record i s.clock (slot_of s i) w)
  one_tells n i l None e = tt
  one_tells n i l (Some w) e = (record { task = l; way = e; class = refl; age = refl }, tt)

  upto_tells : (n m : ℕ) → m ≤ n → AllByRecursion (Tells n) (ends_upto ts s mark ran m)
  unfolding ends_upto
  upto_tells n zero h = tt
  upto_tells n (suc m) h = All-append (Tells n) (ends_upto ts s mark ran m) (ends_at ts s mark ran m) (upto_tells n m (omega arith)) (one_tells n m (omega arith) (way_at ts s mark ran m) refl)

  all_left : (P : End → Type 0) (xs ys : List End) → AllByRecursion P (xs ++ ys) → AllByRecursion P xs
  all_left P [] ys a = tt
  all_left P (x ∷ xs) ys a = (a.0, all_left P xs ys a.1)

  all_right : (P : End → Type 0) (xs ys : List End) → AllByRecursion P (xs ++ ys) → AllByRecursion P ys
  all_right P [] ys a = a
  all_right P (x ∷ xs) ys a = all_right P xs ys a.1

  -- what holds of all records holds of each task's own
  upto_at : (P : End → Type 0) (n i : ℕ) → i < n → AllByRecursion P (ends_upto ts s mark ran n) → AllByRecursion P (ends_at ts s mark ran i)
  unfolding ends_upto
  upto_at P zero i l a = absurd (omega arith)
  upto_at P (suc n) i l a = elim (order i n l) [
    | inl z ↦ rw z (all_right P (ends_upto ts s mark ran n) (ends_at ts s mark ran n) a)
    | inr z ↦ upto_at P n i z (all_left P (ends_upto ts s mark ran n) (ends_at ts s mark ran n) a)
  ]
    where
      order : (a b : ℕ) → a < suc b → (a ≡ b) ⊎ (a < b)
      order a b h = grind arith

  -- the way that is told is that of a record of the task; where none is told there is no record of it
  told_some : (n k : ℕ) (rs : List End) → AllByRecursion (Tells n) rs → (w : Way) → told k rs ≡ Some w → way_at ts s mark ran k ≡ Some w
  told_some n k [] a w e = never (cc)
  told_some n k (r ∷ rs) a w e = on (eqb r.task k) refl e (λ z. told_some n k rs a.1 w z)
    where
      on : (b : Bool) → eqb r.task k ≡ b → cond b (Some r.way) (told k rs) ≡ Some w → (told k rs ≡ Some w → way_at ts s mark ran k ≡ Some w) → way_at ts s mark ran k ≡ Some w
      on true q z f = subst (λ i. way_at ts s mark ran i ≡ Some w) (eqb_true r.task k q) (a.0.way ∙ z)
      on false q z f = f z

  told_none : (k : ℕ) (rs : List End) → told k rs ≡ None → AllByRecursion (λ e. e.task ≢ k) rs
  told_none k [] e = tt
  told_none k (r ∷ rs) e = on (eqb r.task k) refl e (λ z. told_none k rs z)
    where
      on : (b : Bool) → eqb r.task k ≡ b → cond b (Some r.way) (told k rs) ≡ None → (told k rs ≡ None → AllByRecursion (λ e. e.task ≢ k) rs) → AllByRecursion (λ e. e.task ≢ k) (r ∷ rs)
      on true q z f = never (cc)
      on false q z f = (eqb-false r.task k q, f z)

  pub all_tell : (n : ℕ) (rs : List End) → IsPermutation (ends_upto ts s mark ran n) rs → AllByRecursion (Tells n) rs
  all_tell n rs h = all_shuffled (Tells n) (ends_upto ts s mark ran n) rs h (upto_tells n n (omega arith))

  -- the records of a tick tell of each task how its job ended, if it did
  pub told_way : (n : ℕ) (rs : List End) → IsPermutation (ends_upto ts s mark ran n) rs → (k : ℕ) → k < n → told k rs ≡ way_at ts s mark ran k
  told_way n rs h k l = on (told k rs) refl
    where
      unsaid : told k rs ≡ None → (w : Option Way) → way_at ts s mark ran k ≡ w → None ≡ way_at ts s mark ran k
      unsaid e None q = sym q
      unsaid e (Some w) q =
          let a = upto_at (λ e. e.task ≢ k) n k l (all_shuffled (λ e. e.task ≢ k) rs (ends_upto ts s mark ran n) (IsPermutation-sym (ends_upto ts s mark ran n) rs h) (told_none k rs e)) in
          let b : AllByRecursion (λ e. e.task ≢ k) (end_record k s.clock (slot_of s k) (Some w)) = rw q at a in
          absurd (b.0 refl)

      on : (o : Option Way) → told k rs ≡ o → o ≡ way_at ts s mark ran k
      on None e = unsaid e (way_at ts s mark ran k) refl
      on (Some w) e = sym (told_some n k rs (all_tell n rs h) w e)
