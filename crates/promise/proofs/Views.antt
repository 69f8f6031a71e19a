-- The dispatcher's lists, task by task: each accepted step of the state is a step of every task's own.
use Rattle.std.proofs.Common.{◌≡◌, ℕ, ◌<◌, Bool, true, false, cond, eqb, List, length, get_or, set, Option, refl, ◌∙◌, subst, arith}
use Rattle.std.proofs.lemmas.List.{get_or-set_same, get_or-set_other, length-set, length-map}
use Rattle.std.proofs.lemmas.List.FromFn.{get_or-map-range_with_len, length-range_with_len}
use Rattle.std.proofs.lemmas.Bool.{eqb-false}
use Rattle.group.specs.Task.{Task, Lawful, at}
use Rattle.dispatcher.specs.State as state
use Rattle.dispatcher.specs.State.{State, Standing, stands, new_seat, seated, standing, slot_of, is_running, release_one, resume_one, tick_one, ticked}
use Rattle.dispatcher.proofs.Fates.{fate, fated, tick_is_fated}
use Rattle.dispatcher.proofs.Sounds.{not_halted_is, release_is, released, resume_is, resumed}
use Rattle.promise.proofs.Window.{Flow, Same, next, Free, AllSound, eqb_true}
use Rattle.promise.proofs.Window.Move.{release, tick, resume}
use Rattle.dispatcher.proofs.Faults.{takes_from, Releases, Resumes}

-- where each task stands
abbrev pub flow : State → Flow
flow s = record { clock = s.clock; loop = λ i. standing s i }

-- the state has as many entries as there are tasks
abbrev pub Full : List Task → State → Type 0
Full ts s = length s.standings ≡ length ts

-- a set entry, or any other
set_standing : (xs : List Standing) (k i : ℕ) (x y d : Standing) → i < length xs → (i ≡ k → x ≡ y) → get_or (set xs k x) i d ≡ cond (eqb i k) y (get_or xs i d)
set_standing xs k i x y d l f = on (eqb i k) refl
  where
    on : (b : Bool) → eqb i k ≡ b → get_or (set xs k x) i d ≡ cond b y (get_or xs i d)
    on true e = let q = eqb_true i k e in subst (λ j. get_or (set xs j x) i d ≡ y) q (get_or-set_same xs i x d l ∙ f q)
    on false e = get_or-set_other xs k i x d (λ q. eqb-false i k e q)

-- The whole ----------------------------------------------------------------------------------------------------------------

module _ (ts : List Task) (law : (i : ℕ) → i < length ts → Lawful (at ts i)) (s : State) (full : Full ts s) (sound : AllSound (λ i. at ts i) (length ts) (flow s)) where
  pub free_of : (k : ℕ) → Releases ts s k → Free (λ i. at ts i) (flow s) k
  free_of k a =
      let q = takes_from (at ts k).gap s.clock (standing s k).seat (law k a.task).gap_low a.seat in
      (not_halted_is (slot_of s k) q.not_halted, q.by_now)

  pub released_same : (k : ℕ) → Releases ts s k → Same (length ts) (next (λ i. at ts i) (flow s) (release k)) (flow (state.released ts k s))
  released_same k a = record { clocks = refl; loops = each }
    where
      one : (i : ℕ) → i < length ts → i ≡ k → release_one (at ts k) s.clock (standing s k) ≡ released (at ts i) s.clock (standing s i)
      one i l e = subst (λ j. release_one (at ts j) s.clock (standing s j) ≡ released (at ts i) s.clock (standing s i)) e
          (release_is (at ts i) s.clock (standing s i) (sound i l)
          (takes_from (at ts i).gap s.clock (standing s i).seat (law i l).gap_low (rw e a.seat)))

      each : (i : ℕ) → i < length ts → standing (state.released ts k s) i ≡ cond (eqb i k) (released (at ts i) s.clock (standing s i)) (standing s i)
      each i l = set_standing s.standings k i (release_one (at ts k) s.clock (standing s k)) (released (at ts i) s.clock (standing s i)) (stands 0 new_seat)
          (rw full l) (one i l)

  pub resumed_same : (k : ℕ) → Resumes ts s k → Same (length ts) (next (λ i. at ts i) (flow s) (resume k)) (flow (state.resumed k s))
  resumed_same k a = record { clocks = refl; loops = each }
    where
      one : (i : ℕ) → i ≡ k → resume_one (standing s k) ≡ resumed (standing s i)
      one i e = subst (λ j. resume_one (standing s j) ≡ resumed (standing s i)) e (resume_is (standing s i) (rw e a.halted))

      each : (i : ℕ) → i < length ts → standing (state.resumed k s) i ≡ cond (eqb i k) (resumed (standing s i)) (standing s i)
      each i l = set_standing s.standings k i (resume_one (standing s k)) (resumed (standing s i)) (stands 0 new_seat) (rw full l) (one i)

  pub ticked_same : (mark : Bool) (ran : Option ℕ) → Same (length ts) (next (λ i. at ts i) (flow s) (tick mark ran)) (flow (ticked ts mark ran s))
  ticked_same mark ran = record { clocks = refl; loops = each }
    where
      each : (i : ℕ) → i < length ts → standing (ticked ts mark ran s) i ≡ fated (at ts i) (standing s i) (fate (at ts i) s.clock (is_running ran i) mark (slot_of s i))
      each i l =
          get_or-map-range_with_len (λ j. tick_one (at ts j) s.clock (is_running ran j) mark (standing s j)) 0 (length ts) i i (stands 0 new_seat) l (omega arith)
          ∙ tick_is_fated (at ts i) s.clock (is_running ran i) mark (standing s i)

pub released_full : (ts : List Task) (k : ℕ) (s : State) → Full ts s → Full ts (state.released ts k s)
released_full ts k s full = simp length-set full

pub resumed_full : (ts : List Task) (k : ℕ) (s : State) → Full ts s → Full ts (state.resumed k s)
resumed_full ts k s full = simp length-set full

pub ticked_full : (ts : List Task) (mark : Bool) (ran : Option ℕ) (s : State) → Full ts (ticked ts mark ran s)
ticked_full ts mark ran s = simp (length-map, length-range_with_len)
