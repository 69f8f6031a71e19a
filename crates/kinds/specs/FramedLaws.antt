-- A task of frames keeps the laws of a task.
use Rattle.std.specs.Prelude.{◌≡◌, ℕ, zero, suc, ◌*◌, ◌<◌, ◌≤◌, min, cond, List, [], ◌∷◌, length, nat_lt, refl}
use Rattle.std.proofs.Common.{ap, not-suc-le-zero, arith}
use Rattle.std.proofs.ByRecursion.{All-get_or}
use Rattle.std.proofs.lemmas.List.{get_or-map, length-map}
use Rattle.group.specs.declared.meaning.Outcome.{Outcome}
use Rattle.group.specs.declared.meaning.Outcome.TheVariants.{Finish, Miss}
use Rattle.group.specs.declared.meaning.Terms.{Terms}
use Rattle.group.specs.Task.{Task, Position, Class, Lawful, after, along, above, terms_of, no_terms}
use Rattle.plate.specs.declared.frame.Frame.{Frame}
use Rattle.plate.specs.Faults.{frame_at}
use Rattle.plate.specs.Rows.{Framed}
use Rattle.plate.specs.Plans.{SoundFramed, Within}
use Rattle.kinds.specs.Cycle.{next_class, successive, largest}
use Rattle.kinds.specs.Frames.{framed_task, frame_terms, frame_above}
use Rattle.kinds.specs.CycleLemmas.{within_low, within_high, next_within, successive_grows, successive_le, successive_small, largest_at, largest_le, largest_under}

falls_one : (p q r b : ℕ) → p ≤ q → cond (nat_lt q r) b 0 ≤ cond (nat_lt p r) b 0
falls_one p q r b h = grind arith

small_one : (p r b c : ℕ) → b ≤ c → cond (nat_lt p r) b 0 ≤ c
small_one p r b c h = grind arith

above_falls : (fs : List Frame) (p q x : ℕ) → p ≤ q → frame_above fs q x ≤ frame_above fs p x
above_falls fs p q zero h = omega arith
above_falls fs p q (suc j) h = falls_one p q (frame_at fs j).rank (frame_at fs j).budget h

module _ (f : Framed) (ok : SoundFramed f) where
  abbrev task : Task
  task = framed_task f

  abbrev count : ℕ
  count = length f.frames

  pub class_terms : (j : ℕ) → j < count → terms_of task (suc j) ≡ frame_terms (frame_at f.frames j)
  class_terms j h = get_or-map frame_terms f.frames j (record { budget = 0; rank = 0 }) no_terms h

  -- a frame keeps its rules
  pub kept : (j : ℕ) → j < count → Within 1 f.gap (frame_at f.frames j).budget × Within 1 255 (frame_at f.frames j).rank
  kept j l = All-get_or (λ x. Within 1 f.gap x.budget × Within 1 255 x.rank) f.frames j (record { budget = 0; rank = 0 }) l ok.frames

  moves : (x : ℕ) (o : Outcome) → Position task x → Position task (after task o x)
  moves x Finish h = next_within count x ok.classes.0
  moves x Miss h = next_within count x ok.classes.0

  weigh : (p x : ℕ) → Position task x → above task p x ≡ frame_above f.frames p x
  weigh p zero h = none p
    where
      none : (p : ℕ) → ◌≡◌ {A = ℕ} (cond (nat_lt p 0) 0 0) 0
      none p = grind arith
  weigh p (suc j) h = let l : j < count = omega (arith, within_high count (suc j) h) in rw (class_terms j l)

  -- both moves lead to the next frame, so a succession is a walk round the cycle
  pub walk : (p x : ℕ) (os : List Outcome) → Position task x → along task (above task p) x os ≡ successive (frame_above f.frames p) count x (length os)
  walk p x [] h = refl
  walk p x (Finish ∷ os) h =
      let ih : along task (above task p) (next_class count x) os ≡ successive (frame_above f.frames p) count (next_class count x) (length os) =
      walk p (next_class count x) os (moves x Finish h) in
      omega (arith, weigh p x h)
  walk p x (Miss ∷ os) h =
      let ih : along task (above task p) (next_class count x) os ≡ successive (frame_above f.frames p) count (next_class count x) (length os) =
      walk p (next_class count x) os (moves x Miss h) in
      omega (arith, weigh p x h)

  cover : (p x : ℕ) (os : List Outcome) → Position task x → length os ≤ 4095 → along task (above task p) x os ≤ task.demand (length os) p
  cover p x os h l =
      let sum : ℕ → ℕ = λ y. successive (frame_above f.frames p) count y (min (length os) 4095) in
      let a : sum x ≤ largest count sum = largest_at count sum x (within_low count x h) (within_high count x h) in
      let e : min (length os) 4095 ≡ length os = omega arith in
      let b : successive (frame_above f.frames p) count x (min (length os) 4095) ≡ successive (frame_above f.frames p) count x (length os) =
      ap (successive (frame_above f.frames p) count x) e in
      omega (arith, walk p x os h)

  grows : (M N p : ℕ) → M ≤ N → task.demand M p ≤ task.demand N p
  grows M N p h =
      largest_le count (λ x. successive (frame_above f.frames p) count x (min M 4095)) (λ x. successive (frame_above f.frames p) count x (min N 4095))
      (λ x _ _. successive_grows (frame_above f.frames p) count x (min M 4095) (min N 4095) (omega arith))

  falls : (N p q : ℕ) → p ≤ q → task.demand N q ≤ task.demand N p
  falls N p q h =
      largest_le count (λ x. successive (frame_above f.frames q) count x (min N 4095)) (λ x. successive (frame_above f.frames p) count x (min N 4095))
      (λ x _ _. successive_le (frame_above f.frames q) (frame_above f.frames p) count x (min N 4095) (λ y. above_falls f.frames p q y h))

  pub above_small : (p x : ℕ) → 1 ≤ x → x ≤ count → frame_above f.frames p x ≤ 4095
  above_small p zero h l = omega arith
  above_small p (suc j) h l =
      let e : j < count = omega arith in
      small_one p (frame_at f.frames j).rank (frame_at f.frames j).budget 4095 (omega (arith, (kept j e).0.1, ok.gap.1))

  capped : (N p : ℕ) → task.demand N p ≤ N * 4095
  capped N p =
      largest_under count (λ x. successive (frame_above f.frames p) count x (min N 4095)) (N * 4095)
      (λ x h l. let a : successive (frame_above f.frames p) count x (min N 4095) ≤ min N 4095 * 4095 =
      successive_small (frame_above f.frames p) count x (min N 4095) 4095 ok.classes.0 h l (above_small p) in omega arith)

  beyond : (N p : ℕ) → 4095 ≤ N → task.demand N p ≡ task.demand 4095 p
  beyond N p h =
      let e : min N 4095 ≡ min 4095 4095 = omega arith in
      ap (λ z. largest count (λ x. successive (frame_above f.frames p) count x z)) e

  pub by_class : (P : Terms → Type 0) → ((j : ℕ) → j < count → P (frame_terms (frame_at f.frames j))) → (c : ℕ) → Class task c → P (terms_of task c)
  by_class P h zero k = absurd (not-suc-le-zero k.0)
  by_class P h (suc j) k =
      let l : j < count = omega (arith, k.1, length-map f.frames frame_terms) in
      rw (class_terms j l) (h j l)

  pub lawful : Lawful task
  lawful = record {
    gap_low = ok.gap.0;
    gap_high = ok.gap.1;
    classes_low = omega (arith, length-map f.frames frame_terms, ok.classes.0);
    classes_high = omega (arith, length-map f.frames frame_terms, ok.classes.1);
    rank_low = by_class (λ c. 1 ≤ c.rank) (λ j l. (kept j l).1.0);
    rank_high = by_class (λ c. c.rank ≤ 255) (λ j l. (kept j l).1.1);
    budget_low = by_class (λ c. 1 ≤ c.budget) (λ j l. (kept j l).0.0);
    budget_high = by_class (λ c. c.budget ≤ f.gap) (λ j l. (kept j l).0.1);
    classed = λ x p. (within_low count x p, (let w = within_high count x p in omega (arith, length-map f.frames frame_terms)));
    moves = moves;
    cover = cover;
    grows = grows;
    falls = falls;
    capped = capped;
    beyond = beyond;
  }
