-- Which tasks are miss-counted by their classes and moves.
use Rattle.std.proofs.Common.{◌≡◌, ℕ, zero, suc, ◌+◌, ◌-◌, ◌<◌, ◌≤◌, true, false, ltb, leb, length, refl, ap, ◌∙◌, not-suc-le-zero, arith}
use Rattle.std.proofs.lemmas.List.{length-map}
use Rattle.group.specs.Task.{Class, terms_of}
use Rattle.plate.specs.Faults.{frame_at}
use Rattle.plate.specs.Rows.{Counted, Framed}
use Rattle.plate.specs.Plans.{SoundCounted, SoundFramed}
use Rattle.kinds.specs.Cycle.{next_class}
use Rattle.kinds.specs.MissCounted.{counted_task, IsMissCounted}
use Rattle.kinds.specs.Frames.{framed_task, frame_terms}
use Rattle.kinds.specs.CycleLemmas.{within_low, next_up, next_round}
use Rattle.kinds.specs.Ranks.{classes_length, class_terms}
use Rattle.kinds.specs.CountedLaws as missed
use Rattle.kinds.specs.FramedLaws as frames

-- tolerated in every class but the last
but_last : (c k : ℕ) → 1 ≤ k → ltb c k ≡ leb c (k - 1)
but_last c k h = grind arith

module _ (c : Counted) (ok : SoundCounted c) where
  rise : (j : ℕ) → 1 ≤ j → j ≤ length c.ranks - 1 → (terms_of (counted_task c) j).rank ≤ (terms_of (counted_task c) (j + 1)).rank
  rise zero h l = absurd (not-suc-le-zero h)
  rise (suc j) h l =
      let s : suc j + 1 ≡ suc (suc j) = omega arith in
      let here : j < length c.ranks = omega arith in
      let next : suc j < length c.ranks = omega arith in
      rw (s, class_terms c.budget c.ranks j here, class_terms c.budget c.ranks (suc j) next) (missed.rising c ok j next)

  pub counted_counts : IsMissCounted (counted_task c)
  counted_counts = record {
    misses = length c.ranks - 1;
    few = let h = ok.classes.1 in omega arith;
    classes = classes_length c.budget c.ranks ∙ (let h = ok.classes.0 in omega arith);
    budget = c.budget;
    budgets = missed.by_class c ok (λ t. t.budget ≡ c.budget) (λ j l. refl);
    rise = rise;
    tolerated = tolerated;
    finish = λ x p. refl;
    miss = λ x p h. next_up (length c.ranks) x (let e = ok.classes.0 in omega arith);
    last = λ x p h. next_round (length c.ranks) x (let e = ok.classes.0 in omega arith);
  }
    where
      tolerated : (x : ℕ) → Class (counted_task c) x → (terms_of (counted_task c) x).tolerated ≡ leb x (length c.ranks - 1)
      tolerated zero k = absurd (not-suc-le-zero k.0)
      tolerated (suc j) k =
          let l : j < length c.ranks = omega (arith, k.1, classes_length c.budget c.ranks) in
          ap (λ t. t.tolerated) (class_terms c.budget c.ranks j l) ∙ but_last (suc j) (length c.ranks) ok.classes.0

-- a cycle of one frame tolerates no miss
pub one_frame_counts : (f : Framed) → SoundFramed f → length f.frames ≡ 1 → IsMissCounted (framed_task f)
one_frame_counts f ok one = record {
  misses = 0;
  few = omega arith;
  classes = length-map f.frames frame_terms ∙ (one ∙ refl);
  budget = (frame_at f.frames 0).budget;
  budgets = frames.by_class f ok (λ t. t.budget ≡ (frame_at f.frames 0).budget) (λ j l. let e : j ≡ 0 = omega arith in ap (λ z. (frame_at f.frames z).budget) e);
  rise = λ c h l. omega arith;
  tolerated = λ c k. frames.by_class f ok (λ t. t.tolerated ≡ false) (λ j l. refl) c k ∙ none c k.0;
  finish = λ x p. back x p;
  miss = λ x p h. let e = within_low (length f.frames) x p in omega arith;
  last = λ x p h. back x p;
}
  where
    none : (c : ℕ) → 1 ≤ c → false ≡ leb c 0
    none c h = grind arith

    back : (x : ℕ) → (framed_task f).is_position x ≡ true → next_class (length f.frames) x ≡ 1
    back x p = next_round (length f.frames) x (let e = within_low (length f.frames) x p in omega arith)
