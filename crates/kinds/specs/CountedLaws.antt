-- A miss-counted task keeps the laws of a task.
use Rattle.std.specs.Prelude.{◌≡◌, ℕ, zero, suc, ◌+◌, ◌-◌, ◌*◌, ◌<◌, ◌≤◌, min, max, cond, List, length, nat_lt, slice_index, slice_index_or}
use Rattle.std.proofs.Common.{ap, mul-le-mul_left, mul-le-mul, mul_comm, not-suc-le-zero, arith}
use Rattle.std.proofs.ByRecursion.{All-get_or}
use Rattle.group.specs.declared.meaning.Outcome.{Outcome}
use Rattle.group.specs.declared.meaning.Outcome.TheVariants.{Finish, Miss}
use Rattle.group.specs.declared.meaning.Terms.{Terms}
use Rattle.group.specs.Task.{Task, Position, Class, Lawful, along, above, terms_of}
use Rattle.group.proofs.Successions.{Moves, along_le, along_scaled, rounds}
use Rattle.plate.specs.Rows.{Counted}
use Rattle.plate.specs.Plans.{SoundCounted, Within}
use Rattle.kinds.specs.MissCounted.{counted_task, most, count_above}
use Rattle.kinds.specs.CycleLemmas.{within_low, within_high, is_within, next_within}
use Rattle.kinds.specs.Cover.{top, climb, window}
use Rattle.kinds.specs.Most.{most_grows, most_wider, most_few}
use Rattle.kinds.specs.Ranks.{Rising, count_le, count_falls, top_ranks, classes_length, class_terms, one_class}

module _ (c : Counted) (ok : SoundCounted c) where
  abbrev task : Task
  task = counted_task c

  pub moves : Moves task
  moves x Finish h = is_within (length c.ranks) 1 (omega arith) ok.classes.0
  moves x Miss h = next_within (length c.ranks) x ok.classes.0

  pub rising : Rising c.ranks
  rising j l =
      let e : j + 1 ≡ suc j = omega arith in
      let h : slice_index_or c.ranks j 0 ≤ slice_index_or c.ranks (j + 1) 0 = ok.rise j (omega arith) in
      rw e at h

  -- a class that is counted is one of the top ones
  weigh : (p x : ℕ) → Position task x → above task p x ≤ c.budget * top (length c.ranks - count_above p c.ranks) x
  weigh p zero h = omega (arith, within_low (length c.ranks) zero h)
  weigh p (suc j) h =
      let l : j < length c.ranks = omega (arith, within_high (length c.ranks) (suc j) h) in
      rw (class_terms c.budget c.ranks j l) (step (slice_index c.ranks j) (length c.ranks) (count_above p c.ranks) (λ g. top_ranks p c.ranks j rising l g))
    where
      step : (r k n : ℕ) → (p < r → k ≤ j + n) → cond (nat_lt p r) c.budget 0 ≤ c.budget * cond (nat_lt (k - n) (suc j)) 1 0
      step r k n h = grind arith

  -- of any jobs in a row so many at most are in the top n classes
  tops : (n x : ℕ) (os : List Outcome) → n ≤ length c.ranks → Position task x → along task (top (length c.ranks - n)) x os ≤ most (length c.ranks) n (length os)
  tops n x os h pos =
      rounds task moves (top (length c.ranks - n)) (length c.ranks) n (λ r. min r n) whole part ok.classes.0 x os pos
    where
      whole : (x : ℕ) (os : List Outcome) → Position task x → length os ≡ length c.ranks → along task (top (length c.ranks - n)) x os ≤ n
      whole x os p e =
          let k = length c.ranks in
          let u = length c.ranks - n in
          let w : along task (top u) x os ≤ max (min (k - u) (k + 1 - x)) (length os - u) =
          window c u x os (within_low k x p) (within_high k x p) (omega arith) in
          omega arith

      part : (x : ℕ) (os : List Outcome) → Position task x → length os < length c.ranks → along task (top (length c.ranks - n)) x os ≤ min (length os) n
      part x os p e =
          let k = length c.ranks in
          let u = length c.ranks - n in
          let w : along task (top u) x os ≤ max (min (k - u) (k + 1 - x)) (length os - u) =
          window c u x os (within_low k x p) (within_high k x p) (omega arith) in
          let d : along task (top u) x os ≤ length os - (u + 1 - x) = climb c u x os in
          omega arith

  cover : (p x : ℕ) (os : List Outcome) → Position task x → length os ≤ 4095 → along task (above task p) x os ≤ task.demand (length os) p
  cover p x os pos h =
      let k = length c.ranks in
      let n = count_above p c.ranks in
      let u = k - n in
      let a : along task (above task p) x os ≤ along task (λ y. c.budget * top u y) x os =
      along_le task moves (above task p) (λ y. c.budget * top u y) (weigh p) x os pos in
      let b : along task (λ y. c.budget * top u y) x os ≡ c.budget * along task (top u) x os = along_scaled task c.budget (top u) x os in
      let d : c.budget * along task (top u) x os ≤ c.budget * most k n (length os) = mul-le-mul_left c.budget (tops n x os (count_le p c.ranks) pos) in
      let e : min (length os) 4095 ≡ length os = omega arith in
      let f : c.budget * most k n (min (length os) 4095) ≡ c.budget * most k n (length os) = ap (λ N. c.budget * most k n N) e in
      omega arith

  grows : (M N p : ℕ) → M ≤ N → task.demand M p ≤ task.demand N p
  grows M N p h =
      mul-le-mul_left c.budget (most_grows (length c.ranks) (count_above p c.ranks) (min M 4095) (min N 4095) ok.classes.0 (omega arith))

  falls : (N p q : ℕ) → p ≤ q → task.demand N q ≤ task.demand N p
  falls N p q h =
      mul-le-mul_left c.budget (most_wider (length c.ranks) (count_above q c.ranks) (count_above p c.ranks) (min N 4095) (count_falls p q c.ranks h))

  capped : (N p : ℕ) → task.demand N p ≤ N * 4095
  capped N p =
      let n = count_above p c.ranks in
      let a : most (length c.ranks) n (min N 4095) ≤ min N 4095 = most_few (length c.ranks) n (min N 4095) (count_le p c.ranks) in
      let h : c.budget ≤ 4095 = omega (arith, ok.budget.1, ok.gap.1) in
      let b : c.budget * most (length c.ranks) n (min N 4095) ≤ 4095 * N = mul-le-mul h (omega arith) in
      omega (arith, mul_comm 4095 N)

  beyond : (N p : ℕ) → 4095 ≤ N → task.demand N p ≡ task.demand 4095 p
  beyond N p h =
      let e : min N 4095 ≡ min 4095 4095 = omega arith in
      ap (λ z. c.budget * most (length c.ranks) (count_above p c.ranks) z) e

  pub by_class : (P : Terms → Type 0) → ((j : ℕ) → j < length c.ranks → P (one_class c.budget c.ranks j (nat_lt (suc j) (length c.ranks)))) →
      (x : ℕ) → Class task x → P (terms_of task x)
  by_class P h zero k = absurd (not-suc-le-zero k.0)
  by_class P h (suc j) k =
      let l : j < length c.ranks = omega (arith, k.1, classes_length c.budget c.ranks) in
      rw (class_terms c.budget c.ranks j l) (h j l)

  ranked : (j : ℕ) → j < length c.ranks → Within 1 255 (slice_index c.ranks j)
  ranked j l = All-get_or (Within 1 255) c.ranks j 0 l ok.ranks

  pub lawful : Lawful task
  lawful = record {
    gap_low = ok.gap.0;
    gap_high = ok.gap.1;
    classes_low = omega (arith, classes_length c.budget c.ranks, ok.classes.0);
    classes_high = omega (arith, classes_length c.budget c.ranks, ok.classes.1);
    rank_low = by_class (λ t. 1 ≤ t.rank) (λ j l. (ranked j l).0);
    rank_high = by_class (λ t. t.rank ≤ 255) (λ j l. (ranked j l).1);
    budget_low = by_class (λ t. 1 ≤ t.budget) (λ j l. ok.budget.0);
    budget_high = by_class (λ t. t.budget ≤ c.gap) (λ j l. ok.budget.1);
    classed = λ x p. (within_low (length c.ranks) x p, (let w = within_high (length c.ranks) x p in omega (arith, classes_length c.budget c.ranks)));
    moves = moves;
    cover = cover;
    grows = grows;
    falls = falls;
    capped = capped;
    beyond = beyond;
  }
