-- Some succession asks for all of the demand.
use Rattle.std.proofs.Common.{◌≡◌, ℕ, zero, suc, ◌+◌, ◌-◌, ◌*◌, ◌/◌, ◌%◌, ◌<◌, ◌≤◌, min, Bool, true, false, cond, ltb, ◌⊎◌, length, get_or, replicate, refl, ap, ◌∙◌, inl, inr, mul-le-mul_left, arith}
use lib.ListN.{length-replicate}
use Rattle.group.specs.declared.meaning.Outcome.TheVariants.{Finish, Miss}
use Rattle.group.specs.Task.{Task, Position, Attained, along, above}
use Rattle.group.proofs.Successions.{along_le, along_scaled}
use Rattle.plate.specs.Rows.{Counted, Framed}
use Rattle.plate.specs.Plans.{SoundCounted, SoundFramed}
use Rattle.kinds.specs.Cycle.{successive, next_class}
use Rattle.kinds.specs.MissCounted.{counted_task, most, count_above}
use Rattle.kinds.specs.Frames.{framed_task, frame_above}
use Rattle.kinds.specs.Cover.{top}
use Rattle.kinds.specs.Ranks.{count_le, low_ranks, class_terms}
use Rattle.kinds.specs.CountedLaws.{moves, rising, lawful}
use Rattle.kinds.specs.CycleLemmas.{within_low, within_high, is_within, wraps, turn, largest_of}
use Rattle.kinds.specs.FramedLaws as frames

-- frames: begin at the best start
pub framed_attained : (f : Framed) → SoundFramed f → Attained (framed_task f)
framed_attained f ok N p h =
    let k = length f.frames in
    let sum : ℕ → ℕ = λ x. successive (frame_above f.frames p) k x (min N 4095) in
    let best = largest_of k sum ok.classes.0 in
    let x = best.0 in
    let os = replicate N Finish in
    let pos : Position (framed_task f) x = is_within k x best.1 best.2 in
    let n : length os ≡ N = length-replicate N Finish in
    let e : length os ≡ min N 4095 = omega arith in
    (x, os, pos, n, frames.walk f ok p x os pos ∙ (ap (successive (frame_above f.frames p) k x) e ∙ best.3))

-- with misses alone a miss-counted task goes round its classes
all_missed : (c : Counted) (w : ℕ → ℕ) (x N : ℕ) → along (counted_task c) w x (replicate N Miss) ≡ successive w (length c.ranks) x N
all_missed c w x zero = refl
all_missed c w x (suc N) = ap (λ s. w x + s) (all_missed c w (next_class (length c.ranks) x) N)

-- from a top class on, the top classes come first
top_first : (u k x r : ℕ) → u < x → x ≤ k → min r (k + 1 - x) ≤ successive (top u) k x r
top_first u k x zero h l = omega arith
top_first u k x (suc r) h l = at (ltb x k) refl (λ b. top_first u k (x + 1) r (omega arith) b)
  where
    one : (u x a : ℕ) → u < x → cond (ltb u x) 1 0 + a ≡ suc a
    one u x a h = grind arith

    tell : (x k : ℕ) → ltb x k ≡ true → x + 1 ≤ k
    tell x k e = grind arith

    deny : (x k : ℕ) → ltb x k ≡ false → k ≤ x
    deny x k e = grind arith

    at : (b : Bool) → ltb x k ≡ b → (x + 1 ≤ k → min r (k + 1 - (x + 1)) ≤ successive (top u) k (x + 1) r) →
        min (suc r) (k + 1 - x) ≤ cond (ltb u x) 1 0 + successive (top u) k (cond b (x + 1) 1) r
    at true e ih =
        let a : min r (k + 1 - (x + 1)) ≤ successive (top u) k (x + 1) r = ih (tell x k e) in
        omega (arith, one u x (successive (top u) k (x + 1) r) h)
    at false e ih = omega (arith, one u x (successive (top u) k 1 r) h, deny x k e)

module _ (c : Counted) (ok : SoundCounted c) where
  abbrev task : Task
  task = counted_task c

  abbrev count : ℕ
  count = length c.ranks

  -- a top class is counted
  weigh_back : (p x : ℕ) → Position task x → c.budget * top (count - count_above p c.ranks) x ≤ above task p x
  weigh_back p zero h = omega (arith, within_low count zero h)
  weigh_back p (suc j) h =
      let l : j < count = omega (arith, within_high count (suc j) h) in
      rw (class_terms c.budget c.ranks j l) (step (get_or c.ranks j 0) count (count_above p c.ranks) (λ g. low_ranks p c.ranks j (rising c ok) l g))
    where
      step : (r k n : ℕ) → (r ≤ p → j + 1 + n ≤ k) → c.budget * cond (ltb (k - n) (suc j)) 1 0 ≤ cond (ltb p r) c.budget 0
      step r k n h = grind arith

  start : (k n : ℕ) → n ≤ k → (n ≡ 0) ⊎ (k - n < k)
  start k n h = grind arith

  attained_at : (p N x : ℕ) → N ≤ 4095 → Position task x →
      most count (count_above p c.ranks) N ≤ along task (top (count - count_above p c.ranks)) x (replicate N Miss) →
      along task (above task p) x (replicate N Miss) ≡ task.demand N p
  attained_at p N x h pos low =
      let C = c.budget in
      let n = count_above p c.ranks in
      let u = count - n in
      let os = replicate N Miss in
      let l : length os ≡ N = length-replicate N Miss in
      let up : along task (above task p) x os ≤ C * most count n (min (length os) 4095) = (lawful c ok).cover p x os pos (omega arith) in
      let up' : C * most count n (min (length os) 4095) ≡ C * most count n (min N 4095) = ap (λ z. C * most count n (min z 4095)) l in
      let cap : min N 4095 ≡ N = omega arith in
      let cap' : C * most count n (min N 4095) ≡ C * most count n N = ap (λ z. C * most count n z) cap in
      let a : along task (λ y. C * top u y) x os ≤ along task (above task p) x os =
      along_le task (moves c ok) (λ y. C * top u y) (above task p) (weigh_back p) x os pos in
      let b : along task (λ y. C * top u y) x os ≡ C * along task (top u) x os = along_scaled task C (top u) x os in
      let d : C * most count n N ≤ C * along task (top u) x os = mul-le-mul_left C low in
      omega arith

  -- from the first top class on
  from_top : (n N : ℕ) → n ≤ count → count - n < count → most count n N ≤ along task (top (count - n)) (count - n + 1) (replicate N Miss)
  from_top n N h l =
      let k = count in
      let u = count - n in
      let whole : min k (k + 1 - (u + 1)) ≤ successive (top u) k (u + 1) k = top_first u k (u + 1) k (omega arith) (omega arith) in
      let rest : min (N % k) (k + 1 - (u + 1)) ≤ successive (top u) k (u + 1) (N % k) = top_first u k (u + 1) (N % k) (omega arith) (omega arith) in
      let n-top : n ≤ successive (top u) k 1 k = omega (arith, turn (top u) k (u + 1) (omega arith) (omega arith)) in
      let turns : N / k * n ≤ N / k * successive (top u) k 1 k = mul-le-mul_left (N / k) n-top in
      omega (arith, all_missed c (top u) (u + 1) N, wraps (top u) k (u + 1) N (omega arith) (omega arith))

  pub counted_attained : Attained task
  counted_attained N p h =
      elim (start count (count_above p c.ranks) (count_le p c.ranks)) [
        | inl e ↦
            let pos : Position task 1 = is_within count 1 (omega arith) ok.classes.0 in
            (1, replicate N Miss, pos, length-replicate N Miss, attained_at p N 1 h pos (none N (count_above p c.ranks) e))
        | inr l ↦
            let x = count - count_above p c.ranks + 1 in
            let pos : Position task x = is_within count x (omega arith) (omega arith) in
            (x, replicate N Miss, pos, length-replicate N Miss, attained_at p N x h pos (from_top (count_above p c.ranks) N (count_le p c.ranks) l))
      ]
    where
      none : (N n : ℕ) → n ≡ 0 → {a : ℕ} → most count n N ≤ a
      none N n e = let f : N / count * n ≡ N / count * 0 = ap (λ z. N / count * z) e in omega arith
