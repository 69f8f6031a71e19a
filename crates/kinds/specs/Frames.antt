-- The frames kind (multiframe tasks): a cycle of frames, each with its own budget and rank. Assumes nothing.
use Rattle.std.specs.Prelude.{ℕ, zero, suc, min, false, cond, List, map, length, nat_lt}
use Rattle.group.specs.declared.meaning.Terms.{Terms}
use Rattle.group.specs.Task.{Task}
use Rattle.plate.specs.declared.frame.Frame.{Frame}
use Rattle.plate.specs.Faults.{frame_at}
use Rattle.plate.specs.Rows.{Framed}
use Rattle.kinds.specs.Cycle.{within, next_class, successive, largest}

-- the class that a frame is; no miss is tolerated
abbrev pub frame_terms : Frame → Terms
frame_terms f = record { rank = f.rank; budget = f.budget; tolerated = false }

-- the budget of frame x, x from 1, if its rank is above p
abbrev pub frame_above : List Frame → ℕ → ℕ → ℕ
frame_above fs p zero = 0
frame_above fs p (suc j) = cond (nat_lt p (frame_at fs j).rank) (frame_at fs j).budget 0

-- The task that a frame row means. Class c is frame c, and every job leads to the next frame. The demand is the largest sum
-- over N successive frames of the budgets ranked above p.
abbrev pub framed_task : Framed → Task
framed_task f = record {
  gap = f.gap;
  classes = map frame_terms f.frames;
  is_position = within (length f.frames);
  class_at = λ x. x;
  after_finish = next_class (length f.frames);
  after_miss = next_class (length f.frames);
  demand = λ N p. largest (length f.frames) (λ x. successive (frame_above f.frames p) (length f.frames) x (min N 4095));
}
