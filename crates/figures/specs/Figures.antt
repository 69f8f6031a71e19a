-- The figures to check by: each follows from the definitions. Assumes nothing.
use Rattle.std.specs.Prelude.{◌≡◌, ℕ, List, [], ◌∷◌, map, length, Some, None, Option}
use Rattle.plate.specs.Rows.{Counted, Framed}
use Rattle.kinds.specs.MissCounted.{counted_task}
use Rattle.kinds.specs.Frames.{framed_task}
use Rattle.std.specs.List.{range_with_len, flat_map}
use Rattle.denial.specs.declared.Rule.TheVariants.{Unbounded}
use Rattle.denial.specs.Numbers.{denied}
use Rattle.group.specs.Task.{Task, at}
use Rattle.bounds.specs.Bound.{bound}
use Rattle.admission.specs.Start.{plan_fault}

-- three tolerated misses, budget 1, and two of the four classes ranked above 5
abbrev pub four_classes : Counted
four_classes = record { gap = 9; budget = 1; ranks = 1 ∷ (2 ∷ (7 ∷ (8 ∷ []))) }

-- frames of 5, 1 and 1, all ranked above 5
abbrev pub three_frames : Framed
three_frames = record {
  gap = 9;
  frames = record { budget = 5; rank = 7 } ∷ (record { budget = 1; rank = 6 } ∷ (record { budget = 1; rank = 9 } ∷ []));
}

-- the printed plan: two tasks that tolerate one miss each
abbrev pub printed : List Task
printed =
    counted_task (record { gap = 4; budget = 2; ranks = 10 ∷ (40 ∷ []) }) ∷ (counted_task (record { gap = 6; budget = 3; ranks = 20 ∷ (30 ∷ []) }) ∷ [])

-- a task that tolerates no miss, and two frames, the first of them above it and the second below, with this gap
abbrev pub around : ℕ → List Task
around gap =
    counted_task (record { gap = 12; budget = 4; ranks = 50 ∷ [] })
    ∷ (framed_task (record { gap = gap; frames = record { budget = 7; rank = 90 } ∷ (record { budget = 1; rank = 20 } ∷ []) }) ∷ [])

-- one task alone
abbrev pub alone : (gap budget : ℕ) → List Task
alone gap budget = counted_task (record { gap = gap; budget = budget; ranks = 1 ∷ [] }) ∷ []

-- the bounds of all classes, in the order of task and class
abbrev pub all_bounds : List Task → List (Option ℕ)
all_bounds ts = flat_map (λ k. map (bound ts k) (range_with_len 1 (length (at ts k).classes))) (range_with_len 0 (length ts))

pub record Figures : Type 0 where
  -- the demands of 1 to 7 jobs of the miss-counted task above rank 5
  pub counted_demands :
      map (λ N. (counted_task four_classes).demand N 5) (1 ∷ (2 ∷ (3 ∷ (4 ∷ (5 ∷ (6 ∷ (7 ∷ []))))))) ≡ 1 ∷ (2 ∷ (2 ∷ (2 ∷ (3 ∷ (4 ∷ (4 ∷ []))))))
  -- the demands of 1 to 5 jobs of the frame task above rank 5
  pub framed_demands : map (λ N. (framed_task three_frames).demand N 5) (1 ∷ (2 ∷ (3 ∷ (4 ∷ (5 ∷ []))))) ≡ 5 ∷ (6 ∷ (7 ∷ (12 ∷ (13 ∷ []))))

pub record StartFigures : Type 0 where
  -- the printed plan: its bounds, and it may be started
  pub printed_bounds : all_bounds printed ≡ None ∷ (Some 2 ∷ (Some 5 ∷ (Some 5 ∷ [])))
  pub printed_verdict : plan_fault printed ≡ None
  -- frames with a gap of 10: the second has no bound, and its miss would not be tolerated
  pub tight_bounds : all_bounds (around 10) ≡ Some 11 ∷ (Some 7 ∷ (None ∷ []))
  pub tight_verdict : plan_fault (around 10) ≡ Some (denied Unbounded 1 2)
  -- with a gap of 11 it has one
  pub wide_bounds : all_bounds (around 11) ≡ Some 11 ∷ (Some 7 ∷ (Some 11 ∷ []))
  pub wide_verdict : plan_fault (around 11) ≡ None
  -- gap 1 and budget 1, alone
  pub least_bounds : all_bounds (alone 1 1) ≡ Some 1 ∷ []
  pub least_verdict : plan_fault (alone 1 1) ≡ None
