-- The sheet of a plate's plan.
use Rattle.std.proofs.Common.{◌≡◌, ℕ, ◌+◌, ◌-◌, ◌<◌, ◌≤◌, List, [], ◌++◌, map, length, Ok, Err, codes, Result, refl, inl, inr, arith, MatchResult}
use Rattle.std.proofs.ByRecursion.{All-get_or}
use Rattle.std.proofs.lemmas.List.{length-append, length-map, get_or-map}
use Rattle.std.proofs.lemmas.Bool.{cases_lt}
use Rattle.denial.specs.declared.Denial.{Denial}
use Rattle.denial.specs.Numbers.{report}
use Rattle.group.specs.Task.{Lawful, at, no_task}
use Rattle.group.specs.JoinedLemmas.{first_of, second_of, joint_length}
use Rattle.plate.specs.Rows.{Counted, Framed}
use Rattle.plate.specs.Plans.{Plan, Sound, SoundCounted, SoundFramed, Bytes, decode}
use Rattle.plate.proofs.Trips.{read_is_written}
use Rattle.kinds.specs.MissCounted.{counted_task}
use Rattle.kinds.specs.Frames.{framed_task}
use Rattle.kinds.specs.CountedLaws as counted
use Rattle.kinds.specs.FramedLaws as framed
use Rattle.printed.specs.Text.{HasRoom}
use Rattle.printed.specs.Lines.{verdict_line}
use Rattle.printed.specs.Sheet.{plan_tasks, front_of, fault_of, sheet_text}
use Rattle.printed.specs.Told.{Tells, Told}
use Rattle.printed.proofs.Starts.{tasks_of_plan}
use Rattle.printed.proofs.Tellings.{tells, text_short}

no_row : Counted
no_row = record { gap = 0; budget = 0; ranks = [] }

no_frames : Framed
no_frames = record { gap = 0; frames = [] }

-- the tasks of sound rows are lawful
pub plan_lawful : (plan : Plan) → Sound plan → (k : ℕ) → k < length (plan_tasks plan) → Lawful (at (plan_tasks plan) k)
plan_lawful plan s k l =
    let xs = map counted_task plan.counted in
    let ys = map framed_task plan.framed in
    let a = length-map plan.counted counted_task in
    let b = length-map plan.framed framed_task in
    let n = joint_length 65535 xs ys in
    elim (cases_lt k (length xs)) [
      | inl h ↦
          let here : k < length plan.counted = omega arith in
          rw (first_of 65535 xs ys k no_task h (omega arith), get_or-map counted_task plan.counted k no_row no_task here)
          (counted.lawful _ (All-get_or SoundCounted plan.counted k no_row here s.counted))
      | inr h ↦
          let here : k - length xs < length plan.framed = omega arith in
          rw (second_of 65535 xs ys (length xs) k no_task refl h (omega arith), get_or-map framed_task plan.framed (k - length xs) no_frames no_task here)
          (framed.lawful _ (All-get_or SoundFramed plan.framed (k - length xs) no_frames here s.framed))
    ]

told_of : (bs : List ℕ) → Bytes bs → (r : Result Plan Denial) → decode bs ≡ r
    → MatchResult r (λ plan. Tells (plan_tasks plan) (front_of r ++ verdict_line (fault_of r))) (λ d. front_of r ++ verdict_line (fault_of r) ≡ report d ++ codes "\n")
told_of bs b (Ok plan) e = let s = (read_is_written bs b plan e).0 in tells (plan_tasks plan) (tasks_of_plan plan s) (plan_lawful plan s)
told_of bs b (Err d) e = refl

pub told : (bs : List ℕ) → Bytes bs → Told bs
unfolding sheet_text
told bs b = told_of bs b (decode bs) refl

short_of : (bs : List ℕ) → Bytes bs → (r : Result Plan Denial) → decode bs ≡ r → length (front_of r ++ verdict_line (fault_of r)) ≤ length (front_of r) + 38
    → length (front_of r ++ verdict_line (fault_of r)) ≤ 4830
short_of bs b (Ok plan) e h = let s = (read_is_written bs b plan e).0 in text_short (plan_tasks plan) (tasks_of_plan plan s) (plan_lawful plan s)
short_of bs b (Err d) e h = omega arith

pub short : (bs : List ℕ) → Bytes bs → length (sheet_text bs) ≤ length (front_of (decode bs)) + 38 → length (sheet_text bs) ≤ 4830
unfolding sheet_text
short bs b h = short_of bs b (decode bs) refl h

room_of : (bs : List ℕ) → Bytes bs → (r : Result Plan Denial) → decode bs ≡ r → length (front_of r) ≤ 4830
room_of bs b (Ok plan) e =
    let s = (read_is_written bs b plan e).0 in
    let all = text_short (plan_tasks plan) (tasks_of_plan plan s) (plan_lawful plan s) in
    omega (arith, length-append (front_of (Ok plan)) (verdict_line (fault_of (Ok plan))))
room_of bs b (Err d) e = omega arith

-- an empty text has room for what stands above the verdict
pub front_room : (bs : List ℕ) → Bytes bs → HasRoom [] (front_of (decode bs))
front_room bs b = omega (arith, room_of bs b (decode bs) refl)
