-- The reading of a trace for one task: what the calls and their answers tell of it, from its position when the dispatcher was made.
-- It never decides who runs or who ends: it takes both from the answers. Assumes nothing.
use Rattle.std.specs.Prelude.{ℕ, ◌+◌, Bool, cond, List, [], ◌∷◌, take, Some, None, Ok, Err, Option, ◌==◌}
use Rattle.group.specs.Task.{Task, after, at, place, terms_of}
use Rattle.dispatcher.specs.declared.end.Way.{Way}
use Rattle.dispatcher.specs.declared.end.Way.TheVariants.{Finished, Cut, Late}
use Rattle.dispatcher.specs.declared.end.End.{End}
use Rattle.dispatcher.specs.declared.view.View.{View}
use Rattle.dispatcher.specs.declared.view.View.TheVariants.{Empty, Pending, Halted}
use Rattle.dispatcher.specs.Slots.{outcome_of, used_after}
use Rattle.dispatcher.specs.State.{is_running}
use Rattle.promise.specs.Trace.{Call}
use Rattle.promise.specs.Trace.Call.{start, release, tick, resume, ask_clock, ask_slot, ask_bound, ask_next, ask_expiry}

-- a job that has ended: its class, how it ended, its age in accepted ticks, and in how many of these it ran
pub record Ending : Type 0 where
  pub class : ℕ
  pub way : Way
  pub age : ℕ
  pub ran : ℕ

-- What is read of a task: its position; its slot, with the pending job's class, age and used ticks; its late ends in a row since the
-- last finish, cut or accepted resume (before an accepted start there is no end); and all jobs that have ended, the newest first.
pub record Reading : Type 0 where
  pub position : ℕ
  pub slot : View
  pub lates : ℕ
  pub ended : List Ending

-- how the records say that task i's job ended, if they do
abbrev pub told : (i : ℕ) → List End → Option Way
told i [] = None
told i (e ∷ es) = cond (e.task == i) (Some e.way) (told i es)

-- the slot one accepted tick later: a pending job is older by one, and has run once more if the answer names its task
abbrev pub aged : (ran : Bool) → View → View
aged ran Empty = Empty
aged ran (Pending class age used) = Pending class (age + 1) (used_after ran used)
aged ran Halted = Halted

-- the slot after an end: a miss that is not tolerated halts
abbrev pub vacated : Way → (tolerated : Bool) → View
vacated Finished tolerated = Empty
vacated Cut tolerated = cond tolerated Empty Halted
vacated Late tolerated = cond tolerated Empty Halted

-- the late ends in a row after an end
abbrev pub lates_after : Way → ℕ → ℕ
lates_after Finished n = 0
lates_after Cut n = 0
lates_after Late n = n + 1

-- the job that is seen has ended so; where none is pending, nothing has
abbrev pub ended_so : Task → Way → View → Reading → Reading
ended_so t way Empty q = q
ended_so t way (Pending class age used) q = record {
  position = after t (outcome_of way) q.position;
  slot = vacated way (terms_of t class).tolerated;
  lates = lates_after way q.lates;
  ended = record { class = class; way = way; age = age; ran = used } ∷ q.ended;
}
ended_so t way Halted q = q

-- an accepted tick: whether the answer names the task, and how the records say that its job ended
abbrev pub tick_heard : Task → (ran : Bool) → Option Way → Reading → Reading
tick_heard t ran None q = record { position = q.position; slot = aged ran q.slot; lates = q.lates; ended = q.ended }
tick_heard t ran (Some way) q = ended_so t way (aged ran q.slot) q

-- an accepted release: a job of the present class, of age 0
abbrev pub release_heard : Task → Reading → Reading
release_heard t q = record { position = q.position; slot = Pending (t.class_at q.position) 0 0; lates = q.lates; ended = q.ended }

-- an accepted resume
abbrev pub resume_heard : Reading → Reading
resume_heard q = record { position = q.position; slot = Empty; lates = 0; ended = q.ended }

-- what a call and its answer tell of task i; refused calls and questions tell nothing
abbrev pub heard : Task → (i : ℕ) → Reading → Call → Reading
heard t i q (start before answer after) = q
heard t i q (release k (Ok done)) = cond (i == k) (release_heard t q) q
heard t i q (release k (Err d)) = q
heard t i q (tick mark before (Ok pair) after) = tick_heard t (is_running pair.0 i) (told i (take pair.1 after)) q
heard t i q (tick mark before (Err d) after) = q
heard t i q (resume k (Ok done)) = cond (i == k) (resume_heard q) q
heard t i q (resume k (Err d)) = q
heard t i q (ask_clock answer) = q
heard t i q (ask_slot k answer) = q
heard t i q (ask_bound k c answer) = q
heard t i q (ask_next answer) = q
heard t i q (ask_expiry answer) = q

-- the reading of a trace, the newest call first, for task i, which began at position x
abbrev pub reading_from : Task → (i x : ℕ) → List Call → Reading
reading_from t i x [] = record { position = x; slot = Empty; lates = 0; ended = [] }
reading_from t i x (c ∷ cs) = heard t i (reading_from t i x cs) c

-- the reading for task i of a group
abbrev pub reading : List Task → (places : List ℕ) → List Call → (i : ℕ) → Reading
reading ts places cs i = reading_from (at ts i) i (place places i) cs
