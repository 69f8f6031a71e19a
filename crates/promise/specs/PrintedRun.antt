-- A run that can be looked at: a trace of the printed plan, and what it reads. So the promise is not about nothing. Assumes nothing.
use Rattle.std.specs.Prelude.{◌≡◌, ℕ, true, false, List, [], ◌∷◌, replicate, Some, Ok, Err}
use Rattle.denial.specs.declared.Rule.TheVariants.{NotStarted, TooSoon}
use Rattle.denial.specs.Numbers.{denied}
use Rattle.group.specs.Task.{Task}
use Rattle.plate.specs.Rows.{Counted}
use Rattle.kinds.specs.MissCounted.{counted_task}
use Rattle.admission.specs.Start.{marks}
use Rattle.dispatcher.specs.declared.end.Way.TheVariants.{Finished, Late}
use Rattle.dispatcher.specs.declared.end.End.{End}
use Rattle.dispatcher.specs.declared.view.View.TheVariants.{Pending}
use Rattle.promise.specs.Trace.{Call, Trace}
use Rattle.promise.specs.Trace.Call.{start, release, tick, ask_clock, ask_slot, ask_bound, ask_next, ask_expiry}
use Rattle.promise.specs.Reading.{reading}
use Rattle.promise.specs.Promise.{SoundGroup}

-- gap 4, budget 2, one miss tolerated, ranks 10 and 40
abbrev pub first_row : Counted
first_row = record { gap = 4; budget = 2; ranks = 10 ∷ (40 ∷ []) }

-- gap 6, budget 3, one miss tolerated, ranks 20 and 30
abbrev pub second_row : Counted
second_row = record { gap = 6; budget = 3; ranks = 20 ∷ (30 ∷ []) }

-- the two tasks
abbrev pub printed : List Task
printed = counted_task first_row ∷ (counted_task second_row ∷ [])

-- both in class 1
abbrev pub firsts : List ℕ
firsts = 1 ∷ (1 ∷ [])

-- a record that nothing was written to
abbrev pub blank : End
blank = record { task = 0; class = 0; way = Finished; age = 0 }

-- a list for two ends
abbrev pub blanks : List End
blanks = blank ∷ (blank ∷ [])

-- the record of an end, in such a list
abbrev pub one_end : End → List End
one_end e = e ∷ (blank ∷ [])

-- The calls, the newest first. A release before the start is refused; both tasks are released at 0; task 1 runs for three ticks and
-- finishes at age 3; task 0 runs in the fourth and is late at age 4; released again, in class 2, it finishes at age 2.
abbrev pub calls : List Call
calls =
    ask_clock 6
    ∷ (tick true blanks (Ok (Some 0, 1)) (one_end (record { task = 0; class = 2; way = Finished; age = 2 }))
    ∷ (ask_slot 0 (Ok (Pending 2 1 1))
    ∷ (tick false blanks (Ok (Some 0, 0)) blanks
    ∷ (release 0 (Ok tt)
    ∷ (tick false blanks (Ok (Some 0, 1)) (one_end (record { task = 0; class = 1; way = Late; age = 4 }))
    ∷ (release 0 (Err (denied TooSoon 0 0))
    ∷ (tick true blanks (Ok (Some 1, 1)) (one_end (record { task = 1; class = 1; way = Finished; age = 3 }))
    ∷ (ask_expiry (Some 0)
    ∷ (tick false blanks (Ok (Some 1, 0)) blanks
    ∷ (tick false blanks (Ok (Some 1, 0)) blanks
    ∷ (ask_next (Some 1)
    ∷ (release 1 (Ok tt)
    ∷ (release 0 (Ok tt)
    ∷ (ask_bound 1 1 (Ok (Some 5))
    ∷ (start (replicate 256 0) (Ok tt) (marks printed)
    ∷ (release 0 (Err (denied NotStarted 0 0)) ∷ []))))))))))))))))

-- the group is lawful, the calls are a trace of a dispatcher over it, and each task's ended jobs are read as told
pub record PrintedRun : Type 0 where
  pub group : SoundGroup printed firsts
  pub trace : Trace printed firsts calls
  pub first_ended : (reading printed firsts calls 0).ended
      ≡ record { class = 2; way = Finished; age = 2; ran = 2 } ∷ (record { class = 1; way = Late; age = 4; ran = 1 } ∷ [])
  pub second_ended : (reading printed firsts calls 1).ended ≡ record { class = 1; way = Finished; age = 3; ran = 3 } ∷ []
