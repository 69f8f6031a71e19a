-- A trace: the calls that were made on a dispatcher, with what each was given and answered. Assumes nothing.
use Rattle.std.specs.Prelude.{◌≡◌, ℕ, Bool, List, [], ◌∷◌, ◌++◌, length, take, Ok, Err, Option, Result}
use Rattle.denial.specs.declared.Denial.{Denial}
use Rattle.denial.specs.Checks.{unless}
use Rattle.group.specs.Task.{Task}
use Rattle.bounds.specs.Bound.{bound_answer}
use Rattle.dispatcher.specs.declared.end.End.{End}
use Rattle.dispatcher.specs.declared.view.View.{View}
use Rattle.admission.specs.Start.{early_fault, start_fault, scratch_after}
use Rattle.dispatcher.specs.State.{State, new, started_state}
use Rattle.dispatcher.specs.Refusals.{release_answer, resume_answer, release_state, resume_state, kept_if, tick_fault}
use Rattle.dispatcher.specs.Records.{tick_ends, tick_answer, tick_state, Listed}
use Rattle.dispatcher.specs.Questions.{slot_answer, next_answer, expiry_answer}

-- A call with what it answered. A start was given a scratch, a tick its finish mark and a list for ends; `before` and `after` are
-- what these held. The rest are questions, which change nothing.
pub data Call : Type 0 where
  start : (before : List ℕ) (answer : Result (Unit {0}) Denial) (after : List ℕ) → Call
  release : (task : ℕ) (answer : Result (Unit {0}) Denial) → Call
  tick : (mark : Bool) (before : List End) (answer : Result (Option ℕ × ℕ) Denial) (after : List End) → Call
  resume : (task : ℕ) (answer : Result (Unit {0}) Denial) → Call
  ask_clock : (answer : ℕ) → Call
  ask_slot : (task : ℕ) (answer : Result View Denial) → Call
  ask_bound : (task class : ℕ) (answer : Result (Option ℕ) Denial) → Call
  ask_next : (answer : Option ℕ) → Call
  ask_expiry : (answer : Option ℕ) → Call

-- the state that a call leaves
abbrev pub next : List Task → State → Call → State
next ts s (start before answer after) = kept_if (start_fault s.started (length before) ts) s (started_state s)
next ts s (release k answer) = release_state ts s k
next ts s (tick mark before answer after) = tick_state ts s mark (length before)
next ts s (resume k answer) = resume_state ts s k
next ts s (ask_clock answer) = s
next ts s (ask_slot k answer) = s
next ts s (ask_bound k c answer) = s
next ts s (ask_next answer) = s
next ts s (ask_expiry answer) = s

-- in state s the call was answered by the rules; only the order of a tick's records is free
abbrev pub ByRule : List Task → State → Call → Type 0
ByRule ts s (start before answer after) =
    (answer ≡ unless (start_fault s.started (length before) ts) tt) × (after ≡ scratch_after (early_fault s.started (length before) ts) ts before)
ByRule ts s (release k answer) = answer ≡ release_answer ts s k
ByRule ts s (tick mark before answer after) =
    (answer ≡ tick_answer ts s mark (length before)) × Listed (tick_fault ts s mark (length before)) (tick_ends ts s mark) before after
ByRule ts s (resume k answer) = answer ≡ resume_answer ts s k
ByRule ts s (ask_clock answer) = answer ≡ s.clock
ByRule ts s (ask_slot k answer) = answer ≡ slot_answer ts s k
ByRule ts s (ask_bound k c answer) = answer ≡ bound_answer ts k c
ByRule ts s (ask_next answer) = answer ≡ next_answer ts s
ByRule ts s (ask_expiry answer) = answer ≡ expiry_answer ts s

-- the state that calls, the newest first, have led a new dispatcher to; `places`: the positions when it was made
abbrev pub state_after : List Task → (places : List ℕ) → List Call → State
state_after ts places [] = new places
state_after ts places (c ∷ cs) = next ts (state_after ts places cs) c

-- these calls, the newest first, are a trace of a new dispatcher: each was answered by the rules
abbrev pub Trace : List Task → (places : List ℕ) → List Call → Type 0
Trace ts places [] = Unit {0}
Trace ts places (c ∷ cs) = ByRule ts (state_after ts places cs) c × Trace ts places cs

-- the records that a call left: those of an accepted tick
abbrev pub records_of : Call → List End
records_of (start before answer after) = []
records_of (release k answer) = []
records_of (tick mark before (Ok pair) after) = take pair.1 after
records_of (tick mark before (Err d) after) = []
records_of (resume k answer) = []
records_of (ask_clock answer) = []
records_of (ask_slot k answer) = []
records_of (ask_bound k c answer) = []
records_of (ask_next answer) = []
records_of (ask_expiry answer) = []

-- all records in a trace
abbrev pub records : List Call → List End
records [] = []
records (c ∷ cs) = records_of c ++ records cs
