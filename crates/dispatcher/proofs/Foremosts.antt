-- Who runs is the foremost pending job by rank, and the next expiry the foremost by ticks left.
use Rattle.std.proofs.Common.{ltb, List, length}
use Rattle.std.proofs.lemmas.List.MinMax.{IsStrictWeakOrder-by_number, IsStrictWeakOrder-flip}
use Rattle.choose.specs.Foremost.{IsForemost, IsLowest, ForemostFound}
use Rattle.choose.proofs.Chosen as chosen
use Rattle.group.specs.Task.{Task, at}
use Rattle.dispatcher.specs.Slots.{rank_of}
use Rattle.dispatcher.specs.State.{State, slot_of, waits, outranks, runner}
use Rattle.dispatcher.specs.Questions.{ticks_left, expires_sooner, expiry_answer}

-- the search finds the foremost, whenever the test is an order
pub foremost_found : ForemostFound
foremost_found present ahead o n =
    chosen.foremost_found present ahead (record { one_way = o.one_way; chain = λ x y z p. o.chain x y z }) n

-- who runs is a pending job of the highest rank
pub runner_foremost : (ts : List Task) (s : State) → IsForemost (waits s) (outranks ts s) (length ts) (runner ts s)
runner_foremost ts s =
    (foremost_found (waits s) (outranks ts s)
    (IsStrictWeakOrder-flip (λ i j. ltb (rank_of (at ts i) (slot_of s i)) (rank_of (at ts j) (slot_of s j))) (IsStrictWeakOrder-by_number (λ i. rank_of (at ts i) (slot_of s i))))
    (length ts)).0

-- the next expiry is a pending job with the fewest ticks left, and of several the lowest
pub expiry_foremost : (ts : List Task) (s : State) →
    IsForemost (waits s) (expires_sooner ts s) (length ts) (expiry_answer ts s) × IsLowest (waits s) (expires_sooner ts s) (expiry_answer ts s)
expiry_foremost ts s = foremost_found (waits s) (expires_sooner ts s) (IsStrictWeakOrder-by_number (λ i. ticks_left ts s i)) (length ts)
