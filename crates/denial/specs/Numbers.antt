-- The number and the layer of each rule, and a denial by its parts. Assumes nothing.
use Rattle.std.specs.Prelude.{◌≡◌, ℕ, ◌≤◌, List, ◌++◌, codes, decimal}
use Rattle.denial.specs.declared.Rule.{Rule}
use Rattle.denial.specs.declared.Rule.TheVariants.{Short, Edition, RowCounts, Spare, Times, Ranks, Extra, Room, Started, Scratch, TaskCount, SharedRank, Unbounded, NotStarted, NoTask, NoClass, Halted, TooSoon, NotHalted, ClockEnd, NothingPending, ListRoom}
use Rattle.denial.specs.declared.Layer.{Layer}
use Rattle.denial.specs.declared.Layer.TheVariants.{Bits, Rows, Plate, Start, Dispatcher}
use Rattle.denial.specs.declared.Denial.{Denial}

-- the number under which a rule is reported
abbrev pub number_of : Rule → ℕ
number_of Short = 1
number_of Edition = 2
number_of RowCounts = 3
number_of Spare = 4
number_of Times = 5
number_of Ranks = 6
number_of Extra = 7
number_of Room = 8
number_of Started = 9
number_of Scratch = 10
number_of TaskCount = 11
number_of SharedRank = 12
number_of Unbounded = 13
number_of NotStarted = 14
number_of NoTask = 15
number_of NoClass = 16
number_of Halted = 17
number_of TooSoon = 18
number_of NotHalted = 19
number_of ClockEnd = 20
number_of NothingPending = 21
number_of ListRoom = 22

-- the numbers go from 1 to 22, and no two rules have the same
abbrev pub Alone : Rule → ℕ → Type 0
Alone rule n = (1 ≤ n) × (n ≤ 22) × ((other : Rule) → number_of other ≡ n → other ≡ rule)

-- the layer that a rule belongs to: 1 bits, 2 rows, 3 plate, 4 start, 5 dispatcher
abbrev pub layer_of : Rule → ℕ
layer_of Short = 1
layer_of Edition = 3
layer_of RowCounts = 3
layer_of Spare = 2
layer_of Times = 2
layer_of Ranks = 2
layer_of Extra = 3
layer_of Room = 3
layer_of Started = 4
layer_of Scratch = 4
layer_of TaskCount = 4
layer_of SharedRank = 4
layer_of Unbounded = 4
layer_of NotStarted = 5
layer_of NoTask = 5
layer_of NoClass = 5
layer_of Halted = 5
layer_of TooSoon = 5
layer_of NotHalted = 5
layer_of ClockEnd = 5
layer_of NothingPending = 5
layer_of ListRoom = 5

-- the number under which a layer is reported
abbrev pub layer_number : Layer → ℕ
layer_number Bits = 1
layer_number Rows = 2
layer_number Plate = 3
layer_number Start = 4
layer_number Dispatcher = 5

-- a denial by a rule, with its two details
abbrev pub denied : Rule → ℕ → ℕ → Denial
denied rule first second = record { rule = rule; first = first; second = second }

-- how a denial is printed: the word, the number and the two details
abbrev pub report : Denial → List ℕ
report d =
    codes "refused " ++ (decimal (number_of d.rule) ++ (codes " " ++ (decimal d.first ++ (codes " " ++ decimal d.second))))
