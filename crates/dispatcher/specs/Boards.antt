-- The state that a dispatcher is in, by what it holds. Assumes nothing.
use Rattle.std.specs.Prelude.{ℕ, List}
use Rattle.dispatcher.specs.declared.board.Dispatcher.{Dispatcher}
use Rattle.dispatcher.specs.State.{State, state_of}

-- `places`: the present positions of a group's tasks
abbrev pub state : {G : Type 0} → (places : G → List ℕ) → Dispatcher G → State
state places d = state_of d.clock d.started (places d.group) d.table.seats
