use Rattle.dispatcher.proofs.NewSeats.{new_steady}
use Rattle.dispatcher.proofs.board.Dispatcher.new.Goals as goal

pub invariant_of-result-2 : goal.invariant_of-result-2
invariant_of-result-2 g c = record { steady = new_steady 64 _ }
