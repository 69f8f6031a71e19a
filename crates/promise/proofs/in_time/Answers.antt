use Rattle.promise.proofs.Main.{promise}
use Rattle.promise.proofs.in_time.Goals as goal

pub returns : goal.returns
returns c = record { value = c.keeps.ensures; promise = promise }
