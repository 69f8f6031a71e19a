use Rattle.kinds.proofs.Listed.{counted_sound, counted_few, framed_sound, framed_few}
use Rattle.kinds.proofs.exact.tables_are_sound.Goals as goal

pub returns : goal.returns
returns c = (λ t. (counted_sound t, counted_few t), λ t. (framed_sound t, framed_few t))
