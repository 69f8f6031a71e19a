-- Seats in a list.
use Rattle.std.proofs.Common.{◌≡◌, ℕ, zero, suc, get_or, replicate, refl, arith}
use Rattle.dispatcher.specs.State.{new_seat}
use Rattle.dispatcher.specs.Steady.{Steady}

-- past the end as within, a list of one value has that value
pub getD_same : {A : Type 0} (n i : ℕ) (a : A) → get_or (replicate n a) i a ≡ a
getD_same zero i a = refl
getD_same (suc n) zero a = refl
getD_same (suc n) (suc i) a = getD_same n i a

-- no job in new seats
pub new_steady : (n clock : ℕ) → Steady (replicate n new_seat) clock
new_steady n clock i = rw (getD_same n i new_seat) (omega arith)
