-- The state of a dispatcher from its group's positions and its seats: task by task, and after a seat is set or all are written.
use Rattle.std.proofs.Common.{◌≡◌, ℕ, zero, suc, ◌<◌, List, [], ◌∷◌, map, length, get_or, set, replicate, refl, ap, ◌∙◌, arith}
use Rattle.std.specs.List.{range_with_len}
use Rattle.std.proofs.lemmas.List.FromFn.{fill_by_all}
use Rattle.group.specs.Task.{place}
use Rattle.dispatcher.specs.declared.slot.Seat.{Seat}
use Rattle.dispatcher.specs.State.{Standing, stands, new_seat, seated}

-- as many entries as there are positions
pub length_seated : (ps : List ℕ) (ss : List Seat) → length (seated ps ss) ≡ length ps
length_seated [] ss = refl
length_seated (p ∷ ps) [] = ap suc (length_seated ps [])
length_seated (p ∷ ps) (s ∷ ss) = ap suc (length_seated ps ss)

-- each has its position and its seat
pub seated_at : (ps : List ℕ) (ss : List Seat) (i : ℕ) (d : Standing) → i < length ps → get_or (seated ps ss) i d ≡ stands (place ps i) (get_or ss i new_seat)
seated_at [] ss i d l = absurd (omega arith)
seated_at (p ∷ ps) [] zero d l = refl
seated_at (p ∷ ps) [] (suc i) d l = seated_at ps [] i d (omega arith)
seated_at (p ∷ ps) (s ∷ ss) zero d l = refl
seated_at (p ∷ ps) (s ∷ ss) (suc i) d l = seated_at ps ss i d (omega arith)

-- past the last position and the last seat there is an empty slot
pub seated_new : (ps : List ℕ) (i : ℕ) → get_or (seated ps []) i (stands 0 new_seat) ≡ stands (place ps i) new_seat
seated_new [] i = refl
seated_new (p ∷ ps) zero = refl
seated_new (p ∷ ps) (suc i) = seated_new ps i

-- new seats are as good as none
pub seated_replicate : (ps : List ℕ) (n : ℕ) → seated ps (replicate n new_seat) ≡ seated ps []
seated_replicate [] n = refl
seated_replicate (p ∷ ps) zero = refl
seated_replicate (p ∷ ps) (suc n) = ap (λ xs. stands p new_seat ∷ xs) (seated_replicate ps n)

-- one seat is set
pub seated_set : (ps : List ℕ) (ss : List Seat) (k : ℕ) (s : Seat) → k < length ps → k < length ss → seated ps (set ss k s) ≡ set (seated ps ss) k (stands (place ps k) s)
seated_set [] ss k s l m = absurd (omega arith)
seated_set (p ∷ ps) [] k s l m = absurd (omega arith)
seated_set (p ∷ ps) (x ∷ ss) zero s l m = refl
seated_set (p ∷ ps) (x ∷ ss) (suc k) s l m = ap (λ xs. stands p x ∷ xs) (seated_set ps ss k s (omega arith) (omega arith))

-- all are written, each by its number
pub seated_by : (f : ℕ → Standing) (n : ℕ) (ps : List ℕ) (ss : List Seat) → length ps ≡ n → ((i : ℕ) → i < n → stands (place ps i) (get_or ss i new_seat) ≡ f i) →
    seated ps ss ≡ map f (range_with_len 0 n)
seated_by f n ps ss e h =
    fill_by_all f (seated ps ss) n (stands 0 new_seat) (length_seated ps ss ∙ e) (λ i l. seated_at ps ss i (stands 0 new_seat) (rw e l) ∙ h i l)
