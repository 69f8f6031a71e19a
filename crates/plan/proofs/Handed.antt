-- The ranks or frames that are handed on to be written are those of the row, whatever names them.
use Rattle.std.specs.Prelude.{◌≡◌, ℕ, ◌+◌, ◌*◌, ◌≤◌, List, length, take, Ok, Result}
use Rattle.std.proofs.Common.{arith}
use Rattle.std.specs.Option.{option_or}
use Rattle.std.proofs.lemmas.List.{take-take}
use Rattle.denial.specs.declared.Denial.{Denial}
use Rattle.plate.specs.declared.frame.Frame.{Frame}
use Rattle.plate.specs.Faults.{counted_fault, framed_fault}
use Rattle.plate.specs.Rows.{Counted, Framed}
use Rattle.plate.specs.Plans.{unless, SoundCounted, SoundFramed, counted_bytes, framed_bytes}
use Rattle.plate.specs.Writing.{put_at, left, room_fault}
use Rattle.plate.proofs.Frameds.{joined_length}
use Rattle.plan.specs.Saved.{counted_written, framed_written}

-- the first n taken once more: so the proofs that cite it fit a body, too, that cuts the row's ranks or frames off at their own length
pub taken_again : {A : Type 0} (m n : ℕ) (xs ys : List A) → ys ≡ take n xs → m ≡ n → take m ys ≡ take n xs
taken_again m n xs ys e same = rw (e, same) (take-take n n xs (omega arith))

pub counted_handed : (out out' : List ℕ) (at : ℕ) (c : Counted) (ranks : List ℕ) (r : Result ℕ Denial) → SoundCounted c
    → at + length (counted_bytes c) ≤ length out
    → r ≡ unless (option_or (counted_fault 0 0 c.gap c.budget ranks) (room_fault (length out) at (4 + length ranks))) (at + (4 + length ranks))
    → out' ≡ left r out at (counted_bytes (record { gap = c.gap; budget = c.budget; ranks = ranks })) → ranks ≡ c.ranks
    → (r ≡ Ok (at + length (counted_bytes c))) × (out' ≡ put_at out at (counted_bytes c))
counted_handed out out' at c ranks r sound room e w same = counted_written out out' at c r sound room (rw same at e) (rw same at w)

pub framed_handed : (out out' : List ℕ) (at : ℕ) (f : Framed) (frames : List Frame) (r : Result ℕ Denial) → SoundFramed f
    → at + length (framed_bytes f) ≤ length out
    → r ≡ unless (option_or (framed_fault 0 0 f.gap frames) (room_fault (length out) at (2 + 3 * length frames))) (at + (2 + 3 * length frames))
    → out' ≡ left r out at (framed_bytes (record { gap = f.gap; frames = frames })) → frames ≡ f.frames
    → (r ≡ Ok (at + length (framed_bytes f))) × (out' ≡ put_at out at (framed_bytes f))
framed_handed out out' at f frames r sound room e w same = framed_written out out' at f r sound room (rw same at e) (rw same at w)

pub framed_size : (f : Framed) (frames : List Frame) → frames ≡ f.frames → 2 + 3 * length frames ≡ length (framed_bytes f)
framed_size f frames same = rw same (let n = joined_length f.frames in omega arith)
