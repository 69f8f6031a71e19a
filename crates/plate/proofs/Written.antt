-- A row that was put at its place is read there.
use Rattle.std.proofs.Common.{◌≡◌, ℕ, ◌+◌, ◌*◌, ◌≤◌, List, ◌++◌, length, take, drop, None, Ok, Err, Result, ap, ◌∙◌, arith}
use Rattle.std.proofs.lemmas.Bool.{ltb-false}
use Rattle.denial.specs.declared.Denial.{Denial}
use Rattle.denial.specs.Checks.{unless}
use Rattle.std.proofs.lemmas.List.{drop_at, length-take-le}
use Rattle.plate.specs.declared.frame.Frame.{Frame}
use Rattle.plate.specs.Faults.{counted_fault, framed_fault}
use Rattle.plate.specs.Rows.{Counted, Framed}
use Rattle.plate.specs.Plans.{counted_bytes, framed_bytes}
use Rattle.plate.specs.Writing.{put_at, room_fault, left, Then, ReadsCounted, ReadsFramed}
use Rattle.plate.proofs.Nones.{when_none, unless_ok}
use Rattle.plate.proofs.Counteds
use Rattle.plate.proofs.Frameds

drop_put : (bs new : List ℕ) (i : ℕ) → i ≤ length bs → drop i (put_at bs i new) ≡ new ++ drop (i + length new) bs
drop_put bs new i h = drop_at (take i bs) (new ++ drop (i + length new) bs) i (length-take-le i bs h)

pub counted_put : (bs out : List ℕ) (at : ℕ) (c : Counted) → at ≤ length bs → counted_fault 0 0 c.gap c.budget c.ranks ≡ None
    → out ≡ put_at bs at (counted_bytes c) → ReadsCounted out at c
counted_put bs out at c h none e row =
    let sound = Counteds.clean_sound c (Counteds.clean 0 0 c.gap c.budget c.ranks none) in
    let forth = Counteds.counted_forth out _ at row c sound (ap (drop at) e ∙ drop_put bs (counted_bytes c) at h) in
    (forth.fits, forth.same)

-- where a row went in there was room for it
room : (len at size x end : ℕ) → Ok end ≡ unless (room_fault len at size) x → at ≤ len
room len at size x end e = let z = ltb-false len (at + size) (when_none _ _ (unless_ok (room_fault len at size) x end e).0) in omega arith

pub counted_written : (bs out : List ℕ) (at x gap budget : ℕ) (ranks : List ℕ) (r : Result ℕ Denial) → counted_fault 0 0 gap budget ranks ≡ None
    → r ≡ unless (room_fault (length bs) at (4 + length ranks)) x
    → out ≡ left r bs at (counted_bytes (record { gap = gap; budget = budget; ranks = ranks }))
    → Then r (ReadsCounted out at (record { gap = gap; budget = budget; ranks = ranks }))
counted_written bs out at x gap budget ranks (Ok end) none e w = counted_put bs out at _ (room (length bs) at (4 + length ranks) x end e) none w
counted_written bs out at x gap budget ranks (Err d) none e w = tt

pub framed_put : (bs out : List ℕ) (at : ℕ) (f : Framed) → at ≤ length bs → framed_fault 0 0 f.gap f.frames ≡ None
    → out ≡ put_at bs at (framed_bytes f) → ReadsFramed out at f
framed_put bs out at f h none e row =
    let sound = Frameds.fault_sound 0 0 f.gap f.frames none in
    let forth = Frameds.framed_forth out _ at row f sound (ap (drop at) e ∙ drop_put bs (framed_bytes f) at h) in
    (forth.fits, forth.same)

pub framed_written : (bs out : List ℕ) (at x gap : ℕ) (frames : List Frame) (r : Result ℕ Denial) → framed_fault 0 0 gap frames ≡ None
    → r ≡ unless (room_fault (length bs) at (2 + 3 * length frames)) x → out ≡ left r bs at (framed_bytes (record { gap = gap; frames = frames }))
    → Then r (ReadsFramed out at (record { gap = gap; frames = frames }))
framed_written bs out at x gap frames (Ok end) none e w = framed_put bs out at _ (room (length bs) at (2 + 3 * length frames) x end e) none w
framed_written bs out at x gap frames (Err d) none e w = tt
