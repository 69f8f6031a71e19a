-- Texts put one behind another.
use Rattle.std.proofs.Common.{◌≡◌, ℕ, zero, suc, ◌-◌, ◌<◌, ◌≤◌, List, ◌++◌, length, ap, arith, append_assoc}
use Rattle.std.proofs.lemmas.List.{length-append}
use Rattle.group.specs.Task.{Task}
use Rattle.printed.specs.Text.{HasRoom, texts}
use Rattle.printed.specs.Lines.{line_of, line_text, class_text}
use Rattle.printed.proofs.Newlines.{one_of}

-- one of several texts has room behind those before it
pub room_for : (f : ℕ → List ℕ) (i n : ℕ) (before now : List ℕ) → i < n → now ≡ before ++ texts f i → HasRoom before (texts f n) → HasRoom now (f i)
room_for f i n before now h e room =
    let rest = one_of f i n h in
    let all = length-append (texts f i) (f i ++ rest.0) in
    let here = length-append (f i) rest.0 in
    let so_far = length-append before (texts f i) in
    omega (arith, ap length rest.1, ap length e)

-- the line of a class has room behind those of the classes before it
pub room_for_line : (ts : List Task) (k class n : ℕ) (before now : List ℕ) → 1 ≤ class → class ≤ n → now ≡ before ++ texts (class_text ts k) (class - 1)
    → HasRoom before (texts (class_text ts k) n) → HasRoom now (line_text (line_of ts k class))
room_for_line ts k zero n before now low high e room = absurd (omega arith)
room_for_line ts k (suc j) n before now low high e room =
    let same : suc j - 1 ≡ j = omega arith in room_for (class_text ts k) j n before now (omega arith) (rw same at e) room

-- one line more behind those of the classes before it
pub line_more : (ts : List Task) (k class : ℕ) (before now line after : List ℕ) → 1 ≤ class → now ≡ before ++ texts (class_text ts k) (class - 1)
    → after ≡ now ++ line → line ≡ line_text (line_of ts k class) → after ≡ before ++ texts (class_text ts k) class
line_more ts k zero before now line after low e more is = absurd (omega arith)
line_more ts k (suc j) before now line after low e more is =
    let same : suc j - 1 ≡ j = omega arith in
    rw (more, rw same at e, is) (append_assoc before (texts (class_text ts k) j) (class_text ts k j))
