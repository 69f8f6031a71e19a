-- Texts one behind another. Assumes nothing.
use Rattle.std.specs.Prelude.{ℕ, zero, suc, ◌+◌, ◌≤◌, List, [], ◌++◌, length}

-- room for more of a sheet behind the text that there is
abbrev pub HasRoom : (text more : List ℕ) → Type 0
HasRoom text more = length text + length more ≤ 4830

-- texts one behind another: f 0, .., f (n - 1)
abbrev pub texts : (ℕ → List ℕ) → ℕ → List ℕ
texts f zero = []
texts f (suc n) = texts f n ++ f n
