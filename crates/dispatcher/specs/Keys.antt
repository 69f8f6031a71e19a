-- The keys by which jobs are chosen, and lists of them. Assumes nothing.
use Rattle.std.specs.Prelude.{◌≡◌, ℕ, ◌-◌, ◌<◌, ◌≤◌, List, length, Some, None, Option, slice_index_or}
use Rattle.std.specs.declared.cmp.Reverse.{Reverse}
use Rattle.group.specs.Task.{Task, terms_of}
use Rattle.dispatcher.specs.declared.order.ByExpiry.{ByExpiry}
use Rattle.dispatcher.specs.declared.slot.Slot.{Slot}
use Rattle.dispatcher.specs.declared.slot.Slot.TheVariants.{Empty, Pending, Halted}

-- the rank of a pending job, as a key: the higher goes ahead
abbrev pub rank_key : Task → Slot → Option (Reverse ℕ)
rank_key t Empty = None
rank_key t (Pending c r u) = Some (record { 0 = (terms_of t c).rank })
rank_key t Halted = None

-- the ticks that a pending job has left, with its task, as a key: fewer ticks go ahead, and of as many the lower task
abbrev pub expiry_key : (gap task clock : ℕ) → Slot → Option ByExpiry
expiry_key gap task clock Empty = None
expiry_key gap task clock (Pending c r u) = Some (record { left = gap - (clock - r); task = task })
expiry_key gap task clock Halted = None

-- the keys of the first n tasks, as far as there are seats
pub record KeysOf {K : Type 0} (key : ℕ → Option K) (n : ℕ) (keys : List (Option K)) : Type 0 where
  pub long : length keys ≡ 64
  pub has : (i : ℕ) → i < n → i < 64 → slice_index_or keys i None ≡ key i
  pub lacks : (i : ℕ) → n ≤ i → slice_index_or keys i None ≡ None
