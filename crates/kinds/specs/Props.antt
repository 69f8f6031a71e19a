-- A row keeps the rules of its kind in one way only.
use Rattle.std.specs.Prelude.{ℕ, List, [], ◌∷◌}
use mathlib.Core.HLevel.{×_prop, Unit-prop}
use Rattle.std.proofs.Math.Bridge.{le_prop}
use Rattle.std.specs.List.{AllByRecursion}
use Rattle.plate.specs.Rows.{Counted, Framed}
use Rattle.plate.specs.Plans.{Within, SoundCounted, SoundFramed}
use Rattle.kinds.specs.declared.rows.MissCountedRow.{MissCountedRow}
use Rattle.kinds.specs.declared.rows.FrameRow.{FrameRow}
use Rattle.kinds.specs.Rows.{GoodCounted, counted_of, GoodFramed, framed_of}

within_prop : (low high n : ℕ) → IsProp (Within low high n)
within_prop low high n = ×_prop le_prop le_prop

all_prop : {X : Type 0} (P : X → Type 0) → ((x : X) → IsProp (P x)) → (xs : List X) → IsProp (AllByRecursion P xs)
all_prop P h [] = Unit-prop
all_prop P h (x ∷ xs) = ×_prop (h x) (all_prop P h xs)

sound_counted_prop : (c : Counted) → IsProp (SoundCounted c)
sound_counted_prop c x y = λ z. record {
  gap = within_prop 1 4095 c.gap x.gap y.gap z;
  budget = within_prop 1 c.gap c.budget x.budget y.budget z;
  classes = within_prop 1 8 _ x.classes y.classes z;
  ranks = all_prop (Within 1 255) (within_prop 1 255) c.ranks x.ranks y.ranks z;
  rise = λ i h. le_prop (x.rise i h) (y.rise i h) z;
}

sound_framed_prop : (f : Framed) → IsProp (SoundFramed f)
sound_framed_prop f x y = λ z. record {
  gap = within_prop 1 4095 f.gap x.gap y.gap z;
  classes = within_prop 1 8 _ x.classes y.classes z;
  frames =
      all_prop (λ a. Within 1 f.gap a.budget × Within 1 255 a.rank) (λ a. ×_prop (within_prop 1 f.gap a.budget) (within_prop 1 255 a.rank)) f.frames
      x.frames y.frames z;
}

pub good_counted_prop : (r : MissCountedRow) → IsProp (GoodCounted r)
good_counted_prop r x y = λ z. record {
  few = le_prop x.few y.few z;
  whole = le_prop x.whole y.whole z;
  sound = sound_counted_prop (counted_of r) x.sound y.sound z;
}

pub good_framed_prop : (r : FrameRow) → IsProp (GoodFramed r)
good_framed_prop r x y = λ z. record {
  some = le_prop x.some y.some z;
  few = le_prop x.few y.few z;
  whole = le_prop x.whole y.whole z;
  sound = sound_framed_prop (framed_of r) x.sound y.sound z;
}
