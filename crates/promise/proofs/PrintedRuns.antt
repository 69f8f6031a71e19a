-- The run of the printed plan is a trace, by computation.
use Rattle.std.proofs.Common.{ℕ, zero, suc, ◌+◌, ◌<◌, ◌≤◌, get_or, refl, arith}
use Rattle.group.specs.Task.{Lawful, Position, at, place}
use Rattle.plate.specs.Plans.{SoundCounted}
use Rattle.kinds.specs.CountedLaws.{lawful}
use Rattle.find.specs.First.{first, first_pair}
use Rattle.bounds.specs.Bound.{bound}
use Rattle.choose.specs.Foremost.{foremost}
use Rattle.dispatcher.specs.Records.{ends_upto}
use Rattle.dispatcher.proofs.Ends.{recorded_as}
use Rattle.promise.specs.Trace.{Trace}
use Rattle.promise.specs.Promise.{SoundGroup}
use Rattle.promise.specs.PrintedRun.{first_row, second_row, printed, firsts, calls, PrintedRun}

first_sound : SoundCounted first_row
first_sound = record {
  gap = (omega arith, omega arith);
  budget = (omega arith, omega arith);
  classes = (omega arith, omega arith);
  ranks = ((omega arith, omega arith), ((omega arith, omega arith), tt));
  rise = rise;
}
  where
    rise : (i : ℕ) → i + 1 < 2 → get_or first_row.ranks i 0 ≤ get_or first_row.ranks (i + 1) 0
    rise zero h = omega arith
    rise (suc i) h = absurd (omega arith)

second_sound : SoundCounted second_row
second_sound = record {
  gap = (omega arith, omega arith);
  budget = (omega arith, omega arith);
  classes = (omega arith, omega arith);
  ranks = ((omega arith, omega arith), ((omega arith, omega arith), tt));
  rise = rise;
}
  where
    rise : (i : ℕ) → i + 1 < 2 → get_or second_row.ranks i 0 ≤ get_or second_row.ranks (i + 1) 0
    rise zero h = omega arith
    rise (suc i) h = absurd (omega arith)

sound : SoundGroup printed firsts
sound = record { lawful = laws; as_many = refl; placed = placed }
  where
    laws : (i : ℕ) → i < 2 → Lawful (at printed i)
    laws zero l = lawful first_row first_sound
    laws (suc zero) l = lawful second_row second_sound
    laws (suc (suc i)) l = absurd (omega arith)

    placed : (i : ℕ) → i < 2 → Position (at printed i) (place firsts i)
    placed zero l = refl
    placed (suc zero) l = refl
    placed (suc (suc i)) l = absurd (omega arith)

run : Trace printed firsts calls
unfolding first first_pair bound foremost ends_upto
run = (refl, ((refl, recorded_as _ _ _ refl), (refl, ((refl, recorded_as _ _ _ refl), (refl, ((refl, recorded_as _ _ _ refl), (refl, ((refl, recorded_as _ _ _ refl), (refl, ((refl, recorded_as _ _ _ refl), ((refl, recorded_as _ _ _ refl), (refl, (refl, (refl, (refl, ((refl, refl), (refl, tt)))))))))))))))))

pub printed_run : PrintedRun
printed_run = record { group = sound; trace = run; first_ended = refl; second_ended = refl }
