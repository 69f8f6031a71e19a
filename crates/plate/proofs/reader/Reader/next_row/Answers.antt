use Rattle.std.proofs.Common.{◌≡◌, Ok, rules}
use Rattle.std.specs.Option.{option_map}
use Rattle.denial.specs.Checks.{unless}
use Rattle.plate.specs.Reading.{handed, next_denial, next_row, opened}
use Rattle.plate.specs.Readers.{state, plate_of}
use Rattle.plate.proofs.Steps.{sound_next}
use Rattle.plate.proofs.reader.Reader.next_row.Goals as goal

pub returns-clause-sound : goal.returns-clause-sound
returns-clause-sound c =
    let bs = plate_of c.args.self.now in
    let s = state c.args.self.now in
    let e : Ok (option_map handed c.in_ok-row.row) ≡ unless (next_denial bs s) (next_row bs (opened bs s)) = search rules in
    sound_next bs s _ e
