-- What the jobs of a task in a row ask for. Assumes nothing.
use Rattle.std.specs.Prelude.{◌≡◌, ℕ, List, length}
use Rattle.group.specs.declared.meaning.Outcome.{Outcome}
use Rattle.group.specs.Task.{Task, Position, along, above}

-- some succession of so many jobs, from some position of the task, asks for exactly so many ticks in classes ranked above p
pub record Asked (t : Task) (jobs p ticks : ℕ) : Type 0 where
  pub from : ℕ
  pub outcomes : List Outcome
  pub position : Position t from
  pub number : length outcomes ≡ jobs
  pub sum : along t (above t p) from outcomes ≡ ticks
