-- What the writer's parts ask of a speed and of a job: every number of it has a code of three bytes at most.
use Rattle.std.specs.Prelude.{◌^◌, ◌<◌}
use Rattle.model.specs.declared.Job.{Job}
use Rattle.model.specs.declared.Speed.{Speed}

pub record SpeedShort (one : Speed) : Type 0 where
  pub speed_short : one.speed < 128 ^ 3
  pub energy_short : one.energy < 128 ^ 3

pub record JobShort (one : Job) : Type 0 where
  pub weight_short : one.weight < 128 ^ 3
  pub size_short : one.size < 128 ^ 3
  pub deadline_short : one.deadline < 128 ^ 3
