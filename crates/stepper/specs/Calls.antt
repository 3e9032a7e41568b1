-- What the stepper's calls promise: that what they answer equals what the model's `start` and `advance` say (model/specs/Stepper.antt), for
-- refusals too.
use Rattle.std.specs.Prelude.{ℕ, ◌≡◌}
use Rattle.model.specs.Stepper as model
use Rattle.stepper.specs.declared.state.State.{State}

-- a state in memory, as the model says it
abbrev pub state_of : State → model.State
state_of x = record { queue = x.queue; slot = x.slot; energy = x.energy }

-- a start or an advance answers this number, this state and this speed, where the model says `said`
pub record IsStepped (said : model.Stepped) (number : ℕ) (state : State) (speed : ℕ) : Type 0 where
  pub number_is : number ≡ said.number
  pub state_is : state_of state ≡ said.state
  pub speed_is : speed ≡ said.speed
