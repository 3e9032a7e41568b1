-- What a slot does to each count of a state, in plain whole numbers, so that nobody needs to know how a subtraction or a width behaves. The
-- governor that Harzschale replaces kept its waiting work in a signed byte, and read a backlog of 130 as minus 126.
use Rattle.std.specs.Prelude.{ℕ, suc, ◌+◌, ◌*◌, ◌≤◌, ◌<◌, ◌≡◌, List, ◌⊎◌, T}
use Rattle.model.specs.View.{view_of, on_sheet, energy_of, M}
use Rattle.model.specs.Queue.{total}
use Rattle.model.specs.declared.Sheet.{Sheet}
use Rattle.stepper.specs.declared.state.State.{State}
use Rattle.demands.specs.Runs.{speed_of_state}

-- w(u) as it stands in a state
abbrev pub work : State → ℕ → ℕ
work x u = total x.queue u

-- what a slot at a speed leaves of some work: what makes up the work together with the speed, or nothing where the work is less than the
-- speed
abbrev pub IsLeft : (before speed left : ℕ) → Type 0
IsLeft before speed left = (left + speed ≡ before) ⊎ ((before < speed) × (left ≡ 0))

-- what an arrival adds to w(u): its size where it is due within u slots, else nothing
abbrev pub IsAdded : (size deadline u added : ℕ) → Type 0
IsAdded size deadline u added = ((deadline ≤ u) × (added ≡ size)) ⊎ ((u < deadline) × (added ≡ 0))

-- w(u) after a slot and an arrival, where `before` is the work that was due one slot later
pub record IsCarried (before speed size deadline u after : ℕ) : Type 0 where
  pub left : ℕ
  pub added : ℕ
  pub is_left : IsLeft before speed left
  pub is_added : IsAdded size deadline u added
  pub adds_up : after ≡ left + added

-- every count is below 2^32, so that its 32 bits hold it as it is
pub record Fits (x : State) : Type 0 where
  pub work_fits : (u : ℕ) → work x u < 4294967296
  pub slot_fits : x.slot < 4294967296
  pub energy_fits : x.energy < 4294967296

-- a speed that is on the sheet, and enough for what is due within one slot
pub record SpeedEnough (sheet : Sheet) (x : State) (speed : ℕ) : Type 0 where
  pub on_sheet_lem : T (on_sheet (view_of sheet) speed)
  pub enough : work x 1 ≤ speed

-- the speed that is told with a state: the one of the slot that begins there, which is enough; at the horizon none begins
pub record SpeedTold (sheet : Sheet) (bytes : List ℕ) (x : State) (speed : ℕ) : Type 0 where
  pub speed_is : speed ≡ speed_of_state sheet bytes x
  pub is_enough : x.slot < (view_of sheet).horizon → SpeedEnough sheet x speed

-- what a slot at this speed and then this arrival make of the counts of `before`
pub record NoneWraps (sheet : Sheet) (before : State) (speed size deadline : ℕ) (after : State) : Type 0 where
  -- "w'(u) = w(u+1) - s, or 0 if that is negative, with w(D) standing for w(D+1)"; "c is added to w'(u) for every u from d to D"
  pub carried : (u : ℕ) → 1 ≤ u → u < (view_of sheet).bound → IsCarried (work before (suc u)) speed size deadline u (work after u)
  pub carried_last : let D = (view_of sheet).bound in IsCarried (work before D) speed size deadline D (work after D)
  -- what is left can be finished: no total is above u times M, and past D all are 0
  pub finishable : (u : ℕ) → u ≤ (view_of sheet).bound → work after u ≤ u * M (view_of sheet)
  pub unused : (u : ℕ) → (view_of sheet).bound < u → work after u ≡ 0
  pub slot_is : after.slot ≡ suc before.slot
  pub energy_is : after.energy ≡ before.energy + energy_of (view_of sheet) speed
  pub fits : Fits after
