-- A run of the stepper, and what demand 2 asks of it: "Stepping with that plan, from a queue that has one, with arrivals from the sheet, is
-- never refused before the horizon"; request [1]: "Demand 2 reads over the merged calls". A run goes on from an answer, at whatever slot: one
-- that was saved, or that of a start, which is at slot 0.
use Rattle.std.specs.Prelude.{ℕ, zero, suc, ◌+◌, ◌*◌, ◌-◌, ◌≤◌, ◌<◌, ◌≡◌, List, T, length, get_or}
use Rattle.process.specs.Sums.{sum}
use Rattle.process.specs.Ways.{Way, Good}
use Rattle.model.specs.View.{view_of, size_at, deadline_at, energy_of, greatest_energy, M}
use Rattle.model.specs.Plan.{HasValue, no_speed, byte_of_queue, process_of}
use Rattle.model.specs.Queue.{Queue, positions, unused_zero, bearable, one_slot}
use Rattle.model.specs.Stepper.{queue_of, speed_now}
use Rattle.model.specs.declared.Sheet.{Sheet}
use Rattle.stepper.specs.Calls.{state_of}
use Rattle.stepper.specs.declared.state.State.{State}
use Rattle.stepper.specs.declared.state.Stepped.{Stepped}
use Rattle.demands.specs.Calls.{Starts, Advances}

-- w(1) to w(D) of a state
abbrev pub queue_of_state : Sheet → State → Queue
queue_of_state sheet x = queue_of (view_of sheet) (state_of x)

-- the speed of the slot that begins in a state, by the plan; 255 at the horizon
abbrev pub speed_of_state : Sheet → List ℕ → State → ℕ
speed_of_state sheet bytes x = speed_now (view_of sheet) bytes (state_of x)

-- no way is good from a state's slot and queue
abbrev pub HasNoWay : Sheet → State → Type 0
HasNoWay sheet x =
    (σ : Way) → Good (process_of (view_of sheet)) (view_of sheet).job_count ((view_of sheet).horizon - x.slot) (queue_of_state sheet x) σ → ⊥

-- a state that a run may begin with: "a queue that has one", a value at the state's slot; and 13 finds nothing else wrong with it. That a
-- queue stands in six places is ensured by the machine
pub record Begins (sheet : Sheet) (from : State) : Type 0 where
  pub six : length from.queue ≡ positions
  pub unused : T (unused_zero (view_of sheet).bound from.queue)
  pub energy_upto : from.energy ≤ from.slot * greatest_energy (view_of sheet)
  pub has_value : HasValue (view_of sheet) from.slot (queue_of_state sheet from)

-- an answer that a run may go on from: such a state, with the speed that the plan has for it
pub record GoesOn (sheet : Sheet) (bytes : List ℕ) (from : Stepped) : Type 0 where
  pub begins : Begins sheet from.state
  pub speed_is : from.speed ≡ speed_of_state sheet bytes from.state

-- what was answered after k slots: what the run goes on from, and then what each advance answered
abbrev pub answer_after : Stepped → (ℕ → Stepped) → ℕ → Stepped
answer_after from stepped zero = from
answer_after from stepped (suc k) = stepped k

-- the state after k slots
abbrev pub state_after : Stepped → (ℕ → Stepped) → ℕ → State
state_after from stepped k = (answer_after from stepped k).state

-- the speed of the slot that follows k slots, as it was told
abbrev pub told_after : Stepped → (ℕ → Stepped) → ℕ → ℕ
told_after from stepped k = (answer_after from stepped k).speed

-- a run with this plan from an answer: for each arrival, which is the place of an entry, one advance
pub record Run (sheet : Sheet) (bytes : List ℕ) (from : Stepped) (arrivals : List ℕ) : Type 0 where
  pub stepped : ℕ → Stepped
  pub advances : (k : ℕ) → k < length arrivals →
      Advances (state_after from stepped k) sheet bytes
      (size_at (view_of sheet) (get_or arrivals k 0)) (deadline_at (view_of sheet) (get_or arrivals k 0)) (stepped k)

-- "with arrivals from the sheet": each is the place of an entry
abbrev pub AreEntries : Sheet → List ℕ → Type 0
AreEntries sheet arrivals = (k : ℕ) → k < length arrivals → get_or arrivals k 0 < (view_of sheet).job_count

-- "before the horizon": a run with so many arrivals, from an answer, ends at the horizon or before it
abbrev pub EndsByHorizon : Sheet → Stepped → List ℕ → Type 0
EndsByHorizon sheet from arrivals = from.state.slot + length arrivals ≤ (view_of sheet).horizon

-- w(1) to w(D) after k slots
abbrev pub queue_after : Sheet → Stepped → (ℕ → Stepped) → ℕ → Queue
queue_after sheet from stepped k = queue_of_state sheet (state_after from stepped k)

-- the state after k slots
pub record Stands (sheet : Sheet) (bytes : List ℕ) {from : Stepped} {arrivals : List ℕ} (run : Run sheet bytes from arrivals)
    (k : ℕ) : Type 0 where
  pub slot_is : (state_after from run.stepped k).slot ≡ from.state.slot + k
  -- the energy spent has grown by the sum of the energies of the speeds told
  pub energy_is : (state_after from run.stepped k).energy ≡
      from.state.energy + sum (λ j. energy_of (view_of sheet) (told_after from run.stepped j)) k
  -- the queue is bearable and has a value
  pub is_bearable : T (bearable (M (view_of sheet)) (queue_after sheet from run.stepped k))
  pub has_value : HasValue (view_of sheet) (from.state.slot + k) (queue_after sheet from run.stepped k)

-- the slot that follows: the speed told is the plan's, the advance is not refused, and the next queue is what the slot and the arrival make
-- of this one
pub record Steps (sheet : Sheet) (bytes : List ℕ) {from : Stepped} {arrivals : List ℕ} (run : Run sheet bytes from arrivals)
    (k : ℕ) : Type 0 where
  pub speed_is : told_after from run.stepped k ≡
      byte_of_queue (view_of sheet) bytes (from.state.slot + k) (queue_after sheet from run.stepped k)
  pub advance_answers : (run.stepped k).number ≡ 0
  pub queue_is : queue_after sheet from run.stepped (suc k) ≡
      one_slot (queue_after sheet from run.stepped k) (told_after from run.stepped k)
      (size_at (view_of sheet) (get_or arrivals k 0)) (deadline_at (view_of sheet) (get_or arrivals k 0))

-- the whole run; where it comes to the horizon, the last speed told is 255
pub record NeverRefused (sheet : Sheet) (bytes : List ℕ) {from : Stepped} {arrivals : List ℕ}
    (run : Run sheet bytes from arrivals) : Type 0 where
  pub stands : (k : ℕ) → k ≤ length arrivals → Stands sheet bytes run k
  pub steps : (k : ℕ) → k < length arrivals → Steps sheet bytes run k
  pub told_last : from.state.slot + length arrivals ≡ (view_of sheet).horizon → told_after from run.stepped (length arrivals) ≡ no_speed

-- "Start takes a sheet and a queue and gives slot 0, energy 0"
abbrev pub at_start : State → State
at_start x = record { queue = x.queue; slot = 0; energy = 0 }

-- a run from the queue of the state `from`: a start, and then a run from what it answered
pub record StartedRun (sheet : Sheet) (bytes : List ℕ) (from : State) (arrivals : List ℕ) : Type 0 where
  pub started : Stepped
  pub starts : Starts from sheet bytes started
  pub run : Run sheet bytes started arrivals

-- the whole of it: start answers 0, that queue at slot 0 and the plan's speed there, and what follows is a run that is never refused
pub record StartedNeverRefused (sheet : Sheet) (bytes : List ℕ) {from : State} {arrivals : List ℕ}
    (run : StartedRun sheet bytes from arrivals) : Type 0 where
  pub start_answers : run.started.number ≡ 0
  pub start_gives : run.started.state ≡ at_start from
  pub first_speed : run.started.speed ≡ byte_of_queue (view_of sheet) bytes 0 (queue_of_state sheet from)
  pub never_refused : NeverRefused sheet bytes run.run
