-- `one_slot` meets its contract: the queue after the slot stands in its places, and no total of it is above 48, so that a size fits.
use mathlib.Core.Path.{◌≡◌, sym, ap, ◌∙◌, subst}
use native.Mathlib.Omega.{arith}
use Rattle.model.proofs.Queues.{length_in, length_run, in_first_places}
use Rattle.model.specs.Queue.{Queue, queue_in, places_of, run, arrive}
use Rattle.slot.specs.Slot.{Small}
use Rattle.slot.proofs.Slots.{run_small}
use Rattle.slot.proofs.one_slot.Goals as goal
use Rattle.slot.proofs.one_slot.Goals.{After-after-left}

-- what stands in the first places after the slot is the queue after it
left : (c : After-after-left) →
    let a = c.args in
    queue_in a.bound c.after-left.result ≡ run (queue_in a.bound a.queue) a.speed
left c =
    let a = c.args in
    let w = queue_in a.bound a.queue in
    let long = length_run w a.speed ∙ length_in a.bound a.queue (omega (arith, c.requires.0)) in
    ap (queue_in a.bound) c.after-left.ensures ∙ in_first_places a.bound (run w a.speed) long c.requires.0

pub arrive-requires : goal.arrive-requires
arrive-requires c =
    let a = c.args in
    (c.requires.0, c.requires.1, subst Small (sym (left (goal.at.arrive-requires c).After-after-left)) (run_small (queue_in a.bound a.queue) a.speed c.requires.2))

pub returns : goal.returns
returns c =
    let a = c.args in
    c.arrive.ensures ∙ ap (λ (v : Queue). places_of (arrive v a.size a.deadline)) (left (goal.at.returns c).After-after-left)
