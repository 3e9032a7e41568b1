-- `queues_of` meets its contract: N is how many queues there are for the largest speed and the deadline bound.
use Prim.Native.Nat.{ℕ}
use mathlib.Core.Path.{sym, ap, ◌∙◌}
use native.Mathlib.Omega.{arith}
use Rattle.model.proofs.Refusal.{ranged, N_is}
use Rattle.model.specs.View.{view_of}
use Rattle.model.specs.Queue.{queue_count}
use Rattle.queues.proofs.Bounds.{ranges_of}
use Rattle.limits.proofs.queues_of.Goals as goal

pub queue_count-requires : goal.queue_count-requires
queue_count-requires c =
    ranges_of (ranged (view_of c.args.sheet.sheet) c.args.sheet.fields) c.greatest_of-greatest.ensures.0 (omega arith)

pub returns : goal.returns
returns c =
    let s = view_of c.args.sheet.sheet in
    c.queue_count.ensures ∙ ap (λ (m : ℕ). queue_count m s.bound) c.greatest_of-greatest.ensures.0 ∙ sym (N_is s)
