-- `sizes_of` meets its contract: the largest speed is M, and the counts are those of its queues, and of the queues of one and of two
-- positions fewer.
use Prim.Native.Nat.{ℕ, pred}
use mathlib.Core.Path.{refl, sym, ap, ◌∙◌}
use native.Mathlib.Omega.{arith}
use Rattle.model.specs.View.{view_of}
use Rattle.model.specs.Queue.{queue_count}
use Rattle.model.proofs.Refusal.{ranged, N_is}
use Rattle.queues.proofs.Bounds.{ranges_of}
use Rattle.sheets.proofs.sizes.sizes_of.Goals as goal

pub queue_count-requires : goal.queue_count-requires
queue_count-requires c =
    let right = ranged (view_of c.args.sheet.sheet) c.args.sheet.fields in
    ranges_of right c.greatest_of-greatest.ensures.0 (omega arith)

pub queue_count-requires-2 : goal.queue_count-requires-2
queue_count-requires-2 c =
    let right = ranged (view_of c.args.sheet.sheet) c.args.sheet.fields in
    ranges_of right c.greatest_of-greatest.ensures.0 (omega (arith, c.saturating_sub.ensures))

pub queue_count-requires-3 : goal.queue_count-requires-3
queue_count-requires-3 c =
    let right = ranged (view_of c.args.sheet.sheet) c.args.sheet.fields in
    ranges_of right c.greatest_of-greatest.ensures.0 (omega (arith, c.saturating_sub-2.ensures))

pub returns : goal.returns
returns c =
    let s = view_of c.args.sheet.sheet in
    let most = c.greatest_of-greatest.ensures.0 in
    let largest = c.greatest_of-greatest.result.speed in
    record {
      largest_is = most;
      energy_is = c.greatest_of-greatest.ensures.1;
      bound_is = refl;
      queues_is = c.queue_count.ensures ∙ ap (λ (m : ℕ). queue_count m s.bound) most ∙ sym (N_is s);
      after_is =
          c.queue_count-2.ensures ∙
          ap (queue_count largest) (omega (arith, c.saturating_sub.ensures)) ∙
          ap (λ (m : ℕ). queue_count m (pred s.bound)) most;
      blocks_is =
          c.queue_count-3.ensures ∙
          ap (queue_count largest) (omega (arith, c.saturating_sub-2.ensures)) ∙
          ap (λ (m : ℕ). queue_count m (pred (pred s.bound))) most;
    }
