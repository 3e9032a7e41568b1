-- `fill` meets its contract. The loop's invariant: the queues that come before the next one are filled.
use mathlib.Core.Path.{◌≡◌, refl, ap, ◌∙◌, subst}
use Rattle.queues.specs.Blocks.{lowest_of}
use Rattle.value.specs.Narrow.{width}
use Rattle.buffers.proofs.Filling.{value_local}
use Rattle.choose.specs.declared.pass.Pass.{Pass}
use Rattle.choose.specs.Pass.{Ended, sizes_of}
use Rattle.choose.proofs.Walk.{queue_given, passed_none, passed_more, passed_whole}
use Rattle.follow.proofs.row.fill.Goals as goal

pub loop-queue-init : goal.loop-queue-init
loop-queue-init c =
    let sizes = sizes_of c.args.pass.now.lanes.now.of in
    let it = c.into_iter-queue-iterator.result in
    let same = c.into_iter-queue-iterator.ensures.into_iter_gives in
    let begun = c.queues-queue-items.ensures in
    let block : it.queue.block ≡ 0 = ap (λ q. q.queue.block) same ∙ begun.1 in
    let last : it.queue.last ≡ lowest_of sizes.largest sizes.bound 0 = ap (λ q. q.queue.last) same ∙ begun.2 in (
      tt,
      ap (λ q. q.pass.now.lanes.now.of) same ∙ ap (λ (p : Pass). p.lanes.now.of) begun.0,
      passed_none (value_local width) c.args.pass.now.given.measured block last,
    )

pub loop-queue-preserved : goal.loop-queue-preserved
loop-queue-preserved c =
    let given = c.in-Some.ensures.steps.1 in
    let queue = queue_given c.loop-queue.invariant.1 given.0 given.1 in
    let number = c.number-number.ensures.0 in (
      tt,
      ap (λ (p : Pass). p.lanes.now.of) c.in-Some.ensures.steps.0 ∙ c.loop-queue.invariant.1,
      passed_more (value_local width) c.args.pass.now.given.measured queue.0.within {g = λ i. c.byte_cost-cost.result} queue.1 given.2 given.3
          number refl (rw number (rw number at c.byte_cost-cost.ensures)) c.loop-queue.invariant.2
          c.store.ensures,
    )

pub returns : goal.returns
returns c =
    passed_whole (value_local width) c.args.pass.now.given.measured
    (subst (λ s. Ended (sizes_of s) c.loop-queue.queue-iterator.queue.block c.loop-queue.queue-iterator.queue.last) c.loop-queue.invariant.1
    c.in-None.ensures.steps.1)
    c.loop-queue.invariant.2
