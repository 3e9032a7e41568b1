-- `fill` meets its contract. The loop's invariant: the queues that come before the next one are filled.
use mathlib.Core.Path.{◌≡◌, refl, ap, ◌∙◌, subst}
use native.Mathlib.Omega.{arith}
use Rattle.queues.specs.Blocks.{lowest_of}
use Rattle.value.specs.Narrow.{width}
use Rattle.buffers.proofs.Filling.{value_local, number_local, number_stored}
use Rattle.choose.specs.declared.pass.Pass.{Pass}
use Rattle.choose.specs.Pass.{Ended, sizes_of}
use Rattle.choose.proofs.Passing.{byte_fits}
use Rattle.choose.proofs.Walk.{queue_given, passed_none, passed_more, passed_whole}
use Rattle.choose.proofs.pass.Pass.fill.Goals as goal

pub loop-queue-init : goal.loop-queue-init
loop-queue-init c =
    let given = c.args.self.now.given in
    let it = c.into_iter-queue-iterator.result in
    let same = c.into_iter-queue-iterator.ensures.into_iter_gives in
    let begun = c.queues-queue-items.ensures in
    let block : it.queue.block ≡ 0 = ap (λ q. q.queue.block) same ∙ begun.1 in
    let last : it.queue.last ≡ lowest_of (sizes_of c.args.self.now.lanes.now.of).largest (sizes_of c.args.self.now.lanes.now.of).bound 0 =
    ap (λ q. q.queue.last) same ∙ begun.2 in (
      tt,
      ap (λ q. q.pass.now.lanes.now.of) same ∙ ap (λ (p : Pass). p.lanes.now.of) begun.0,
      record {
        values_filled = passed_none (value_local width) given.measured block last;
        plan_filled = passed_none number_local given.measured block last;
      },
    )

pub overflow_cast-plan : goal.overflow_cast-plan
overflow_cast-plan c = omega (arith, byte_fits c.args.self.now.given _ c.choose-best.ensures)

pub loop-queue-preserved : goal.loop-queue-preserved
loop-queue-preserved c =
    let m = c.args.self.now.given.measured in
    let filled = c.loop-queue.invariant.2 in
    let given = c.in-Some.ensures.steps.1 in
    let queue = queue_given c.loop-queue.invariant.1 given.0 given.1 in
    let number = c.number-number.ensures.0 in
    let chosen = c.choose-best.ensures in (
      tt,
      ap (λ (p : Pass). p.lanes.now.of) c.in-Some.ensures.steps.0 ∙ c.loop-queue.invariant.1,
      record {
        values_filled = passed_more (value_local width) m queue.0.within queue.1 given.2 given.3 number refl (rw c.number-number.ensures.0 chosen.value_is) filled.values_filled c.store.ensures;
        plan_filled =
            passed_more number_local m queue.0.within queue.1 given.2 given.3 number refl (rw c.number-number.ensures.0 chosen.speed_is) filled.plan_filled
            (number_stored _ _ _ (omega (arith, c.number-number.ensures.1, c.requires.1, c.loop-queue.auto.plan)));
      },
    )

pub returns : goal.returns
returns c =
    let m = c.args.self.now.given.measured in
    let filled = c.loop-queue.invariant.2 in
    let it = c.loop-queue.queue-iterator in
    let all = subst (λ s. Ended (sizes_of s) it.queue.block it.queue.last) c.loop-queue.invariant.1 c.in-None.ensures.steps.1 in
    record {
      values_filled = passed_whole (value_local width) m all filled.values_filled;
      plan_filled = passed_whole number_local m all filled.plan_filled;
    }
