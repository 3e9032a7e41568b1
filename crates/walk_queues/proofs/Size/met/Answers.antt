-- `met` is safe: a queue that passed the test for bearable has a number.
use mathlib.Core.Path.{sym, ◌∙◌, subst}
use lib.Dec.{T}
use Rattle.model.proofs.Queues.{held_bearable}
use Rattle.walk_queues.proofs.Size.met.Goals as goal

pub stands_at-requires : goal.stands_at-requires
stands_at-requires c =
    let size = c.args.self.now in
    record {
      ranges = size.ranges;
      is_bearable =
          held_bearable size.largest size.bound c.args.queue
          (subst T (sym (sym c.bearable_in.ensures ∙ c.if-not-bearable_in.false)) tt);
    }
