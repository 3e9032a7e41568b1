-- `tested_for` meets its contract: a sheet that is tested is accepted, so that its last place can be worked out.
use Rattle.std.proofs.Common.{sym, arith}
use Rattle.model.proofs.Refusal.{accepted}
use Rattle.model.specs.View.{view_of}
use Rattle.layout.proofs.rooms.tested_for.Goals as goal

pub place-requires : goal.place-requires
place-requires c =
    let right = accepted (view_of c.args.sheet) (sym c.in_ok-tested.ensures.number) in
    (c.in_ok-tested.tested.measured.queues_high, omega (arith, right.ranged.horizon_high), omega arith)
