-- `first_queue` meets its contract: the block's line has its lowest last total, with which it has a queue.
use mathlib.Core.Path.{refl}
use Rattle.choose.proofs.Passing.{within_first}
use Rattle.choose.proofs.pass.Pass.first_queue.Goals as goal

pub returns : goal.returns
returns c =
    let line = c.line-line.ensures in (
      record { within = within_first c.args.self.now.given c.requires line.lowest_is; line = line },
      refl,
      line.lowest_is,
    )
