-- `blocks` meets its contract: the queues after a slot come in few blocks.
use mathlib.Core.Path.{refl}
use native.Mathlib.Omega.{arith}
use Rattle.rows.proofs.Room.{blocks_few}
use Rattle.entry_lanes.proofs.entries.EntriesLanes.blocks.Goals as goal

pub returns : goal.returns
returns c = (refl, omega (arith, blocks_few c.args.self.now.tested.now.measured))
