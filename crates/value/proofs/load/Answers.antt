-- `load` meets its contract.
use mathlib.Core.Path.{sym}
use Rattle.value.proofs.OnePlace.{value_is}
use Rattle.value.proofs.load.Goals as goal

pub returns : goal.returns
returns c = sym (value_is c.args.buffer.now c.args.place)
