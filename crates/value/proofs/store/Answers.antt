-- `store` meets its contract.
use native.Mathlib.Omega.{arith}
use Rattle.value.proofs.OnePlace.{value_stored}
use Rattle.value.proofs.store.Goals as goal

pub returns : goal.returns
returns c = rw (← c.value.view_is) (value_stored c.args.buffer.now c.args.place c.value.inside.number (omega (arith, c.requires)))
