-- The width of this crate: document 01's.
use Rattle.std.specs.Prelude.{ℕ}
use Rattle.std.proofs.Math.Option.{Option}
use Rattle.model.specs.Width.{Width, narrow}

abbrev pub width : Width
width = narrow

-- what a value in the code says: contracts see that alone
abbrev pub value_of : Option ℕ → Option ℕ
value_of r = r
