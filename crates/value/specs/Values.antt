-- What the operations on one value, a whole number or none, promise, over any width (model/specs/Width.antt). The code of this crate has
-- one width (Narrow.antt).
use Rattle.std.specs.Prelude.{ℕ, Bool, true, false, ltb}
use Rattle.std.specs.Prelude as code
use Rattle.std.proofs.Math.Option.{Option, none, some}
use Rattle.process.specs.Recursion.{UptoOr}
use Rattle.model.specs.Width.{Width}

-- a value is none or within the limit of the width
abbrev pub Fits : Width → Option ℕ → Type 0
Fits width r = UptoOr (Unit {0}) r width.limit

-- whether a value is none
abbrev pub missing : Option ℕ → Bool
missing none = true
missing (some v) = false

-- whether one value is less than another: any number is less than none
abbrev pub less_than : Option ℕ → Option ℕ → Bool
less_than none r = false
less_than (some v) none = true
less_than (some v) (some u) = ltb v u

-- an Option of the code as a value
abbrev pub option_of : code.Option ℕ → Option ℕ
option_of code.None = none
option_of (code.Some v) = some v
