-- The number that stands for a value, over any width; it gives a number back from what that says, which is why a value in the code may be
-- copied though contracts see what it says alone.
use Rattle.std.specs.Prelude.{ℕ, Bool, true, false, cond, eqb, ◌≡◌, refl}
use Rattle.std.proofs.Common.{sym}
use Rattle.std.proofs.Math.Option.{Option, none, some}
use Rattle.model.specs.Width.{Width, decode}
use borrow.Author.Tests.{eqb-true}

abbrev pub encode : Width → Option ℕ → ℕ
encode width none = width.none_code
encode width (some v) = v

pub encode_decode : (width : Width) (x : ℕ) → encode width (decode width x) ≡ x
encode_decode width x = go (eqb x width.none_code) refl
  where
    go : (b : Bool) → eqb x width.none_code ≡ b → encode width (cond b none (some x)) ≡ x
    go true e = sym (eqb-true x width.none_code e)
    go false e = refl
