-- What std prints of a number is the number in decimal, as the model says it.
use Prim.Native.Nat.{ℕ, suc, ◌-◌, ◌^◌, ◌<◌}
use mathlib.Core.Path.{◌≡◌, sym}
use native.Mathlib.Nat.{zero-lt-suc}
use native.Mathlib.Omega.{arith}
use Rattle.laws.proofs.Listing.{digits_last, digits_more}
use Rattle.model.specs.Listing.{decimal, digits_in}
use Rattle.std.proofs.lemmas.Fmt.{AppendsLastDigit, decimal_from_appends, length-decimal-le}
use Rattle.std.specs.Fmt.{decimal as printed}

-- the front of a number, and then its last digit
appends : AppendsLastDigit digits_in
appends =
    record {
      one = λ k n small. digits_last (suc k) n (zero-lt-suc k) small;
      more = λ k n ten. let less : suc k - 1 ≡ k = omega arith in rw less at (digits_more (suc k) n (zero-lt-suc k) ten);
    }

pub printed_decimal : (x : ℕ) → x < 2 ^ 64 → printed x ≡ decimal x
printed_decimal x h =
    let short = length-decimal-le 20 x (omega arith) (omega arith) h in
    sym (decimal_from_appends digits_in appends 20 x h short)
