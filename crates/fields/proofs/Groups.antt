-- One number of a sheet's bytes, group by group (`number_in`): what its first byte, or the lack of one, says of it, and that it is short.
use Prim.Native.Nat.{ℕ, zero, suc, ◌+◌, ◌*◌, ◌-◌, ◌^◌, ◌≤◌, ◌<◌}
use mathlib.Core.Path.{◌≡◌, refl, ap}
use mathlib.Core.Bool.{cond}
use mathlib.Core.List.{List}
use native.Mathlib.Nat.{pow-suc, one-le-pow, pow-le-pow_right, lt_of_lt_of_le}
use native.Mathlib.Numerals.{add-one}
use native.Mathlib.Omega.{arith}
use lib.Dec.{leb, ltb}
use lib.ListN.{length, get_or}
use Rattle.model.specs.Reading.{value, refused, number_in, joined}

-- no byte is allowed any more
pub no_byte : (most : ℕ) (bytes : List ℕ) (at : ℕ) → most ≡ 0 → number_in most bytes at ≡ refused 2
unfolding number_in
no_byte most bytes at e = ap (λ (n : ℕ). number_in n bytes at) e

-- a byte is allowed: it is missing, or the last, or gives the lowest group, and the rest is a number of one byte less
pub one_byte : (most : ℕ) (bytes : List ℕ) (at : ℕ) → (most ≡ 0 → ⊥) →
    number_in most bytes at ≡
    cond (leb (length bytes) at) (refused 1)
    (cond (ltb (get_or bytes at 0) 128) (value (get_or bytes at 0) (at + 1))
    (joined (get_or bytes at 0 - 128) (number_in (most - 1) bytes (at + 1))))
unfolding number_in
one_byte zero bytes at some = absurd (some refl)
one_byte (suc n) bytes at some =
    let back : suc n - 1 ≡ n = omega arith in
    rw (back, add-one)

-- a number of at most n bytes is below 128^n

pub one_below : (most byte : ℕ) → (most ≡ 0 → ⊥) → byte < 128 → byte < 128 ^ most
one_below zero byte some low = absurd (some refl)
one_below (suc n) byte some low = omega (arith, pow-suc 128 n, one-le-pow n 128 (omega arith))

pub more_below : (most byte high : ℕ) → (most ≡ 0 → ⊥) → byte < 256 → high < 128 ^ (most - 1) → byte - 128 + 128 * high < 128 ^ most
more_below zero byte high some wide small = absurd (some refl)
more_below (suc n) byte high some wide small =
    let back : suc n - 1 ≡ n = omega arith in
    let small' : high < 128 ^ n = rw back at small in
    omega (arith, pow-suc 128 n, small')

-- and so fits: four bytes carry 28 bits
pub below_fits : (most x : ℕ) → most ≤ 4 → x < 128 ^ most → x < 268435456
below_fits most x h small = lt_of_lt_of_le small (pow-le-pow_right {n = 128} (omega arith) h)
