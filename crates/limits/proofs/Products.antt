-- How a product is compared with a limit where its parts may leave 64 bits: number 9.
use Rattle.std.proofs.Common.{ℕ, ◌*◌, ◌^◌, ◌≤◌, ◌<◌, ◌≡◌, Bool, false, leb, sym, ap, ◌∙◌, arith, Option, Some, None}
use Rattle.std.proofs.Math.Nat.{mul-le-mul_right}
use Rattle.std.specs.Option.{SomeIff, MatchOption}
use borrow.Author.Tests.{lt-leb}

-- the power, then the product, then the test. Where the power leaves 64 bits, so does the product, since the factor is 1 at least; and
-- what leaves 64 bits is past the limit
pub fits_checked : (w t f limit : ℕ) (power product : Option ℕ) (r : Bool) → 1 ≤ f → limit < 2 ^ 64 →
    SomeIff power (w ^ t < 2 ^ 64) (w ^ t) →
    MatchOption power (product ≡ None) (λ p. SomeIff product (p * f < 2 ^ 64) (p * f)) →
    MatchOption product (r ≡ false) (λ v. r ≡ leb v limit) →
    r ≡ leb (f * w ^ t) limit
fits_checked w t f limit None None r l m p q s =
    s ∙ sym (lt-leb (f * w ^ t) limit (omega (arith, p, mul-le-mul_right (w ^ t) l)))
fits_checked w t f limit None (Some v) r l m p q s = cc
fits_checked w t f limit (Some x) None r l m p q s =
    s ∙ sym (lt-leb (f * w ^ t) limit (let e = ap (λ n. n * f) p.1 in omega (arith, q, e)))
fits_checked w t f limit (Some x) (Some v) r l m p q s =
    s ∙ ap (λ n. leb n limit) (let e = ap (λ n. n * f) p.1 in omega (arith, q.1, e))
