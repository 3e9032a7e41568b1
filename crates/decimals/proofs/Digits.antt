-- How many digits a number in decimal has at most.
use Prim.Native.Nat.{ℕ, zero, suc, ◌+◌, ◌-◌, ◌^◌, ◌/◌, ◌%◌, ◌≤◌, ◌<◌}
use mathlib.Core.Path.{◌≡◌, ◌∙◌, ap}
use mathlib.Core.List.{List, [], ◌∷◌, ◌++◌}
use mathlib.Core.Logic.{⊎_elim}
use native.Mathlib.Nat.{zero-lt-suc, eq-zero-or-pos}
use native.Mathlib.Omega.{arith}
use lib.ListN.{length, length-append}
use Rattle.laws.proofs.Codes.{rest_shorter}
use Rattle.laws.proofs.Listing.{digits_last, digits_more}
use Rattle.model.specs.Listing.{digit, digits_in, decimal}

-- one digit's length
pub single_length : (most x : ℕ) → 1 ≤ most → x < 10 → length (digits_in most x) ≡ 1
single_length most x room h = ap length (digits_last most x room h)

-- a greater number has one digit more than its tenth
pub several_length : (most x : ℕ) → 1 ≤ most → 10 ≤ x → length (digits_in most x) ≡ length (digits_in (most - 1) (x / 10)) + 1
several_length most x room h =
    omega (arith, ap length (digits_more most x room h), length-append (digits_in (most - 1) (x / 10)) (digit (x % 10) ∷ []))

-- a number below 10^k has at most k digits
pub digits_upto : (n k x : ℕ) → 1 ≤ k → x < 10 ^ k → length (digits_in n x) ≤ k
unfolding digits_in
digits_upto zero k x room h = omega arith
digits_upto (suc n) k x room h =
    ⊎_elim (λ e. omega (arith, single_length (suc n) x (zero-lt-suc n) (omega arith)))
    (λ l.
    let ten : 10 ≤ x = omega arith in
    let short = rest_shorter 10 k x (omega arith) ten h in
    let less : suc n - 1 ≡ n = omega arith in
    omega (arith, rw less at (several_length (suc n) x (zero-lt-suc n) ten), digits_upto n (k - 1) (x / 10) short.0 short.1))
    (eq-zero-or-pos (x / 10))

-- the digits of a number that has two, and of one that has three

pub two_digits : (x : ℕ) → 10 ≤ x → x < 100 → decimal x ≡ digit (x / 10) ∷ digit (x % 10) ∷ []
two_digits x low high =
    digits_more 20 x (omega arith) low ∙ ap (λ (l : List ℕ). l ++ digit (x % 10) ∷ []) (digits_last 19 (x / 10) (omega arith) (omega arith))

pub three_digits : (x : ℕ) → 100 ≤ x → x < 1000 → decimal x ≡ digit (x / 10 / 10) ∷ digit (x / 10 % 10) ∷ digit (x % 10) ∷ []
three_digits x low high =
    let tenth : digits_in 19 (x / 10) ≡ digit (x / 10 / 10) ∷ digit (x / 10 % 10) ∷ [] =
    digits_more 19 (x / 10) (omega arith) (omega arith) ∙
    ap (λ (l : List ℕ). l ++ digit (x / 10 % 10) ∷ []) (digits_last 18 (x / 10 / 10) (omega arith) (omega arith)) in
    digits_more 20 x (omega arith) (omega arith) ∙ ap (λ (l : List ℕ). l ++ digit (x % 10) ∷ []) tenth
