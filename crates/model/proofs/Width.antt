-- Laws of how a value stands in a buffer (specs/Width.antt): what is read tells what stands there.
use Prim.Native.Nat.{ℕ, ◌+◌, ◌*◌, ◌^◌, ◌<◌}
use mathlib.Core.Path.{◌≡◌, refl, sym, ap, ◌∙◌, subst}
use mathlib.Core.Bool.{Bool, true, false, cond}
use mathlib.Core.List.{List}
use mathlib.Core.Option.{Option, none, some}
use native.Mathlib.Nat.{add-zero, mul-one}
use native.Mathlib.Omega.{arith}
use borrow.Author.Tests.{eqb-true}
use lib.Dec.{eqb}
use lib.ListN.{get_or}
use Rattle.model.specs.Width.{Width, narrow, number_from, placed, decode, value_in}

-- numbers that say the same value are the same
pub decode_same : (width : Width) (x y : ℕ) → decode width x ≡ decode width y → x ≡ y
decode_same width x y = go (eqb x width.none_code) refl (eqb y width.none_code) refl
  where
    read_by : Bool → ℕ → Option ℕ
    read_by b z = cond b none (some z)

    go : (b : Bool) → eqb x width.none_code ≡ b → (c : Bool) → eqb y width.none_code ≡ c → read_by b x ≡ read_by c y → x ≡ y
    go true d true e q = eqb-true x width.none_code d ∙ sym (eqb-true y width.none_code e)
    go true d false e q = cc
    go false d true e q = cc
    go false d false e q = cc

-- what is asked of two buffers of values: where they say the same value, its places hold the same numbers
abbrev pub Telling : Width → List ℕ → List ℕ → Type 0
Telling width l m =
    (i p : ℕ) → p < width.places → value_in width l i ≡ value_in width m i → get_or l (i * width.places + p) 0 ≡ get_or m (i * width.places + p) 0

-- at one place a value, the number at a place is what is placed there
pub placed_narrow : (l : List ℕ) (i : ℕ) → placed narrow l i ≡ get_or l i 0
unfolding number_from
placed_narrow l i = ap (λ (p : ℕ). get_or l p 0 + 2 ^ 64 * 0) (mul-one i) ∙ add-zero (get_or l i 0)

-- so that places which say the same value hold the same number
pub narrow_same : (l m : List ℕ) (i j : ℕ) → value_in narrow l i ≡ value_in narrow m j → get_or l i 0 ≡ get_or m j 0
narrow_same l m i j e = sym (placed_narrow l i) ∙ decode_same narrow (placed narrow l i) (placed narrow m j) e ∙ placed_narrow m j

-- and any two buffers tell
pub narrow_telling : (l m : List ℕ) → Telling narrow l m
narrow_telling l m i p h e =
    let here : i ≡ i * 1 + p = omega (arith, mul-one i) in
    subst (λ (j : ℕ). get_or l j 0 ≡ get_or m j 0) here (narrow_same l m i i e)
