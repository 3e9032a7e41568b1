-- A chain `(a..b).map(f).sum()`: what it returns is the sum of f a to f (b - 1), and it does not wrap where that fits.
use Prim.Native.Nat.{ℕ, zero, suc, ◌+◌, ◌-◌, ◌<◌}
use mathlib.Core.Path.{◌≡◌, refl, ap, ◌∙◌, subst}
use mathlib.Core.List.{List, map}
use native.Mathlib.Numerals.{add-one}
use native.Mathlib.Omega.{arith}
use denote.Param.Members.{Mut}
use Rattle.std.specs.Bool.{⊤}
use Rattle.std.specs.Fn.{Called}
use Rattle.std.specs.Iterator.{Drains}
use Rattle.std.specs.Iterator.Adapters.{map_source, map_callee}
use Rattle.std.specs.Iterator.Runs.{EachRunFrom}
use Rattle.std.specs.List.{fold, range_with_len}
use Rattle.std.specs.List as std
use Rattle.std.specs.declared.iter.Map.{Map}
use Rattle.std.specs.declared.ops.Range.{Range}
use Rattle.std.proofs.iter.Yields.{nat_range_steps}
use Rattle.std.proofs.lemmas.Iterator.{YieldsList, YieldsList-from_range, YieldsList-from_map, maps}
use Rattle.std.proofs.lemmas.Iterator.Consumers.{YieldsList-at, sum_from_yields_List, fits_from_yields_list}
use Rattle.std.proofs.lemmas.List.FromFn.{sum_by-map-range_with_len_more}
use Rattle.process.specs.Sums.{sum}

-- the sum of what a function gives at n numbers from a on
sum_range : (f : ℕ → ℕ) (a n : ℕ) → std.sum (map f (range_with_len a n)) ≡ sum (λ j. f (a + j)) n
unfolding sum
sum_range f a zero = refl
sum_range f a (suc n) =
    subst (λ m. std.sum (map f (range_with_len a m)) ≡ sum (λ j. f (a + j)) n + f (a + n)) (add-one n)
    (sum_by-map-range_with_len_more (λ x. x) f a n (a + n) refl ∙ ap (λ s. s + f (a + n)) (sum_range f a n))

-- a map over a range, by its source and its closure, where the closure computes f
module _ {F : Type 0} {g : Mut F (ℕ × Unit {0}) ℕ} {closure : F} {s : Map (Range ℕ) F} (f : ℕ → ℕ) (a b : ℕ)
    (from : map_source s ≡ record { start = a; end = b }) (by : map_callee s ≡ closure)
    (each : (x r : ℕ) (q : F) → Called g closure (x, tt) r q → (q ≡ closure) × (r ≡ f x)) where
  yielded : YieldsList (maps nat_range_steps g) (λ r. r) s (map f (range_with_len a (b - a)))
  yielded = YieldsList-from_map g f (YieldsList-at from (YieldsList-from_range a b (b - a) refl refl)) by each

  -- what `sum` returns
  pub range_sum : (r : ℕ) → ((xs : List ℕ) × (⊤ → Drains (maps nat_range_steps g) s xs) × (r ≡ fold (λ c x. c + x) 0 xs)) →
      r ≡ sum (λ j. f (a + j)) (b - a)
  range_sum r ran = sum_from_yields_List s r ran yielded ∙ sum_range f a (b - a)

  -- what `sum` requires
  pub range_sum_fits : (top : ℕ) → sum (λ j. f (a + j)) (b - a) < top → EachRunFrom (maps nat_range_steps g) s (λ p. fold (λ c x. c + x) 0 p.items < top)
  range_sum_fits top low = fits_from_yields_list s top yielded (omega (arith, low, sum_range f a (b - a)))
