-- What a row says of a queue (specs/Rows.antt), at any width of a value.
use Prim.Native.Nat.{ℕ, suc, pred, ◌+◌, ◌≤◌}
use mathlib.Core.Path.{◌≡◌, refl, sym, ap, ◌∙◌, subst}
use mathlib.Core.Bool.{Bool, true, false}
use mathlib.Core.List.{List}
use mathlib.Core.Option.{Option, none}
use native.Mathlib.Omega.{arith}
use lib.Dec.{T}
use lib.ListN.{length}
use Rattle.process.specs.Recursion.{only}
use Rattle.model.specs.Queue.{Queue, total, NeverFalls, queue_in, bearable, queue_count, number_of, run}
use Rattle.laws.proofs.Longer.{run_never_falls}
use Rattle.model.proofs.Queues.{number_below, number_place, length_in, length_run}
use Rattle.queues.specs.Blocks.{queue_with}
use Rattle.slot.specs.Slot.{last_twice}
use Rattle.slot.proofs.Slots.{run_twice, run_bearable}
use Rattle.model.specs.Width.{Width, value_in}
use Rattle.rows.specs.Rows.{value_in_row, Row, RowOf, RowAfter}

-- a test changes no value that is none where the test fails
only_twice : (b : Bool) (r : Option ℕ) → (b ≡ false → r ≡ none) → only b r ≡ r
only_twice true r failed = refl
only_twice false r failed = sym (failed refl)

module _ (width : Width) (largest : ℕ) where
  -- of a queue that is not bearable a row says none
  pub none_in_row : (l : List ℕ) (from : ℕ) (w : Queue) → bearable largest w ≡ false → value_in_row width largest l from w ≡ none
  unfolding value_in_row
  none_in_row l from w e = ap (λ (b : Bool). only b (value_in width l (from + number_of largest w))) e

  -- of a bearable queue it says what stands at the queue's number
  pub read_in_row : (l : List ℕ) (from : ℕ) (w : Queue) → bearable largest w ≡ true →
      value_in_row width largest l from w ≡ value_in width l (from + number_of largest w)
  unfolding value_in_row
  read_in_row l from w e = ap (λ (b : Bool). only b (value_in width l (from + number_of largest w))) e

  -- where in the row stands what f gives of each bearable queue, it says of a queue what f gives of it
  row_found : (D : ℕ) (f : Queue → Option ℕ) (from : ℕ) (l : List ℕ) →
      Row width (λ i. f (queue_with largest D i)) from (queue_count largest D) l → (w : Queue) → length w ≡ D →
      value_in_row width largest l from w ≡ only (bearable largest w) (f w)
  row_found D f from l row w long = go (bearable largest w) refl
    where
      go : (b : Bool) → bearable largest w ≡ b → value_in_row width largest l from w ≡ only b (f w)
      go true e =
          let t : T (bearable largest w) = subst T (sym e) tt in
          read_in_row l from w e ∙ row.right (number_of largest w) (number_below largest w long t) ∙ ap f (number_place largest w long t)
      go false e = none_in_row l from w e

  -- that is all that it says, where f gives none of a queue that is not bearable
  pub row_says : (D : ℕ) (f : Queue → Option ℕ) (from : ℕ) (l : List ℕ) → RowOf width largest D f from l → (w : Queue) → length w ≡ D →
      value_in_row width largest l from w ≡ f w
  row_says D f from l row w long = row_found D f from l row.row w long ∙ only_twice (bearable largest w) (f w) (row.strict w)

  -- and after a slot at a speed of at least w(1), by the positions before the last, what g gives of the queue after the slot
  pub after_says : (D : ℕ) (g : Queue → Option ℕ) (from : ℕ) (l : List ℕ) → RowAfter width largest D g from l → (w : Queue) (speed : ℕ) →
      1 ≤ D → length w ≡ D → NeverFalls w → total w 1 ≤ speed → value_in_row width largest l from (queue_in (pred D) (run w speed)) ≡ g
      (run w speed)
  after_says D g from l row w speed low long never fast =
      let before = queue_in (pred D) (run w speed) in
      let whole : length w ≡ suc (pred D) = omega arith in
      let shorter : length before ≡ pred D = length_in (pred D) (run w speed) (omega (arith, length_run w speed)) in
      row_found (pred D) (λ v. g (last_twice v)) from l row.row before shorter ∙
      ap (λ (v : Queue). only (bearable largest before) (g v)) (sym (run_twice w speed (pred D) whole fast)) ∙
      only_twice (bearable largest before) (g (run w speed))
      (λ e. row.strict (run w speed) (run_never_falls w speed never) (run_bearable largest w speed (pred D) whole fast ∙ e))
