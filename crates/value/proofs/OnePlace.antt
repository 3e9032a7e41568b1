-- The width of one place (specs/Narrow.antt): a value stands at its own place, and is loaded and stored there.
use Prim.Native.Nat.{ℕ, ◌+◌, ◌<◌}
use mathlib.Core.Path.{◌≡◌, ap, ◌∙◌}
use mathlib.Core.List.{List}
use lib.ListN.{length, get_or, set}
use Rattle.model.specs.Width.{decode, value_in}
use Rattle.model.proofs.Width.{placed_narrow}
use Rattle.buffers.specs.Fills.{Fills}
use Rattle.buffers.proofs.Filling.{number_stored}
use Rattle.value.specs.Narrow.{width}

-- what stands at value place i is what the number at place i says
pub value_is : (l : List ℕ) (i : ℕ) → value_in width l i ≡ decode width (get_or l i 0)
value_is l i = ap (decode width) (placed_narrow l i)

-- a number stored is a value stored
pub value_stored : (l : List ℕ) (i x : ℕ) → i < length l → Fills 1 (value_in width) (λ j. decode width x) i 1 l (set l i x)
value_stored l i x h =
    let stored = number_stored l i x h in
    record {
      same_length = stored.same_length;
      filled = λ j k. value_is (set l i x) (i + j) ∙ ap (decode width) (stored.filled j k);
      outside = stored.outside;
    }
