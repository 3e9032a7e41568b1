-- What a speed costs in a queue (specs/Choice.antt), by whether it leads on.
use Prim.Native.Nat.{ℕ}
use mathlib.Core.Path.{◌≡◌, refl}
use mathlib.Core.Bool.{Bool, true, false}
use mathlib.Core.List.{List}
use mathlib.Core.Option.{Option, none}
use native.Mathlib.Nat.{zero-add}
use borrow.Author.Tests.{le-leb}
use lib.Dec.{T, leb}
use Rattle.process.specs.Recursion.{plus, times, only}
use Rattle.model.specs.Queue.{Queue, total, bearable, number_of}
use Rattle.model.proofs.Tests.{holds_true}
use Rattle.model.specs.Width.{Width, value_in}
use Rattle.rows.specs.Rows.{value_in_row}
use Rattle.rows.proofs.Rows.{none_in_row, read_in_row}
use Rattle.speed_lanes.specs.Lanes.{after_of, leads_on}
use Rattle.speed_lanes.proofs.Lanes.{leads_parts}
use Rattle.choose.specs.Choice.{cost_by, ahead_in}

module _ (width : Width) (M D : ℕ) (ahead : List ℕ) (scale : Option ℕ) (w : Queue) (speed energy : ℕ) where
  -- none where it does not
  pub cost_none : leads_on M D w speed ≡ false → cost_by (ahead_in width M D ahead) scale w speed energy ≡ none
  unfolding cost_by
  cost_none e = go (leb (total w 1) speed) refl
    where
      go : (b : Bool) → leb (total w 1) speed ≡ b →
          only b (plus (value_in_row width M ahead 0 (after_of D w speed)) (times energy scale)) ≡ none
      go true q = rw (none_in_row width M ahead 0 (after_of D w speed) (rw q at e))
      go false q = refl

  -- else what the buffer has at the number of the queue after the slot, and the scaled energy
  pub cost_some : T (leads_on M D w speed) →
      cost_by (ahead_in width M D ahead) scale w speed energy ≡
      plus (value_in width ahead (number_of M (after_of D w speed))) (times energy scale)
  unfolding cost_by
  cost_some t =
      let parts = leads_parts M D w speed t in
      let bearable-after = holds_true (bearable M (after_of D w speed)) parts.1 in
      rw (le-leb (total w 1) speed parts.0, read_in_row width M ahead 0 (after_of D w speed) bearable-after, zero-add)
