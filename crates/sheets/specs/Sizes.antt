-- What is worked out once for a sheet, and what the passes over its rows need of it.
use Rattle.std.specs.Prelude.{pred, ◌≤◌, ◌≡◌}
use Rattle.model.specs.View.{View, M, greatest_energy}
use Rattle.model.specs.Queue.{queue_count}
use Rattle.model.specs.Refusal.{N}
use Rattle.queues.specs.Order.{Ranges}
use Rattle.sheets.specs.declared.sizes.Sizes.{Sizes}

-- of a sheet: M, the greatest energy, D, N, how many queues there are after a slot, and how many blocks those come in
pub record Sized (s : View) (sizes : Sizes) : Type 0 where
  pub largest_is : sizes.largest ≡ M s
  pub energy_is : sizes.energy ≡ greatest_energy s
  pub bound_is : sizes.bound ≡ s.bound
  pub queues_is : sizes.queues ≡ N s
  pub after_is : sizes.after ≡ queue_count (M s) (pred s.bound)
  pub blocks_is : sizes.blocks ≡ queue_count (M s) (pred (pred s.bound))

-- of any sheet: M and D in range, at least one position, and the counts of queues, no more than number 10 allows. It is all that a pass
-- needs
pub record Measured (sizes : Sizes) : Type 0 where
  pub ranges : Ranges sizes.largest sizes.bound
  pub bound_low : 1 ≤ sizes.bound
  pub queues_is : sizes.queues ≡ queue_count sizes.largest sizes.bound
  pub after_is : sizes.after ≡ queue_count sizes.largest (pred sizes.bound)
  pub blocks_is : sizes.blocks ≡ queue_count sizes.largest (pred (pred sizes.bound))
  pub queues_high : sizes.queues ≤ 65535
