-- What the table and the buffer say in the queue of a block that has a last total: the proofs of src/least.rt and src/row.rt stand on these
-- laws, which hold at any width of a value.
use Prim.Native.Nat.{ℕ, suc, pred, max, ◌+◌, ◌-◌, ◌*◌, ◌≤◌, ◌<◌}
use mathlib.Core.Path.{◌≡◌, refl, sym, ap, subst}
use mathlib.Core.Bool.{false}
use mathlib.Core.List.{List}
use mathlib.Core.Logic.{◌⊎◌, inl, inr}
use mathlib.Core.Option.{Option, none, some}
use native.Mathlib.Nat.{eq-or-lt_of_le, le_refl, mul-le-mul_right}
use native.Mathlib.Omega.{arith}
use lib.Dec.{T}
use lib.ListN.{length, get_or}
use Rattle.process.specs.Recursion.{plus, times}
use Rattle.model.specs.View.{View, speed_at, energy_at}
use Rattle.model.specs.Queue.{Queue, total, bearable, queue_count, number_of, run}
use Rattle.model.proofs.View.{later_faster}
use Rattle.model.proofs.Queues.{bearable_at_lem, bearable_upto, number_below, length_in, length_run}
use Rattle.model.proofs.Refusal.{Ranged, ranged}
use Rattle.model.proofs.Tests.{fails_false, first_holds, first_upto, first_within}
use Rattle.queues.specs.Blocks.{queue_with, first_of, lowest_of, last_of, number_in, InBlock, Alike}
use Rattle.queues.proofs.Blocks.{block_place, block_alike, first_queue}
use Rattle.model.specs.Width.{Width, value_in}
use Rattle.value.specs.Values.{Fits}
use Rattle.rows.specs.Tables.{IsLine}
use Rattle.sheets.specs.declared.sizes.Sizes.{Sizes}
use Rattle.rows.proofs.Room.{most_total}
use Rattle.speed_lanes.specs.Lanes.{after_of, leads_on, slowest_in, lane_of, speed_line, Lane}
use Rattle.speed_lanes.proofs.Lanes.{leads_parts, leads_carries, leads_nowhere, lane_says}
use Rattle.choose.specs.Choice.{cost_at, least_in, IsChoice}
use Rattle.choose.specs.Pass.{Given, Within}
use Rattle.choose.proofs.Choices.{least_small}
use Rattle.choose.proofs.Costs.{cost_none, cost_some}

-- a value that is no number above the limit fits
upto_fits : (width : Width) (r : Option ℕ) → ((v : ℕ) → r ≡ some v → v ≤ width.limit) → Fits width r
upto_fits width none upto = tt
upto_fits width (some v) upto = upto v refl

module _ {width : Width} {s : View} {sizes : Sizes} {scale : Option ℕ} {ahead : List ℕ} (given : Given width s sizes scale ahead) where
  abbrev M : ℕ
  M = sizes.largest

  abbrev D : ℕ
  D = sizes.bound

  -- the line of block b
  abbrev pub LineIs : ℕ → ℕ → ℕ → ℕ → List ℕ → Type 0
  LineIs b number lowest third found = IsLine s.speed_count (speed_line M D s b) number lowest third found

  -- the sheet keeps its ranges
  in_range : Ranged s
  in_range = ranged s given.fields

  -- (D-1) times M as the code works it out
  most_before : (D - 1) * M ≡ pred D * M
  most_before = ap (λ (d : ℕ). d * M) (omega arith)

  -- with a speed, the last total at which its lane ends, it is small
  pub end_small : {j speed : ℕ} → j < s.speed_count → speed ≡ speed_at s j → (D - 1) * M + speed ≤ 56
  end_small {j} h e =
      let fewer : D - 1 ≤ D = omega arith in
      omega (arith, e, mul-le-mul_right M fewer, most_total given.measured, in_range.speed_high j h)

  -- what is chosen in a queue has a speed that fits a byte
  pub byte_fits : (w : Queue) {speed : ℕ} {r : Option ℕ} → IsChoice (least_in width M D s ahead scale w) speed r → speed ≤ 255
  byte_fits w i =
      omega (
        arith,
        i.speed_is,
        least_small (speed_at s) (cost_at width M D s ahead scale w) s.speed_count (λ j h. omega (arith, in_range.speed_high j h)),
      )

  module _ {b : ℕ} (block : b < sizes.after) where
    abbrev first : Queue
    first = first_of M D b

    -- it is a block of the queues
    pub block_low : b < queue_count M (pred D)
    block_low = omega (arith, given.measured.after_is)

    -- its first queue
    first_is : (length first ≡ D) × T (bearable M first) × (total first D ≡ lowest_of M D b)
    first_is = first_queue M D b given.measured.bound_low block_low

    -- its lowest last total is one
    pub lowest_high : lowest_of M D b ≤ D * M
    lowest_high = omega (arith, first_is.2, bearable_upto M first first_is.1 D (omega (arith, first_is.0)))

    -- its first queue has its lowest last total
    pub within_first : {x : ℕ} → x ≡ lowest_of M D b → Within sizes b x
    within_first e =
        record { block_low = block; last_low = omega arith; last_high = omega (arith, lowest_high) }

    -- the place of the slowest speed is no more than there are speeds
    pub slowest_few : slowest_in M D s first ≤ s.speed_count
    slowest_few = first_within (λ i. leads_on M D first (speed_at s i)) s.speed_count

    -- from it on every speed leads on from the first queue
    leads_from : (j : ℕ) → slowest_in M D s first ≤ j → j < s.speed_count → T (leads_on M D first (speed_at s j))
    leads_from j low h =
        let k = slowest_in M D s first in
        let there = first_holds (λ i. leads_on M D first (speed_at s i)) s.speed_count (omega arith) in
        leads_carries M D first first (speed_at s k) (speed_at s j) given.measured.bound_low first_is.0 first_is.0
        (λ u l. (bearable_at_lem M first first_is.1 u l).0) (λ u. le_refl (total first u)) (faster k (eq-or-lt_of_le low)) there
      where
        faster : (k : ℕ) → (k ≡ j) ⊎ (k < j) → speed_at s k ≤ speed_at s j
        faster k (inl q) = omega (arith, ap (speed_at s) q)
        faster k (inr l) = omega (arith, later_faster s in_range.rises k j l h)

  module _ {b x : ℕ} (inside : Within sizes b x) where
    abbrev w : Queue
    w = queue_with M D (number_in M D b x)

    placed : InBlock M D b (suc x) (number_in M D b x) × (last_of M D (number_in M D b x) ≡ x)
    placed = block_place M D b x (number_in M D b x) (block_low inside.block_low) inside.last_low inside.last_high refl

    alike : Alike D (first_of M D b) w
    alike =
        block_alike M D b (number_in M D b x) given.measured.bound_low (block_low inside.block_low) placed.0.within
        placed.0.block_is

    later : total (first_of M D b) D ≤ total w D
    later = omega (arith, (first_is inside.block_low).2, placed.1, inside.last_low)

    -- the queue's number is one
    pub number_low : number_in M D b x < sizes.queues
    number_low = omega (arith, placed.0.within, given.measured.queues_is)

    -- and it is found as the code finds it
    pub number_found : {number lowest third : ℕ} {found : List ℕ} → LineIs b number lowest third found →
        (number + (x - lowest) ≡ number_in M D b x) × (number + (x - lowest) < sizes.queues)
    number_found line = (
      omega (arith, line.number_is, line.lowest_is),
      omega (arith, line.number_is, line.lowest_is, number_low),
    )

    -- a speed before the slowest that leads on costs none
    pub slower_none : (j : ℕ) → j < slowest_in M D s (first_of M D b) → cost_at width M D s ahead scale w j ≡ none
    slower_none j h =
        let within : j < s.speed_count = omega (arith, slowest_few inside.block_low) in
        let fails : leads_on M D (first_of M D b) (speed_at s j) ≡ false =
        fails_false _ (λ t. omega (arith, first_upto (λ i. leads_on M D (first_of M D b) (speed_at s i)) s.speed_count j within t)) in
        cost_none width M D ahead scale w (speed_at s j) (energy_at s j)
        (leads_nowhere M D (first_of M D b) w (speed_at s j) given.measured.bound_low alike (first_is inside.block_low).1 later fails)

    -- every other has a lane
    module _ {j : ℕ} (low : slowest_in M D s (first_of M D b) ≤ j) (h : j < s.speed_count) where
      lane : Lane M D w (speed_at s j) (lane_of M D (first_of M D b) (speed_at s j)) (max (speed_at s j) (lowest_of M D b))
      lane =
          subst (λ (y : ℕ). Lane M D w (speed_at s j) (lane_of M D (first_of M D b) (speed_at s j)) (max (speed_at s j) y))
          (first_is inside.block_low).2
          (lane_says M D (first_of M D b) w (speed_at s j) given.measured.bound_low alike later (leads_from inside.block_low j low h))

      -- whose speed the code finds
      module _ {speed : ℕ} (speed_is : speed ≡ speed_at s j) where
        -- past its end the speed costs none
        pub cost_past : (D - 1) * M + speed < x → cost_at width M D s ahead scale w j ≡ none
        cost_past past =
            cost_none width M D ahead scale w (speed_at s j) (energy_at s j)
            (lane.ends (omega (arith, placed.1, most_before, speed_is)))

        -- before it the lane leads to a place of the buffer, found as the code finds it
        module _ (before : x ≤ (D - 1) * M + speed) {number lowest third from on : ℕ} {found : List ℕ}
            (line : LineIs b number lowest third found) (larger : from ≡ max speed lowest) (above : on ≡ x - from) where
          abbrev there : ℕ
          there = get_or found j 0 + on

          goes : T (leads_on M D w (speed_at s j)) × (number_of M (after_of D w (speed_at s j)) ≡ there)
          goes =
              let g = lane.goes (omega (arith, placed.1, most_before, speed_is)) in
              let begins : from ≡ max (speed_at s j) (lowest_of M D b) = cc (larger, speed_is, line.lowest_is) in
              (g.0, omega (arith, g.1, line.lane_is j h, placed.1, above, begins))

          -- the buffer has that place
          pub found_low : there < sizes.after
          found_low =
              let shorter : length (after_of D w (speed_at s j)) ≡ pred D =
              length_in (pred D) (run w (speed_at s j)) (omega (arith, length_run w (speed_at s j), alike.long_too)) in
              omega (
                arith,
                number_below M (after_of D w (speed_at s j)) shorter (leads_parts M D w (speed_at s j) goes.0).1,
                goes.1,
                given.measured.after_is,
              )

          -- what stands there and the scaled energy are what the speed costs
          pub cost_there : {energy : ℕ} → energy ≡ energy_at s j → {r : Option ℕ} → r ≡ value_in width ahead there →
              plus r (times (energy) scale) ≡ cost_at width M D s ahead scale w j
          cost_there energy_is load =
              rw (load, energy_is, ← goes.1)
              (sym (cost_some width M D ahead scale w (speed_at s j) (energy_at s j) goes.0))

          -- which does not exceed the limit of a value
          pub cost_fits : {energy : ℕ} → energy ≡ energy_at s j → {r : Option ℕ} → r ≡ value_in width ahead there → Fits width (plus r (times (energy) scale))
          cost_fits energy_is load = subst (Fits width) (sym (cost_there energy_is load)) (upto_fits width _ (λ v. given.fits _ j v number_low h))
