-- This pass over a row of any function from the queues after a slot: what a byte costs goes by that function. The caller of the pass says
-- which function it is.
use Prim.Native.Nat.{ℕ, ◌+◌}
use mathlib.Core.Path.{ap}
use mathlib.Core.List.{List}
use mathlib.Core.Option.{Option}
use lib.ListN.{get_or}
use Rattle.process.specs.Recursion.{only}
use Rattle.model.specs.View.{View, on_sheet, energy_of}
use Rattle.model.specs.Queue.{Queue}
use Rattle.model.specs.Width.{Width, value_in}
use Rattle.queues.specs.Blocks.{queue_with}
use Rattle.buffers.specs.Fills.{Fills}
use Rattle.buffers.proofs.Filling.{fills_same}
use Rattle.rows.specs.Rows.{RowAfter}
use Rattle.sheets.specs.Sizes.{Measured}
use Rattle.sheets.specs.declared.sizes.Sizes.{Sizes}
use Rattle.choose.proofs.AnyRow.{costs_told}
use Rattle.follow.specs.Pass.{byte_cost_by, cost_left}

-- what it leaves: what each byte costs by the function
pub costs_for : (width : Width) (s : View) {sizes : Sizes} → Measured sizes → (g : Queue → Option ℕ) {ahead : List ℕ} →
    RowAfter width sizes.largest sizes.bound g 0 ahead → (scale : Option ℕ) (plan : List ℕ) (row : ℕ) {this : ℕ}
    {values₀ values : List ℕ} →
    Fills width.places (value_in width) (cost_left width s sizes ahead scale plan row) this sizes.queues values₀ values →
    Fills width.places (value_in width)
    (λ n. byte_cost_by g s scale (queue_with sizes.largest sizes.bound n) (get_or plan (row + n) 0)) this sizes.queues values₀ values
costs_for width s m g rows scale plan row filled =
    fills_same width.places (value_in width)
    (λ n h.
    let byte = get_or plan (row + n) 0 in
    ap (only (on_sheet s byte)) (costs_told width s m g rows scale n h byte (energy_of s byte))) filled
