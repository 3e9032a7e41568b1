-- That a plan has the rows that the lines ask for.
use Prim.Native.Nat.{ℕ, ◌*◌}
use mathlib.Core.Path.{◌≡◌, ap}
use mathlib.Core.List.{List}
use native.Mathlib.Omega.{arith}
use lib.ListN.{length}
use Rattle.model.proofs.Refusal.{accepted}
use Rattle.laws.proofs.Rooms.{row_accepted}
use Rattle.model.specs.View.{View}
use Rattle.model.specs.Plan.{row_refusal}
use Rattle.model.specs.Refusal.{N}
use Rattle.lines.specs.Lines.{HasRows}

-- where the row call's tests refuse nothing, the plan has every row of the sheet
pub rows_accepted : (s : View) {plan : List ℕ} {queues : ℕ} → row_refusal s (length plan) ≡ 0 → queues ≡ N s →
    HasRows plan queues s.horizon
rows_accepted s {plan = plan} e queues_are =
    let row = row_accepted s (length plan) e in
    let sheet = accepted s row.0 in
    record {
      few_queues = omega (arith, sheet.queues_high);
      few_slots = sheet.ranged.horizon_high;
      rows = omega (arith, row.1, ap (λ (n : ℕ). s.horizon * n) queues_are);
    }
