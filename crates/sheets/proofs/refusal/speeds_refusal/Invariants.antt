-- `speeds_refusal` meets its contract. The loop's invariant: no speed passed is refused, and the last of them is kept.
use Rattle.std.proofs.Common.{◌≡◌}
use Prim.Native.Nat.{pred}
use Rattle.model.specs.View.{view_of, speed_at}
use Rattle.model.specs.Refusal.{speeds_refusal}
use Rattle.sheets.proofs.refusal.speeds_refusal.Given as goal

abbrev pub invariant-loop-place : goal.invariant-loop-place
invariant-loop-place l =
    record {
      passed : speeds_refusal (view_of l.fn.sheet) l.place ≡ 0;
      kept : (l.place ≡ 0 → ⊥) → l.before ≡ speed_at (view_of l.fn.sheet) (pred l.place);
    }
