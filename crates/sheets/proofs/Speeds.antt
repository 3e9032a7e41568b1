-- The number of the speed at a place, by the speed that a loop over the speeds has kept from the place before.
use Prim.Native.Nat.{pred}
use Rattle.std.proofs.Common.{ℕ, zero, suc, ◌≡◌, refl, ap, ◌∙◌, List, get_or}
use Rattle.std.proofs.Math.Nat.{suc-ne-zero}
use Rattle.model.specs.View.{View, speed_at, energy_at, zero_speed}
use Rattle.model.specs.Refusal.{refusal_of_speed, speed_refusal_at}
use Rattle.model.specs.declared.Speed.{Speed}

-- at the first place nothing is before, and what is kept does not count
after_kept : (s : View) (j : ℕ) {before : ℕ} → ((j ≡ 0 → ⊥) → before ≡ speed_at s (pred j)) →
    refusal_of_speed j before (speed_at s j) (energy_at s j) ≡ speed_refusal_at s j
after_kept s zero kept = refl
after_kept s (suc j) kept =
    ap (λ v. refusal_of_speed (suc j) v (speed_at s (suc j)) (energy_at s (suc j))) (kept (suc-ne-zero j))

-- the same of the speeds that the loop goes over
pub number_kept : (s : View) (j : ℕ) {before : ℕ} {speeds : List Speed} → speeds ≡ s.speeds → ((j ≡ 0 → ⊥) → before ≡ speed_at s (pred j)) →
    refusal_of_speed j before (get_or speeds j zero_speed).speed (get_or speeds j zero_speed).energy ≡ speed_refusal_at s j
number_kept s j {before} e kept =
    ap (λ l. refusal_of_speed j before (get_or l j zero_speed).speed (get_or l j zero_speed).energy) e ∙ after_kept s j kept
