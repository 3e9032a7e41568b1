-- What an accepted sheet gives (specs/Refusal.antt): the ranges of document 01 as plain facts. Proofs that need only the ranges use these
-- facts, and not the order in which a sheet is tested.
use Prim.Native.Nat.{ℕ, zero, suc, pred, ◌*◌, ◌^◌, ◌≤◌, ◌<◌, zero-le}
use mathlib.Core.Path.{◌≡◌, refl, sym, ap}
use mathlib.Core.Bool.{Bool, true, false, cond, ◌&&◌}
use mathlib.Core.Logic.{◌⊎◌, inl, inr}
use native.Mathlib.Nat.{eq-or-lt_of_le, mul-le-mul, mul-le-mul_right, pow-le-pow_right}
use native.Mathlib.Omega.{arith}
use borrow.Author.Tests.{ne_eqb}
use lib.Dec.{T, leb, ltb, eqb, leb→le, ltb→lt, eqb→eq}
use Rattle.process.specs.Sums.{sum}
use Rattle.process.specs.Pairing.{Rising}
use Rattle.process.proofs.Sums.{sum_more, sum_upto}
use Rattle.model.specs.View.{View, speed_at, energy_at, weight_at, size_at, deadline_at, speeds_of, W, M, greatest_energy, G}
use Rattle.model.specs.Queue.{queue_count}
pub use Rattle.model.specs.Refusal.{Ranged, Accepted}
use Rattle.model.specs.Refusal.{bound_right, speed_count_right, speed_right, energy_right, horizon_right, job_count_right, weight_right, size_right, deadline_right, speeds_refusal, speeds_lines, jobs_refusal, jobs_lines, fields_refusal, field_lines, limit_lines, lines_given, sheet_refusal, sheet_lines, N}
use Rattle.model.specs.Tests.{check, ◌then◌, within}
use Rattle.model.proofs.Queues.{at_least_two}
use Rattle.model.proofs.View.{climbs_rise, on_sheet_at, speed_upto}
use Rattle.model.proofs.Tests.{and_left, and_right, check_zero, then_left, then_right, in_order_at, greatest_upto}

-- a test and then others: where the number is 0, the test passes and the others' number is 0
pub passed : (b : Bool) (number later : ℕ) → check b (suc number) then later ≡ 0 → T b × (later ≡ 0)
passed b number later e =
    (check_zero b number (then_left (check b (suc number)) later e), then_right (check b (suc number)) later e)

-- a range that a test found right
pub in_range : (lowest highest x : ℕ) → T (within lowest highest x) → (lowest ≤ x) × (x ≤ highest)
in_range lowest highest x t =
    (leb→le lowest x (and_left (leb lowest x) (leb x highest) t), leb→le x highest (and_right (leb lowest x) (leb x highest) t))

-- a speed that a test found right after the one before it
pub speed_next : (before speed : ℕ) → T (ltb before speed && leb speed 8) → (before < speed) × (speed ≤ 8)
speed_next before speed t =
    (ltb→lt before speed (and_left (ltb before speed) (leb speed 8) t), leb→le speed 8 (and_right (ltb before speed) (leb speed 8) t))

-- every speed and its energy were found right
pub speeds_right : (s : View) (n : ℕ) → speeds_refusal s n ≡ 0 → (j : ℕ) → j < n →
    T (speed_right j (speed_at s (pred j)) (speed_at s j)) × T (energy_right (energy_at s j))
unfolding speeds_lines
speeds_right s n e j h =
    let speed = passed (speed_right j (speed_at s (pred j)) (speed_at s j)) 4 _ (in_order_at _ n e j h) in
    (speed.0, check_zero (energy_right (energy_at s j)) 5 speed.1)

-- every weight, size and deadline was found right
pub jobs_right : (s : View) (n : ℕ) → jobs_refusal s n ≡ 0 → (i : ℕ) → i < n →
    T (weight_right (weight_at s i)) × T (size_right (size_at s i)) × T (deadline_right s.bound (deadline_at s i))
unfolding jobs_lines
jobs_right s n e i h =
    let weight = passed (weight_right (weight_at s i)) 7 _ (in_order_at _ n e i h) in
    let size = passed (size_right (size_at s i)) 7 _ weight.1 in
    (weight.0, size.0, check_zero (deadline_right s.bound (deadline_at s i)) 7 size.1)

-- a sheet of which 4 to 8 are 0 keeps every range
pub ranged : (s : View) → fields_refusal s ≡ 0 → Ranged s
unfolding field_lines
ranged s e =
    let bound = passed (bound_right s.bound) 3 _ e in
    let count = passed (speed_count_right s.speed_count) 4 _ bound.1 in
    let speeds = speeds_right s s.speed_count (then_left (speeds_refusal s s.speed_count) _ count.1) in
    let horizon = passed (horizon_right s.horizon) 6 _ (then_right (speeds_refusal s s.speed_count) _ count.1) in
    let job_count = passed (job_count_right s.job_count) 7 _ horizon.1 in
    let jobs = jobs_right s s.job_count job_count.1 in
    let zeroth : speed_at s 0 ≡ 0 = eqb→eq (speed_at s 0) 0 (speeds 0 (omega (arith, in_range 2 9 s.speed_count count.0))).0 in
    let next : (j : ℕ) → suc j < s.speed_count → (speed_at s j < speed_at s (suc j)) × (speed_at s (suc j) ≤ 8) =
    λ j h. speed_next (speed_at s j) (speed_at s (suc j)) (speeds (suc j) h).0 in
    record {
      bound_low = (in_range 1 6 s.bound bound.0).0;
      bound_high = (in_range 1 6 s.bound bound.0).1;
      speeds_low = (in_range 2 9 s.speed_count count.0).0;
      speeds_high = (in_range 2 9 s.speed_count count.0).1;
      first_zero = zeroth;
      rises = λ j h. (next j h).0;
      speed_high = elim [ zero ↦ (λ h. omega arith) | suc j ↦ (λ h. (next j h).1) ];
      energy_high = λ j h. leb→le (energy_at s j) 65535 (speeds j h).1;
      horizon_low = (in_range 1 200 s.horizon horizon.0).0;
      horizon_high = (in_range 1 200 s.horizon horizon.0).1;
      jobs_low = (in_range 1 32 s.job_count job_count.0).0;
      jobs_high = (in_range 1 32 s.job_count job_count.0).1;
      weight_low = λ i h. (in_range 1 255 (weight_at s i) (jobs i h).0).0;
      weight_high = λ i h. (in_range 1 255 (weight_at s i) (jobs i h).0).1;
      size_high = λ i h. leb→le (size_at s i) 255 (jobs i h).1;
      deadline_low = λ i h. (in_range 1 s.bound (deadline_at s i) (jobs i h).2).0;
      deadline_high = λ i h. (in_range 1 s.bound (deadline_at s i) (jobs i h).2).1;
    }

-- a sheet whose number is 0 has passed 4 to 8
pub fields_right : (limit : ℕ) (s : View) → sheet_refusal limit s ≡ 0 → fields_refusal s ≡ 0
unfolding sheet_lines lines_given
fields_right limit s e = then_left (fields_refusal s) _ e

-- a sheet whose number is 0 keeps every range and both limits
pub accepted : (s : View) {limit : ℕ} → sheet_refusal limit s ≡ 0 → Accepted limit s
unfolding sheet_lines lines_given limit_lines
accepted s {limit = limit} e =
    let value = passed (leb (s.horizon * G s * W s ^ s.horizon) limit) 8 _ (then_right (fields_refusal s) _ e) in
    record {
      ranged = ranged s (fields_right limit s e);
      fits = leb→le (s.horizon * G s * W s ^ s.horizon) limit value.0;
      queues_high = leb→le (N s) 65535 (check_zero (leb (N s) 65535) 9 value.1);
    }

-- the speeds are strictly rising
pub speeds_rise : (s : View) → Ranged s → Rising (speeds_of s)
speeds_rise s r = climbs_rise s r.rises

-- M is 1 at least: the speeds are two at least and rise from 0
pub M_low : (s : View) → Ranged s → 1 ≤ M s
M_low s r = omega (arith, speed_upto s (speed_at s 1) (on_sheet_at s 1 r.speeds_low), r.rises 0 r.speeds_low)

-- M is 8 at most
pub M_high : (s : View) → Ranged s → M s ≤ 8
unfolding M
M_high s r = greatest_upto (speed_at s) s.speed_count 8 r.speed_high

-- N is how many bearable queues there are
pub N_is : (s : View) → N s ≡ queue_count (M s) s.bound
unfolding N
N_is s = refl

-- N is at least 2, so that an empty row always means that there is none
pub N_low : (s : View) → Ranged s → 2 ≤ N s
unfolding N
N_low s r = at_least_two (M s) s.bound (M_low s r) r.bound_low

-- the greatest energy is 65,535 at most
pub greatest_energy_high : (s : View) → Ranged s → greatest_energy s ≤ 65535
unfolding greatest_energy
greatest_energy_high s r = greatest_upto (energy_at s) s.speed_count 65535 r.energy_high

-- G is the greatest energy where that is not 0, else 1

pub G_none : (s : View) → greatest_energy s ≡ 0 → G s ≡ 1
unfolding G
G_none s e = ap (λ (n : ℕ). cond (eqb n 0) 1 n) e

pub G_some : (s : View) → (greatest_energy s ≡ 0 → ⊥) → G s ≡ greatest_energy s
unfolding G
G_some s h = ap (λ (b : Bool). cond b 1 (greatest_energy s)) (ne_eqb (greatest_energy s) 0 h)

-- in both cases it is 1 at least, and no less than the greatest energy
G_bounds : (s : View) → (1 ≤ G s) × (greatest_energy s ≤ G s)
G_bounds s = go (eq-or-lt_of_le zero-le)
  where
    go : (0 ≡ greatest_energy s) ⊎ (0 < greatest_energy s) → (1 ≤ G s) × (greatest_energy s ≤ G s)
    go (inl e) = omega (arith, G_none s (sym e))
    go (inr h) = omega (arith, G_some s (λ e. omega arith))

-- G is 1 at least
pub G_low : (s : View) → 1 ≤ G s
G_low s = (G_bounds s).0

-- and no less than the greatest energy
pub G_covers : (s : View) → greatest_energy s ≤ G s
G_covers s = (G_bounds s).1

-- G is 65,535 at most
pub G_high : (s : View) → Ranged s → G s ≤ 65535
unfolding G
G_high s r = upto (eqb (greatest_energy s) 0) (greatest_energy s) (greatest_energy_high s r)
  where
    upto : (b : Bool) (n : ℕ) → n ≤ 65535 → cond b 1 n ≤ 65535
    upto true n h = omega arith
    upto false n h = h

-- W is the sum of the weights of all the entries
pub W_is : (s : View) → W s ≡ sum (weight_at s) s.job_count
unfolding W
W_is s = refl

-- W is 1 at least: there is an entry, and its weight is 1 at least
pub W_low : (s : View) → Ranged s → 1 ≤ W s
unfolding W sum
W_low s r = omega (arith, r.weight_low 0 r.jobs_low, sum_more (weight_at s) 1 s.job_count r.jobs_low)

-- no power of W up to T passes number 9's limit: T and G are 1 at least
pub power_fits : (s : View) {limit : ℕ} → Accepted limit s → (k : ℕ) → k ≤ s.horizon → W s ^ k ≤ limit
power_fits s a k h =
    let factor : 1 ≤ s.horizon * G s = mul-le-mul a.ranged.horizon_low (G_low s) in
    omega (arith, pow-le-pow_right (W_low s a.ranged) h, mul-le-mul_right (W s ^ s.horizon) factor, a.fits)

-- W of the first n entries is 255 times n at most
pub weights_high : (s : View) → Ranged s → (n : ℕ) → n ≤ s.job_count → sum (weight_at s) n ≤ n * 255
weights_high s r n h = sum_upto n 255 (λ i l. r.weight_high i (omega arith))
