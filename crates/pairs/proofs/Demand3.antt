-- Demand 3: of two sheets paired job by job (no larger, due no sooner, every speed at no more energy, a queue nowhere longer), where the
-- first has a plan the second has one, at no more energy. It is said of the published problem: of the least energies of good ways.
use Prim.Native.Nat.{ℕ, ◌-◌, ◌≤◌, ◌<◌}
use mathlib.Core.Path.{◌≡◌, sym, ◌∙◌, subst₂}
use mathlib.Core.Option.{some}
use native.Mathlib.Nat.{le_refl, le_trans}
use lib.Dec.{leb→le, le→leb}
use lib.ListN.{length}
use Rattle.process.specs.Ways.{IsValue}
use Rattle.process.specs.Pairing.{Eases}
use Rattle.process.proofs.Eased.{eased_values}
use Rattle.model.specs.View.{View, weight_at, size_at, deadline_at, M}
use Rattle.model.specs.Queue.{Queue, total, run}
use Rattle.model.specs.Plan.{process_of, next_queue, IsValueAt}
use Rattle.model.proofs.View.{on_sheet_lem, speed_upto, speed_least}
use Rattle.model.proofs.Refusal.{accepted}
use Rattle.model.proofs.Queues.{length_run, length_arrive}
use Rattle.laws.proofs.Longer.{run_never_falls, run_no_longer, arrive_never_falls, arrive_no_longer, bearable_carries}
use Rattle.pairs.specs.Paired.{Paired, NowhereLonger}

module _ {first second : View} {there back : ℕ → ℕ} (p : Paired first second there back) where
  -- the second's largest speed is no less
  pub largest : M first ≤ M second
  largest = speed_least first (M second) (λ a t. speed_upto second a (p.has_speed a t))

  -- a queue nowhere longer stays so after a slot at the same speed and paired entries
  next_no_longer : {v w : Queue} → NowhereLonger v w → (a i : ℕ) → i < first.job_count →
      NowhereLonger (next_queue second v a (there i)) (next_queue first w a i)
  unfolding next_queue
  next_no_longer {v} {w} r a i h =
      let c = size_at first i in
      let d = deadline_at first i in
      let c' = size_at second (there i) in
      let d' = deadline_at second (there i) in
      let after : length (run v a) ≡ length (run w a) = length_run v a ∙ r.positions ∙ sym (length_run w a) in
      record {
        positions = length_arrive (run v a) c' d' ∙ after ∙ sym (length_arrive (run w a) c d);
        never_falls = arrive_never_falls (run v a) c' d' (run_never_falls v a r.never_falls);
        no_longer =
            arrive_no_longer (run v a) (run w a) c' d' c d after (run_no_longer v w a r.positions r.no_longer) (p.easier_job i h);
      }

  -- the second's process is as easy as the first's, at queues nowhere longer
  eased : Eases (process_of first) (process_of second) first.job_count there (λ w v. NowhereLonger v w)
  unfolding process_of
  eased =
      record {
        alive = λ w v r t. bearable_carries (M first) (M second) v w largest r.positions r.never_falls r.no_longer t;
        answer = λ w v a r t m enough.
            let on = (on_sheet_lem first a).1 m in (
              a,
              (on_sheet_lem second a).0 (p.has_speed a on),
              le→leb (total v 1) a (le_trans (r.no_longer 1) (leb→le (total w 1) a enough)),
              p.no_more_energy a on,
              next_no_longer r a,
            );
        last = λ w v r t. le_refl 0;
      }

-- where the first has a plan, the second has one, at no more energy
pub demand3 : (first second : View) (there back : ℕ → ℕ) → Paired first second there back →
    (v w : Queue) → NowhereLonger v w → (t u : ℕ) → IsValueAt first t w (some u) → (u' : ℕ) × IsValueAt second t v (some u') × (u' ≤ u)
demand3 first second there back p v w r t u i =
    let P = process_of first in
    let Q = process_of second in
    let e = eased_values P Q first.job_count (weight_at first) (weight_at second) p.one_to_one p.same_weight (eased p)
    (accepted first p.first_accepted).ranged.jobs_low (first.horizon - t) w v r u i in
    let IsLeast : ℕ → ℕ → Type 0 = λ n T. IsValue Q n (weight_at second) (T - t) v (some e.0) in
    (e.0, subst₂ IsLeast (sym p.same_count) (sym p.same_horizon) e.1, e.2)
