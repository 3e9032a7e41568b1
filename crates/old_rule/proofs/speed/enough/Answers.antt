-- `enough` meets its contract: the walk over the totals decides.
use Rattle.std.proofs.Common.{ℕ, ◌+◌, ◌*◌, ◌<◌, ◌≤◌, rules, tests}
use Rattle.std.proofs.lemmas.Iterator.{cases_from_all, YieldsList-from_slice}
use Rattle.std.proofs.lemmas.Iterator.Consumers.{YieldsList-from_enumerate}
use Rattle.model.specs.Queue.{queue_in}
use Rattle.old_rule.proofs.Smallest.{enough_walked}
use Rattle.old_rule.proofs.speed.enough.Goals as goal

pub returns : goal.returns
returns c =
    let a = c.args in
    let w = queue_in a.bound a.queue in
    let walked = cases_from_all _ _ _ (λ (p : ℕ × ℕ). p.1 ≤ (p.0 + 1) * a.speed) (λ (p : ℕ × ℕ). (p.0 + 1) * a.speed < p.1) c.all.ensures.ran
    (YieldsList-from_enumerate (YieldsList-from_slice w (cc)) (cc)) (λ x q k. search (rules, tests)) (λ x q k. search (rules, tests)) in
    enough_walked _ w a.speed walked
