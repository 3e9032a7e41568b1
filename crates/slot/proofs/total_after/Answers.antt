-- `total_after` meets its contract: the total after a slot is found by where the place lies among the first ones.
use mathlib.Core.Path.{sym, ◌∙◌}
use native.Mathlib.Omega.{arith}
use Rattle.slot.proofs.Places.{after_past, after_in}
use Rattle.slot.proofs.total_after.Goals as goal

pub returns-then-bound-place : goal.returns-then-bound-place
returns-then-bound-place c =
    let a = c.args in
    sym (after_past a.bound a.queue a.speed a.place c.if-bound-place.true)

pub returns : goal.returns
returns c =
    let a = c.args in
    c.saturating_sub.ensures ∙
    sym (after_in a.bound a.queue a.speed a.place c.min-next.result (omega arith) c.if-bound-place.false c.min-next.ensures)
