-- `bearable` meets its contract: what `all` says of the numbers below the bound is what the model says of the places.
use mathlib.Core.Path.{refl, sym, ◌∙◌}
use native.Mathlib.Omega.{arith}
use borrow.Author.Tests.{tests}
use Rattle.std.proofs.Common.{rules}
use Rattle.std.proofs.lemmas.Iterator.{YieldsList-from_range}
use Rattle.std.proofs.lemmas.Iterator.Search.{all_from_yields_List}
use Rattle.model.specs.Queue.{bearable_at}
use Rattle.slot.proofs.Places.{list_all_range, bearable_in_lem}
use Rattle.slot.proofs.bearable.Goals as goal

pub returns : goal.returns
returns c =
    let a = c.args in
    let test = bearable_at a.largest a.queue in
    all_from_yields_List test _ _ c.all.result c.all.ensures.ran (YieldsList-from_range 0 a.bound a.bound refl (omega arith))
    (λ x b q k. search (rules, tests)) ∙
    list_all_range test a.bound ∙ sym (bearable_in_lem a.largest a.bound a.queue (omega arith))
