-- `unused_zero` meets its contract: what `all` says of the numbers past the bound is what the model says of the places.
use Prim.Native.Nat.{◌-◌}
use mathlib.Core.Path.{◌∙◌}
use native.Mathlib.Omega.{arith}
use borrow.Author.Tests.{tests}
use lib.Dec.{eqb}
use lib.ListN.{drop, length-drop}
use lib.Seq.{take_all}
use Rattle.std.proofs.Common.{rules}
use Rattle.std.proofs.lemmas.Iterator.{YieldsList-from_slice}
use Rattle.std.proofs.lemmas.Iterator.Search.{all_from_yields_List}
use Rattle.slot.proofs.Places.{unused_all}
use Rattle.slot.proofs.unused_zero.Goals as goal

pub returns : goal.returns
returns c =
    let a = c.args in
    let whole = take_all (6 - a.bound) (drop a.bound a.queue) (omega (arith, length-drop a.bound a.queue)) in
    all_from_yields_List (λ x. eqb x 0) _ _ c.all.result c.all.ensures.ran
    (YieldsList-from_slice (drop a.bound a.queue) (c.iter.ensures.rest ∙ whole)) (λ x b q k. search (rules, tests)) ∙
    unused_all a.bound a.queue (omega arith)
