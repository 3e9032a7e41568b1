-- `byte_cost` meets its contract: a byte that is no speed of the sheet costs none, one that is too slow too, and any other what `cost` finds
-- for its place.
use Prim.Native.Nat.{◌<◌}
use mathlib.Core.Path.{◌≡◌, sym, ◌∙◌}
use native.Mathlib.Omega.{arith}
use lib.ListN.{get_or}
use Rattle.model.specs.View.{view_of, place_of_speed}
use Rattle.value.specs.Narrow.{width}
use Rattle.choose.proofs.Passing.{slower_none}
use Rattle.follow.proofs.Bytes.{byte_high, byte_nowhere, byte_none, byte_there}
use Rattle.follow.proofs.cost.byte_cost.Goals as goal
use Rattle.follow.proofs.cost.byte_cost.Goals.{Else-byte-gt8}

-- the place that is read is that of the byte's speed
place_is : (c : Else-byte-gt8) → get_or c.args.speed_places c.args.byte 0 ≡ place_of_speed (view_of c.args.pass.now.lanes.now.of.tested.now.sheet) c.args.byte
place_is c = c.requires.1 c.args.byte c.if-byte-gt8.false

pub returns-then-byte-gt8 : goal.returns-then-byte-gt8
returns-then-byte-gt8 c =
    let pass = c.args.pass.now in
    let sheet = pass.lanes.now.of.tested.now.sheet in
    let sizes = pass.lanes.now.of.tested.now.sizes in
    sym (byte_none sheet width sizes _ _ _ c.args.byte (byte_high sheet c.args.byte pass.given.fields c.if-byte-gt8.true))

pub returns-then-tested-place : goal.returns-then-tested-place
returns-then-tested-place c =
    let pass = c.args.pass.now in
    let sheet = pass.lanes.now.of.tested.now.sheet in
    let sizes = pass.lanes.now.of.tested.now.sizes in
    let place = place_is (goal.at.returns-then-tested-place c).Else-byte-gt8 in
    let nowhere = byte_nowhere sheet c.args.byte (omega (arith, place, c.if-tested-place.true)) in
    sym (byte_none sheet width sizes _ _ _ c.args.byte nowhere)

pub returns-then-place-queue : goal.returns-then-place-queue
returns-then-place-queue c =
    let pass = c.args.pass.now in
    let sheet = pass.lanes.now.of.tested.now.sheet in
    let sizes = pass.lanes.now.of.tested.now.sizes in
    let queue = c.requires.0 in
    let place = place_is (goal.at.returns-then-place-queue c).Else-byte-gt8 in
    let counted : place_of_speed (view_of sheet) c.args.byte < sheet.speed_count = omega (arith, place, c.if-tested-place.false) in
    let slow = slower_none pass.given queue.within (place_of_speed (view_of sheet) c.args.byte) (omega (arith, place, c.if-place-queue.true, queue.line.third_is)) in
    sym (byte_there sheet width sizes _ _ _ c.args.byte counted ∙ slow)

pub returns : goal.returns
returns c =
    let pass = c.args.pass.now in
    let sheet = pass.lanes.now.of.tested.now.sheet in
    let sizes = pass.lanes.now.of.tested.now.sizes in
    let place = place_is (goal.at.returns c).Else-byte-gt8 in
    let counted : place_of_speed (view_of sheet) c.args.byte < sheet.speed_count = omega (arith, place, c.if-tested-place.false) in
    rw place at c.cost.ensures ∙ sym (byte_there sheet width sizes _ _ _ c.args.byte counted)
