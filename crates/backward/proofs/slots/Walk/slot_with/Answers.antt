-- `slot_with` meets its contract: its rows are where the places are, and these are small.
use Prim.Native.Nat.{ℕ, suc, ◌+◌, ◌-◌, ◌≤◌}
use mathlib.Core.Path.{◌≡◌, refl, ap, ◌∙◌}
use native.Mathlib.Omega.{arith}
use Rattle.model.specs.View.{view_of}
use Rattle.model.proofs.Refusal.{accepted}
use Rattle.layout.specs.Places.{place_in}
use Rattle.sheets.proofs.Measures.{sizes_small}
use Rattle.backward.proofs.Backward.{slot_rows}
use Rattle.backward.proofs.slots.Walk.slot_with.Goals as goal
use Rattle.backward.proofs.slots.Walk.slot_with.Goals.{Start}

-- the queues and the slots are few
small : (c : Start) → (c.args.self.now.tested.now.sizes.queues ≤ 65535) × (c.args.self.now.tested.now.sheet.horizon ≤ 200)
small c =
    let walk = c.args.self.now in
    let s = view_of walk.tested.now.sheet in
    sizes_small s (accepted s walk.prepared.accepted) walk.prepared.sized

pub place-requires : goal.place-requires
place-requires c = let few = small (goal.at.place-requires c).Start in (few.0, omega (arith, few.1), omega arith)

pub place-requires-2 : goal.place-requires-2
place-requires-2 c =
    let few = small (goal.at.place-requires-2 c).Start in (few.0, omega (arith, few.1, c.requires), omega arith)

pub place-requires-3 : goal.place-requires-3
place-requires-3 c = let few = small (goal.at.place-requires-3 c).Start in (few.0, omega (arith, few.1), omega arith)

pub returns : goal.returns
returns c =
    let walk = c.args.self.now in
    let s = view_of walk.tested.now.sheet in
    let at : ℕ → ℕ = λ t. place_in walk.tested.now.sizes.queues t 0 in
    let this : s.horizon - 1 - c.args.left ≡ s.horizon - suc c.args.left = omega arith in
    let next : s.horizon - 1 - c.args.left + 1 ≡ s.horizon - c.args.left = omega (arith, c.requires) in (
      slot_rows s c.args.left walk.prepared.sized c.requires refl (c.place.ensures ∙ ap at this) (c.place-2.ensures ∙ ap at next)
          (c.place-3.ensures ∙ ap at this),
      refl,
    )
