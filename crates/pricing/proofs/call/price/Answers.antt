-- `price` meets its contract: the call is refused and nothing is touched, or the rows are filled and the first price gives the answer.
use Prim.Native.Nat.{◌≤◌}
use mathlib.Core.Path.{◌≡◌, sym, ◌∙◌, subst}
use lib.ListN.{length}
use Rattle.model.specs.View.{view_of}
use Rattle.model.specs.Plan.{plan_needed, value_places}
use Rattle.model.specs.Refusal.{sheet_refusal}
use Rattle.model.specs.declared.Sheet.{Sheet}
use Rattle.model.proofs.Refusal.{accepted}
use Rattle.laws.proofs.Rooms.{plan_accepted}
use Rattle.layout.proofs.Within.{place_is}
use Rattle.value.specs.Narrow.{width}
use Rattle.backward.specs.Passes.{Prepared, FilledFrom}
use Rattle.lent.proofs.Rooms.{first_within}
use Rattle.pricing.specs.Prices.{price_with}
use Rattle.pricing.proofs.Outcomes.{all_priced, filled_price}
use Rattle.pricing.proofs.call.price.Goals as goal
use Rattle.pricing.proofs.call.price.Goals.{In-Ok}

-- where the call is not refused, the sheet is accepted, and the plan and the values have room
room : (c : In-Ok) →
    let s = view_of c.args.sheet in
    (sheet_refusal width.limit s ≡ 0) × (value_places width s ≤ length c.args.values.now) × (plan_needed s ≤ length c.args.plan.now)
room c = plan_accepted (view_of c.args.sheet) width _ _ (sym c.in-Ok.ensures.number)

pub invariant_of-walk : goal.invariant_of-walk
invariant_of-walk c =
    let sized = c.in-Ok.ensures.sized in
    record {
      prepared =
          subst (λ (sheet : Sheet). Prepared width (view_of sheet) c.in-Ok.tested.sizes) (sym sized.0)
          (record { accepted = (room (goal.at.invariant_of-walk c).In-Ok).0; sized = sized.1 });
    }

pub fill-requires : goal.fill-requires
fill-requires c =
    let fits = room (goal.at.fill-requires c).In-Ok in
    subst
    (λ (sheet : Sheet). (plan_needed (view_of sheet) ≤ length c.args.plan.now) × (value_places width (view_of sheet) ≤ length c.args.values.now))
    (sym c.in-Ok.ensures.sized.0) (fits.2, fits.1)

pub load-requires : goal.load-requires
load-requires c =
    let s = view_of c.args.sheet in
    let fits = room (goal.at.load-requires c).In-Ok in
    first_within width s c.in-Ok.ensures.sized.1 (accepted s fits.0) fits.1 c.fill.ensures.same_length c.place.ensures

pub returns-in-Ok : goal.returns-in-Ok
returns-in-Ok c =
    let s = view_of c.args.sheet in
    let a = c.args in
    let sized = c.in-Ok.ensures.sized in
    let answer = c.priced.ensures in
    let filled =
    subst (λ (sheet : Sheet). FilledFrom width (view_of sheet) (price_with (view_of sheet) a.plan.now) sheet.horizon a.values.now c.fill.new.values)
    sized.0 c.fill.ensures in
    filled_price s (sym c.in-Ok.ensures.number)
    (all_priced width s (accepted s (room (goal.at.returns-in-Ok c).In-Ok).0) a.plan.now filled _ (c.place.ensures ∙ place_is s sized.1 0 0) c.load.ensures
    (answer.1 ∙ sized.1.queues_is) answer.0 answer.2)
