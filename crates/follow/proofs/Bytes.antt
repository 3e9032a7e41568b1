-- What a plan byte costs, by its place on the sheet: the proofs of src/cost.rt and src/row.rt stand on these laws, which hold at any width of a
-- value.
use Prim.Native.Nat.{ℕ, ◌≤◌, ◌<◌}
use mathlib.Core.Path.{◌≡◌, sym, ap, ◌∙◌}
use mathlib.Core.Bool.{Bool, false}
use mathlib.Core.List.{List}
use mathlib.Core.Option.{Option, none}
use native.Mathlib.Omega.{arith}
use borrow.Author.Tests.{lt-ltb, le-ltb}
use lib.Dec.{eqb→eq}
use Rattle.process.specs.Recursion.{only}
use Rattle.model.specs.View.{view_of, is_speed_at, on_sheet, energy_of, place_of_speed}
use Rattle.model.specs.Queue.{Queue}
use Rattle.model.specs.Refusal.{fields_refusal}
use Rattle.model.specs.Width.{Width}
use Rattle.model.specs.declared.Sheet.{Sheet}
use Rattle.model.proofs.Refusal.{ranged}
use Rattle.model.proofs.Tests.{fails_false, first_holds}
use Rattle.model.proofs.View.{place_of}
use Rattle.lookups.proofs.Looking.{on_sheet_place}
use Rattle.sheets.specs.declared.sizes.Sizes.{Sizes}
use Rattle.choose.specs.Choice.{cost_by, ahead_in, cost_at}
use Rattle.follow.specs.Pass.{byte_cost_in}

module _ (sheet : Sheet) where
  -- no speed of a sheet is above 8
  pub byte_high : (byte : ℕ) → fields_refusal (view_of sheet) ≡ 0 → 8 < byte → on_sheet (view_of sheet) byte ≡ false
  byte_high byte fields h =
      fails_false (on_sheet (view_of sheet) byte)
      (λ t. let at = place_of (view_of sheet) byte t in omega (arith, (ranged (view_of sheet) fields).speed_high at.0 at.1, at.2))

  -- a byte whose place is none of the counted ones is no speed of the sheet
  pub byte_nowhere : (byte : ℕ) → sheet.speed_count ≤ place_of_speed (view_of sheet) byte → on_sheet (view_of sheet) byte ≡ false
  byte_nowhere byte h = on_sheet_place sheet byte ∙ le-ltb (place_of_speed (view_of sheet) byte) sheet.speed_count h

  module _ (width : Width) (sizes : Sizes) (ahead : List ℕ) (scale : Option ℕ) (w : Queue) (byte : ℕ) where
    -- such a byte costs none
    pub byte_none : on_sheet (view_of sheet) byte ≡ false → byte_cost_in width (view_of sheet) sizes ahead scale w byte ≡ none
    byte_none e =
        ap (λ (b : Bool). only b (cost_by (ahead_in width sizes.largest sizes.bound ahead) scale w byte (energy_of (view_of sheet) byte))) e

    -- any other costs what the speed at its place costs
    pub byte_there : place_of_speed (view_of sheet) byte < sheet.speed_count →
        byte_cost_in width (view_of sheet) sizes ahead scale w byte ≡
        cost_at width sizes.largest sizes.bound (view_of sheet) ahead scale w (place_of_speed (view_of sheet) byte)
    unfolding energy_of
    byte_there h =
        let s = view_of sheet in
        let place = place_of_speed s byte in
        let cost : ℕ → Option ℕ = λ speed. cost_by (ahead_in width sizes.largest sizes.bound ahead) scale w speed (energy_of s byte) in
        ap (λ (b : Bool). only b (cost byte)) (on_sheet_place sheet byte ∙ lt-ltb place sheet.speed_count h) ∙
        ap cost (sym (eqb→eq _ byte (first_holds (is_speed_at s byte) sheet.speed_count h)))
