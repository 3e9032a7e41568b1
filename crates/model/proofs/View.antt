-- Laws of a sheet's speeds, their energies and the largest speed M (specs/View.antt).
use Prim.Native.Nat.{ℕ, zero, suc, ◌≤◌, ◌<◌, zero-le}
use mathlib.Core.Path.{◌≡◌, refl, sym, ap, ◌∙◌, subst}
use mathlib.Core.Logic.{◌↔◌, ⊎_elim}
use native.Mathlib.Nat.{lt_trans, eq-or-lt_of_le, le_of_suc-le-suc, not-suc-le-zero, lt_of_le_of_lt}
use native.Mathlib.Omega.{arith}
use lib.Dec.{T, eqb, eqb→eq, eqb_refl}
use lib.ListN.{length, get_or}
use Rattle.process.specs.Ways.{Among}
use Rattle.process.specs.Pairing.{Rising}
use Rattle.model.specs.View.{View, speed_at, energy_at, speeds_of, on_sheet, energy_of, greatest_energy, M}
use Rattle.model.specs.Tests.{first_place}
use Rattle.model.proofs.Tests.{anywhere_at, anywhere_one, greatest_at, greatest_upto, length_listed, get_or_listed, first_holds, first_upto}

-- the sheet's speeds as a list

-- the list has as many speeds as the sheet
pub length_speeds : (s : View) → length (speeds_of s) ≡ s.speed_count
unfolding speeds_of
length_speeds s = length_listed (speed_at s) s.speed_count

-- at each place of the list stands the speed of the sheet
pub at_speeds : (s : View) (j : ℕ) → j < s.speed_count → get_or (speeds_of s) j 0 ≡ speed_at s j
unfolding speeds_of
at_speeds s j h = get_or_listed (speed_at s) s.speed_count j 0 h

-- each speed is greater than the one before it
abbrev pub Climbs : View → Type 0
Climbs s = (j : ℕ) → suc j < s.speed_count → speed_at s j < speed_at s (suc j)

-- then a later place has a greater speed
pub later_faster : (s : View) → Climbs s → (i j : ℕ) → i < j → j < s.speed_count → speed_at s i < speed_at s j
later_faster s c i zero h l = absurd (not-suc-le-zero h)
later_faster s c i (suc j) h l =
    ⊎_elim (λ q. rw q (c j l)) (λ k. lt_trans (later_faster s c i j k (omega arith)) (c j l))
    (eq-or-lt_of_le (le_of_suc-le-suc h))

-- and the list is strictly rising
pub climbs_rise : (s : View) → Climbs s → Rising (speeds_of s)
climbs_rise s c i j h l =
    let k : j < s.speed_count = rw (length_speeds s) at l in
    rw (at_speeds s i (lt_trans h k), at_speeds s j k) (later_faster s c i j h k)

-- the speed at each place is on the sheet
pub on_sheet_at : (s : View) (j : ℕ) → j < s.speed_count → T (on_sheet s (speed_at s j))
unfolding on_sheet
on_sheet_at s j h = anywhere_one (λ i. eqb (speed_at s i) (speed_at s j)) s.speed_count j h (eqb_refl (speed_at s j))

-- a speed that is on the sheet has a place
pub place_of : (s : View) (a : ℕ) → T (on_sheet s a) → (j : ℕ) × (j < s.speed_count) × (speed_at s j ≡ a)
unfolding on_sheet
place_of s a t =
    let f = anywhere_at (λ j. eqb (speed_at s j) a) s.speed_count t in
    (f.0, f.1, eqb→eq (speed_at s f.0) a f.2)

-- a speed is on the sheet exactly where it is among the sheet's speeds
pub on_sheet_lem : (s : View) (a : ℕ) → T (on_sheet s a) ↔ Among (speeds_of s) a
on_sheet_lem s a = (there, back)
  where
    there : T (on_sheet s a) → Among (speeds_of s) a
    there t = let f = place_of s a t in (f.0, rw (length_speeds s) f.1, at_speeds s f.0 f.1 ∙ f.2)

    back : Among (speeds_of s) a → T (on_sheet s a)
    back m =
        let h : m.0 < s.speed_count = rw (length_speeds s) at m.1 in
        subst (λ (b : ℕ). T (on_sheet s b)) (sym (at_speeds s m.0 h) ∙ m.2) (on_sheet_at s m.0 h)

-- energies

-- where a speed stands at a place, its first place is no later
first_upto_place : (s : View) (a j : ℕ) → j < s.speed_count → speed_at s j ≡ a →
    first_place (λ i. eqb (speed_at s i) a) s.speed_count ≤ j
first_upto_place s a j h e =
    first_upto (λ i. eqb (speed_at s i) a) s.speed_count j h (subst (λ (b : ℕ). T (eqb (speed_at s j) b)) e (eqb_refl (speed_at s j)))

-- the energy of the speed at a place is the one at that place
pub energy_of_place : (s : View) (j : ℕ) → Climbs s → j < s.speed_count → energy_of s (speed_at s j) ≡ energy_at s j
unfolding energy_of
energy_of_place s j c h = ap (energy_at s) (⊎_elim (λ q. q) before (eq-or-lt_of_le upto))
  where
    place : ℕ
    place = first_place (λ i. eqb (speed_at s i) (speed_at s j)) s.speed_count

    upto : place ≤ j
    upto = first_upto_place s (speed_at s j) j h refl

    before : place < j → place ≡ j
    before l =
        let found = first_holds (λ i. eqb (speed_at s i) (speed_at s j)) s.speed_count (lt_trans l h) in
        omega (arith, eqb→eq (speed_at s place) (speed_at s j) found, later_faster s c place j l h)

-- no speed of the sheet has more than the greatest energy
pub energy_of_upto : (s : View) (a : ℕ) → T (on_sheet s a) → energy_of s a ≤ greatest_energy s
unfolding energy_of greatest_energy
energy_of_upto s a t =
    let f = place_of s a t in
    greatest_at (energy_at s) s.speed_count (first_place (λ i. eqb (speed_at s i) a) s.speed_count)
    (lt_of_le_of_lt (first_upto_place s a f.0 f.1 f.2) f.1)

-- the largest speed

-- no speed of the sheet is above M
pub speed_upto : (s : View) (a : ℕ) → T (on_sheet s a) → a ≤ M s
unfolding M
speed_upto s a t =
    let f = place_of s a t in
    subst (λ (b : ℕ). b ≤ M s) f.2 (greatest_at (speed_at s) s.speed_count f.0 f.1)

-- where they rise, the speed at a place is no less than the place
place_upto : (s : View) → Climbs s → (j : ℕ) → j < s.speed_count → j ≤ speed_at s j
place_upto s c zero h = zero-le
place_upto s c (suc j) h = omega (arith, place_upto s c j (omega arith), c j h)

-- so that there are no more speeds than 0 to M
pub speeds_few : (s : View) → Climbs s → s.speed_count ≤ suc (M s)
speeds_few s c = go s.speed_count refl
  where
    go : (n : ℕ) → s.speed_count ≡ n → n ≤ suc (M s)
    go zero e = zero-le
    go (suc j) e = omega (arith, place_upto s c j (omega arith), speed_upto s (speed_at s j) (on_sheet_at s j (omega arith)))

-- M is no more than any bound of the sheet's speeds
pub speed_least : (s : View) (b : ℕ) → ((a : ℕ) → T (on_sheet s a) → a ≤ b) → M s ≤ b
unfolding M
speed_least s b all = greatest_upto (speed_at s) s.speed_count b (λ j h. all (speed_at s j) (on_sheet_at s j h))
