-- The rule of the table of counts: one lemma turns the test over the whole table, which the checker computes, into the rule at each place.
use Prim.Native.Nat.{ℕ, zero, suc, ◌+◌, ◌*◌, ◌-◌, ◌/◌, ◌%◌, ◌≤◌, ◌<◌}
use mathlib.Core.Path.{◌≡◌, refl, sym, ap, ◌∙◌, subst}
use mathlib.Core.Bool.{Bool, true, false, cond}
use mathlib.Core.List.{List}
use native.Mathlib.Omega.{arith}
use borrow.Author.Tests.{le-leb, lt-leb, leb-true, leb-false}
use lib.Dec.{T, leb, eqb, eqb→eq}
use lib.ListN.{length, get_or, drop}
use lib.Seq.{get_or-take, get_or-drop, ext_get_or}
use Rattle.process.proofs.Sums.{sum_same}
use Rattle.model.specs.Tests.{everywhere}
use Rattle.model.specs.Queue.{continuation_count}
use Rattle.model.proofs.Tests.{everywhere_at}
use Rattle.counts.specs.Counts.{table_place, InTable, HoldsCounts}
use Rattle.counts.specs.Rule.{row, rule, right, row_ruled, ruled}
use Rattle.counts.proofs.Bounds.{wider, slack_small}

row_at : (table : List ℕ) (M r g : ℕ) → g ≤ 48 → get_or (row table M r) g 0 ≡ get_or table (table_place M r g) 0
unfolding row
row_at table M r g h =
    get_or-take 49 (drop ((M - 1) * 294 + r * 49) table) g 0 (omega arith) ∙ get_or-drop ((M - 1) * 294 + r * 49) table g 0

-- what the test says of one place
place_ruled : (table : List ℕ) → T (ruled table) → (M r g : ℕ) → 1 ≤ M → M ≤ 8 → r ≤ 5 → g ≤ 48 →
    get_or table (table_place M r g) 0 ≡ right table M r g
unfolding ruled row_ruled
place_ruled table t zero r g low high left small = absurd (omega arith)
place_ruled table t (suc m) r g low high left small =
    let rows = everywhere_at (λ n. everywhere (λ q. row_ruled table (suc n) q (row table (suc n) q)) 6) 8 t m (omega arith) in
    let this = everywhere_at (λ q. row_ruled table (suc m) q (row table (suc m) q)) 6 rows r (omega arith) in
    let here = everywhere_at (λ h. eqb (get_or (row table (suc m) r) h 0) (right table (suc m) r h)) 49 this g (omega arith) in
    sym (row_at table (suc m) r g small) ∙ eqb→eq (get_or (row table (suc m) r) g 0) (right table (suc m) r g) here

-- it holds the count at a place that is needed
ruled_needed : (table : List ℕ) → T (ruled table) → (M r g : ℕ) → InTable M r g → get_or table (table_place M r g) 0 ≡ rule table M r g
ruled_needed table t M r g i =
    place_ruled table t M r g i.speed_low i.speed_high i.left_high (slack_small M r g i.speed_high i.slack_high) ∙
    ap (λ (b : Bool). cond b (rule table M r g) 0) (le-leb g ((6 - r) * M) i.slack_high)

ruled_count : (table : List ℕ) → T (ruled table) → (M r g : ℕ) → InTable M r g → get_or table (table_place M r g) 0 ≡ continuation_count M r g
unfolding rule continuation_count
ruled_count table t M zero g i = ruled_needed table t M zero g i
ruled_count table t M (suc r) g i =
    ruled_needed table t M (suc r) g i ∙ sum_same (suc (g + M)) (λ h l.
    row_at table M r h (slack_small M r h i.speed_high (fewer h l).slack_high) ∙ ruled_count table t M r h (fewer h l))
  where
    fewer : (h : ℕ) → h < suc (g + M) → InTable M r h
    fewer h l =
        record {
          speed_low = i.speed_low;
          speed_high = i.speed_high;
          left_high = omega (arith, i.left_high);
          slack_high = omega (arith, i.slack_high, wider M r (omega (arith, i.left_high)));
        }

-- a table that passes the test holds the counts
pub ruled_holds : (table : List ℕ) → length table ≡ 2352 → T (ruled table) → HoldsCounts table
ruled_holds table places t =
    record {
      places = places;
      needed = ruled_count table t;
      unneeded = λ M r g low high left far small.
          place_ruled table t M r g low high left small ∙ ap (λ (b : Bool). cond b (rule table M r g) 0) (lt-leb g ((6 - r) * M) far);
    }

-- there is one such table
pub counts_unique : (a b : List ℕ) → HoldsCounts a → HoldsCounts b → a ≡ b
counts_unique a b p q = ext_get_or 0 a b (p.places ∙ sym q.places) (λ k h. at k (omega (arith, p.places)))
  where
    at : (k : ℕ) → k < 2352 → get_or a k 0 ≡ get_or b k 0
    at k h =
        let M = k / 294 + 1 in
        let r = k % 294 / 49 in
        let g = k % 294 % 49 in
        let here : table_place M r g ≡ k = omega arith in
        subst (λ (i : ℕ). get_or a i 0 ≡ get_or b i 0) here (each M r g (omega arith) (omega arith) (omega arith) (omega arith) (leb g ((6 - r) * M)) refl)
      where
        each : (M r g : ℕ) → 1 ≤ M → M ≤ 8 → r ≤ 5 → g ≤ 48 → (t : Bool) → leb g ((6 - r) * M) ≡ t →
            get_or a (table_place M r g) 0 ≡ get_or b (table_place M r g) 0
        each M r g low high left small true e =
            let i : InTable M r g = record { speed_low = low; speed_high = high; left_high = left; slack_high = leb-true g ((6 - r) * M) e } in
            p.needed M r g i ∙ sym (q.needed M r g i)
        each M r g low high left small false e =
            let far = leb-false g ((6 - r) * M) e in
            p.unneeded M r g low high left far small ∙ sym (q.unneeded M r g low high left far small)
