-- How large an asset's numbers are: in one block its positions come to at most 9,000,000 units over the dates, so each of its risks is at most
-- 9 × 10^13 kopecks, and its worth is at most 2.4 × 10^14; in n blocks added together, n times that.
-- Assumes nothing.
use mathlib.Core.Path.{◌≡◌, refl, sym, subst}
use mathlib.Core.Bool.{Bool, true, false, cond, ◌&&◌}
use mathlib.Core.List.{List}
use mathlib.Core.Logic.{⊎_elim}
use Prim.Native.Nat.{ℕ, zero, suc, ◌+◌, ◌*◌, ◌≤◌, ◌<◌, ◌^◌}
use native.Mathlib.Nat.{suc-ne-zero}
use native.Mathlib.Omega.{arith}
use lib.Dec.{eqb}
use lib.IntN.{ℤ, pos, neg_ℤ, nat_abs, ◌-ℤ◌}
use lib.ListN.{length}
use lib.Signed.{◌≤ℤ◌, ◌<ℤ◌, lt_z, ≤ℤ_refl}
use Rattle.whole.specs.Numbers.{abs_ℤ}
use Rattle.whole.specs.Bounds.{◌within◌, ◌upto◌, equal}
use Rattle.whole.specs.Sums.{Σ<}
use Rattle.whole.specs.Parts.{number}
use Rattle.whole.proofs.PlusMinus.{abs_is, one_is_zero}
use Rattle.whole.proofs.Expressions.{var, lit, neg, ◌⊖◌, ◌⊓◌, ◌⊔◌, is}
use Rattle.whole.proofs.Numbers.{<ℤ-or-≥ℤ}
use Rattle.whole.proofs.Bounds.{wider}
use Rattle.whole.proofs.InRange.{neg_size, upto_size, upto_wider, zero_upto, max_upto, choice_upto}
use Rattle.whole.proofs.Sums.{sum_within, sum_from_zero, sum_first}
use Rattle.whole.proofs.Tabulated.{tabulated_length, tabulated_at}
use Rattle.whole.proofs.Rules.{ints}
use Rattle.rates.specs.Row.{kind, pool_share, covered_sales, special_delivery, fall, rise, spread_group}
use Rattle.rates.specs.Units.{the_whole}
use Rattle.rates.specs.Ranges.{RowRanges}
use Rattle.book.specs.Block.{collateral}
use Rattle.book.specs.Ranges.{HoldingRanges}
use Rattle.assets.specs.Collateral.{pool_share_in_force, share_by_kind, share_in_force, is_special, regime_of, valued}
use Rattle.assets.specs.Asset.{position, adjusted_collateral, left_out, valued_collateral, asset_under, asset_of}
use Rattle.assets.specs.Risk.{long, short, position_sum, long_sum, short_sum, market_risk, fall_charge, rise_charge, interest_of, interest_risk}
use Rattle.assets.specs.Part.{long_risk, short_risk, group_of, part_of}
use Rattle.assets.specs.Ranges.{ShareRange, PositionRanges, AssetRanges, PartRanges}
use Rattle.assets.specs.declared.record.Asset.{Asset}
use Rattle.assets.specs.declared.parts.Part.{Part}
use Rattle.assets.specs.declared.collateral.Regime.{Regime}
use Rattle.assets.specs.declared.collateral.Regime.TheVariants.{Special, NotRecorded, Partial, Accepted}
use Rattle.assets.proofs.collateral.Counted.{adjusted_within}
use Rattle.assets.proofs.record.Positions.{position_within, position_later_within, worth_within}
use Rattle.assets.proofs.risk.Charge.{slope_upto}
use Rattle.assets.proofs.risk.Sides.{side_upto, market_special, market_long, market_short, width_below, fall_slope, rise_slope}

-- ---- the risks of positions that come to at most A + 8 × B units: date 0 has at most A + B of them, each later date at most B
pub record Units (A B : ℕ) (positions : List ℤ) : Type 0 where
  pub first : nat_abs (number positions 0) ≤ A + B
  pub later : (d : ℕ) → d < 7 → nat_abs (number positions (suc d)) ≤ B

long_size : (x : ℤ) → nat_abs (long x) ≤ nat_abs x
long_size x = omega (arith, is (lit 0 ⊔ var x), abs_is x, one_is_zero x, abs_is (long x), one_is_zero (long x))

long_from_zero : (x : ℤ) → pos 0 ≤ℤ long x
long_from_zero x = omega (ints, is (lit 0 ⊔ var x))

-- the short units are the long units of the position turned round
short_size : (x : ℤ) → nat_abs (short x) ≤ nat_abs x
short_size x = omega (arith, long_size (neg_ℤ x), neg_size x)

short_from_zero : (x : ℤ) → pos 0 ≤ℤ short x
short_from_zero x = long_from_zero (neg_ℤ x)

module _ (row : List ℤ) (r : RowRanges row) (x : Asset) {A B : ℕ} (u : Units A B x.positions) (few : 10000000 * (A + 8 * B) < 900000000000000) where
  abbrev p : List ℤ
  p = x.positions

  sum_size : nat_abs (position_sum p) ≤ A + 8 * B
  unfolding position_sum
  sum_size = sum_first 7 A B (number p) u.first u.later

  -- the sum of one side of the dates
  side_sum : (side : ℤ → ℤ) → ((z : ℤ) → pos 0 ≤ℤ side z) → ((z : ℤ) → nat_abs (side z) ≤ nat_abs z) → Σ< 8 (λ d. side (number p d)) upto (A + 8 * B)
  side_sum side low size =
      let first : nat_abs (side (number p 0)) ≤ A + B = let a = u.first in omega (arith, size (number p 0)) in
      upto_size (sum_from_zero 8 _ (λ d l. low (number p d)))
      (sum_first 7 A B (λ d. side (number p d)) first (λ d l. let a = u.later d l in omega (arith, size (number p (suc d))))) (omega arith)

  long_upto : long_sum p upto (A + 8 * B)
  unfolding long_sum
  long_upto = side_sum long long_from_zero long_size

  short_upto : short_sum p upto (A + 8 * B)
  unfolding short_sum
  short_upto = side_sum short short_from_zero short_size

  abbrev Small : ℤ → Type 0
  Small z = z upto (10000000 * (A + 8 * B))

  pub market_size : Small (market_risk row x)
  market_size = by (is_special x.regime) refl
    where
      by : (t : Bool) → is_special x.regime ≡ t → Small (market_risk row x)
      by true e = subst Small (sym (market_special row r x e))
          (max_upto (side_upto row r fall (omega arith) long_upto few) (side_upto row r rise (omega arith) short_upto few) (omega arith))
      by false e = ⊎_elim below above (<ℤ-or-≥ℤ (position_sum p) (pos 0))
        where
          below : position_sum p <ℤ pos 0 → Small (market_risk row x)
          below h = subst Small (sym (market_short row r x e (omega ints)))
              (side_upto row r rise (omega arith) (upto_size {k = A + 8 * B} (omega (ints, is (neg (var (position_sum p)))))
              (omega (arith, sum_size, neg_size (position_sum p))) (omega arith)) few)

          above : pos 0 ≤ℤ position_sum p → Small (market_risk row x)
          above h = subst Small (sym (market_long row r x e h)) (side_upto row r fall (omega arith) (upto_size {k = A + 8 * B} h sum_size (omega arith)) few)

  date_size : (d k : ℕ) → d < 8 → nat_abs (number p d) ≤ k → 10000000 * k < 2 ^ 63 → nat_abs (interest_of row p d) ≤ 10000000 * k
  unfolding interest_of
  date_size d k l h m =
      let z = number p d in
      let a = slope_upto 10000000 (fall_slope row r d l) (width_below row r d l) (upto_size {k = k} (long_from_zero z) (omega (arith, long_size z)) (omega arith)) m in
      let b = slope_upto 10000000 (rise_slope row r d l) (width_below row r d l) (upto_size {k = k} (short_from_zero z) (omega (arith, short_size z)) (omega arith)) m in
      let i = fall_charge row d (long z) -ℤ rise_charge row d (short z) in
      omega (ints, is (var (fall_charge row d (long z)) ⊖ var (rise_charge row d (short z))), abs_is i, one_is_zero i)

  pub interest_size : Small (interest_risk row p)
  unfolding interest_risk abs_ℤ
  interest_size =
      let first = date_size 0 (A + B) (omega arith) u.first (omega arith) in
      let sum = sum_first 7 (10000000 * A) (10000000 * B) (interest_of row p) (omega arith) (λ d l. date_size (suc d) B (omega arith) (u.later d l) (omega arith)) in
      upto_size (omega ints) (omega arith) (omega arith)

-- ---- the regime of a row carries a share
module _ (account_kind : ℕ) (row : List ℤ) (r : RowRanges row) where
  share_upto : share_by_kind account_kind row upto 10000
  unfolding share_by_kind pool_share_in_force
  share_upto =
      choice_upto (eqb account_kind 1) r.acceptance_upto
      (choice_upto (eqb account_kind 2) (choice_upto (lt_z (pool_share row) the_whole) r.pool_upto r.acceptance_upto) r.pool_upto)

  choice_range : (t : Bool) (x y : Regime) → ShareRange x → ShareRange y → ShareRange (cond t x y)
  choice_range true x y h l = h
  choice_range false x y h l = l

  pub regime_range : ShareRange (regime_of account_kind row)
  unfolding regime_of
  regime_range =
      choice_range (equal (special_delivery row) (pos 1)) Special _ tt (choice_range (equal (covered_sales row) (pos 1)) NotRecorded _ tt
      (choice_range (equal (covered_sales row) (pos 2)) (Partial (share_by_kind account_kind row)) (Accepted (share_by_kind account_kind row)) share_upto share_upto))

-- ---- one asset of a block: C', what stands at date 0, positions and worth
valued_within : (regime : Regime) (c : ℤ) → c within 1000000 → valued regime c within 1000000
valued_within Special c h = h
valued_within NotRecorded c h = h
valued_within (Partial share) c h = omega (ints, is (lit 0 ⊓ var c))
valued_within (Accepted share) c h = h

module _ (regime : Regime) (s : ShareRange regime) (account_kind : ℕ) (row : List ℤ) (r : RowRanges row) (holding : List ℤ) (h : HoldingRanges holding) where
  adjusted_small : adjusted_collateral regime holding within 1000000
  unfolding adjusted_collateral
  adjusted_small = adjusted_within regime (collateral holding) _ (omega arith) h.collateral_within s

  left_out_upto : left_out regime account_kind row holding upto 1000000
  unfolding left_out
  left_out_upto =
      choice_upto (equal (kind row) (pos 2) && equal (share_in_force regime account_kind row) (pos 0)) (h.claim_upto 0 (omega arith)) (zero_upto 1000000)

  valued_small : valued_collateral regime account_kind row holding within 2000000
  unfolding valued_collateral
  valued_small =
      let c = adjusted_collateral regime holding in
      let a = valued_within regime c adjusted_small in
      let b = left_out_upto in
      omega (ints, is (var (valued regime c) ⊖ var (left_out regime account_kind row holding)))

  position_at : (d : ℕ) → d < 8 → number (asset_under regime account_kind row holding).positions d ≡ position holding (adjusted_collateral regime holding) d
  unfolding asset_under
  position_at d l = tabulated_at _ 8 d (pos 0) l

  asset_worth : (asset_under regime account_kind row holding).worth within 240000000000000
  unfolding asset_under
  asset_worth = sum_within 30000000000000 8 _ (omega arith) (worth_within row r holding h _ valued_small)

  sized : length (asset_under regime account_kind row holding).positions ≡ 8
  unfolding asset_under
  sized = tabulated_length _ 8

  ranges_under : AssetRanges 1 (asset_under regime account_kind row holding)
  ranges_under =
      let c = adjusted_collateral regime holding in
      record {
        worth_within = asset_worth;
        size = sized;
        first_within = subst (λ (x : ℤ). x within 2000000) (sym (position_at 0 (omega arith)))
            (position_within holding c h 1000000 0 (omega arith) adjusted_small (omega arith));
        later_within = λ d l. subst (λ (x : ℤ). x within 1000000) (sym (position_at (suc d) (omega arith)))
            (position_later_within holding c h (suc d) (omega arith) (λ e. suc-ne-zero d e));
      }

-- the record of one asset of a block
pub asset_ranges : (account_kind : ℕ) (row : List ℤ) → RowRanges row → (holding : List ℤ) → HoldingRanges holding
    → AssetRanges 1 (asset_of account_kind row holding)
asset_ranges account_kind row r holding h = ranges_under (regime_of account_kind row) (regime_range account_kind row r) account_kind row r holding h

-- ---- what the ranges of a record say of its positions
pub positions_range : (n : ℕ) (x : Asset) → AssetRanges n x → n ≤ 4 → PositionRanges x.positions
positions_range n x a l = record { size = a.size; each = by }
  where
    by : (d : ℕ) → d < 8 → number x.positions d within 8000000
    by zero m = wider 8000000 a.first_within (omega arith)
    by (suc d) m = wider 8000000 (a.later_within d (omega arith)) (omega arith)

units_of : (n : ℕ) (x : Asset) → AssetRanges n x → Units (n * 1000000) (n * 1000000) x.positions
units_of n x a = record { first = let h = a.first_within.size in omega arith; later = λ d l. (a.later_within d l).size }

-- ---- x or nothing
pub choice_from_zero : (t : Bool) {x : ℤ} → pos 0 ≤ℤ x → pos 0 ≤ℤ cond t x (pos 0)
choice_from_zero true h = h
choice_from_zero false h = ≤ℤ_refl _

choice_below : (t : Bool) {x : ℤ} → pos 0 ≤ℤ x → cond t x (pos 0) ≤ℤ x
choice_below true h = ≤ℤ_refl _
choice_below false h = h

-- ---- an asset's part of the sums, in n blocks
pub record SmallPart (n : ℕ) (part : Part) : Type 0 where
  pub worth_within : part.worth within (n * 240000000000000)
  pub market_upto : part.market upto (n * 90000000000000)
  pub interest_upto : part.interest upto (n * 90000000000000)
  pub long_low : pos 0 ≤ℤ part.long
  pub long_high : part.long ≤ℤ part.market
  pub short_low : pos 0 ≤ℤ part.short
  pub short_high : part.short ≤ℤ part.market
  pub group_below : part.group < 9

pub part_small : (n : ℕ) → n ≤ 4 → (row : List ℤ) → RowRanges row → (x : Asset) → AssetRanges n x → SmallPart n (part_of row x)
unfolding part_of long_risk short_risk group_of
part_small n l row r x a =
    let few : 10000000 * (n * 1000000 + 8 * (n * 1000000)) < 900000000000000 = omega arith in
    let market = market_size row r x (units_of n x a) few in
    record {
      worth_within = a.worth_within;
      market_upto = upto_wider (n * 90000000000000) market (omega arith);
      interest_upto = upto_wider (n * 90000000000000) (interest_size row r x (units_of n x a) few) (omega arith);
      long_low = choice_from_zero (lt_z (pos 0) (position_sum x.positions)) market.low;
      long_high = choice_below (lt_z (pos 0) (position_sum x.positions)) market.low;
      short_low = choice_from_zero (lt_z (position_sum x.positions) (pos 0)) market.low;
      short_high = choice_below (lt_z (position_sum x.positions) (pos 0)) market.low;
      group_below = omega (ints, r.group_upto, abs_is (spread_group row), one_is_zero (spread_group row));
    }

-- a number from 0 to a number from 0 to k
between_upto : {x y : ℤ} {k : ℕ} (m : ℕ) → pos 0 ≤ℤ x → x ≤ℤ y → y upto k → k ≤ m → m < 2 ^ 63 → x upto m
between_upto {x} {y} {k} m low high h l b = record { low = low; high = omega ints; fits = omega ints }

-- it is far inside what contracts ask
pub small_ranges : (n : ℕ) → n ≤ 4 → {part : Part} → SmallPart n part → PartRanges part
small_ranges n l p = record {
  worth_within = wider 960000000000000 p.worth_within (omega arith);
  market_upto = upto_wider 640000000000000 p.market_upto (omega arith);
  interest_upto = upto_wider 640000000000000 p.interest_upto (omega arith);
  long_upto = between_upto 640000000000000 p.long_low p.long_high p.market_upto (omega arith) (omega arith);
  short_upto = between_upto 640000000000000 p.short_low p.short_high p.market_upto (omega arith) (omega arith);
  group_below = p.group_below;
}
