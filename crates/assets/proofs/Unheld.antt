-- An asset of which nothing is held adds nothing: C', C'' and its positions are 0, so are its worth and its risks. So code may pass it by.
-- Assumes nothing.
use mathlib.Core.Path.{◌≡◌, refl, ap, ap₂, ◌∙◌}
use mathlib.Core.Bool.{Bool, true, false, cond, ◌&&◌}
use mathlib.Core.List.{List}
use Prim.Native.Nat.{ℕ, zero, suc, ◌+◌, ◌≤◌, ◌<◌}
use native.Mathlib.Omega.{arith}
use lib.IntN.{ℤ, pos, nat_abs, ◌+ℤ◌, ◌-ℤ◌, ◌*ℤ◌}
use lib.Signed.{lt_z}
use Rattle.whole.specs.Bounds.{◌upto◌, between, equal, is_zero}
use Rattle.whole.specs.Parts.{number}
use Rattle.whole.proofs.PlusMinus.{abs_is, one_is_zero}
use Rattle.whole.proofs.Expressions.{eq!, var, lit, ◌⊛◌, ◌⊓◌}
use Rattle.whole.proofs.Bounds.{equal_says}
use Rattle.whole.proofs.Marks.{all_numbers}
use Rattle.whole.proofs.Rules.{ints}
use Rattle.whole.proofs.Sums.{sum_zero}
use Rattle.whole.proofs.Tabulated.{tabulated_at}
use Rattle.rates.specs.Row.{kind, level}
use Rattle.rates.specs.Ranges.{RowRanges}
use Rattle.book.specs.Block.{collateral}
use Rattle.whole.specs.Marks.{all_zero}
use Rattle.assets.specs.Collateral.{share_in_force, regime_of, valued}
use Rattle.assets.specs.Asset.{net, trades, adjusted_collateral, position, left_out, valued_collateral, worth_of, asset_under, asset_of}
use Rattle.assets.specs.Risk.{position_sum}
use Rattle.assets.specs.Part.{long_risk, short_risk, part_of}
use Rattle.assets.specs.Ranges.{ShareRange}
use Rattle.assets.specs.declared.record.Asset.{Asset}
use Rattle.assets.specs.declared.parts.Part.{Part}
use Rattle.assets.specs.declared.collateral.Regime.{Regime}
use Rattle.assets.specs.declared.collateral.Regime.TheVariants.{Special, NotRecorded, Partial, Accepted}
use Rattle.assets.proofs.collateral.Counted.{adjusted_size}
use Rattle.assets.proofs.Sizes.{Units, market_size, interest_size, regime_range}

pub none_either_way : (t : Bool) {x : ℤ} → x ≡ pos 0 → cond t x (pos 0) ≡ pos 0
none_either_way true e = e
none_either_way false e = refl

zero_size : {x : ℤ} → x ≡ pos 0 → nat_abs x ≤ 0
zero_size e = let z = ap nat_abs e in omega arith

upto_none : {x : ℤ} → x upto 0 → x ≡ pos 0
upto_none {x} h = omega ints

-- ---- C', C'', positions and worth of a holding whose numbers are all 0
module _ (holding : List ℤ) (empty : all_zero holding ≡ true) where
  number_none : (k : ℕ) → number holding k ≡ pos 0
  unfolding all_zero between
  number_none k = equal_says (all_numbers is_zero holding (pos 0) refl empty k)

  net_none : (d : ℕ) → net holding d ≡ pos 0
  unfolding net
  net_none d = ap₂ ◌-ℤ◌ (number_none (1 + d)) (number_none (9 + d))

  position_none : {c : ℤ} → c ≡ pos 0 → (d : ℕ) → position holding c d ≡ pos 0
  unfolding position
  position_none e zero = ap₂ ◌+ℤ◌ (net_none 0) e
  position_none e (suc d) = ap (λ (x : ℤ). x +ℤ pos 0) (net_none (suc d))

  module _ (regime : Regime) (share : ShareRange regime) (account_kind : ℕ) (row : List ℤ) where
    adjusted_none : adjusted_collateral regime holding ≡ pos 0
    unfolding adjusted_collateral
    adjusted_none =
        let c = adjusted_collateral regime holding in
        let small = adjusted_size regime (collateral holding) (collateral holding +ℤ trades holding) share in
        let none = ap nat_abs (number_none 0) in
        omega (ints, abs_is c, one_is_zero c)

    valued_none : valued_collateral regime account_kind row holding ≡ pos 0
    unfolding valued_collateral left_out
    valued_none =
        ap₂ ◌-ℤ◌ (ap (valued regime) adjusted_none ∙ of_none regime)
        (none_either_way (equal (kind row) (pos 2) && equal (share_in_force regime account_kind row) (pos 0)) (number_none 1))
      where
        of_none : (g : Regime) → valued g (pos 0) ≡ pos 0
        of_none Special = refl
        of_none NotRecorded = refl
        of_none (Partial s) = eq! (lit 0 ⊓ lit 0) (lit 0) (omega arith)
        of_none (Accepted s) = refl

    worth_none : (asset_under regime account_kind row holding).worth ≡ pos 0
    unfolding asset_under worth_of
    worth_none =
        sum_zero 8 _ (λ d l. ap (λ (x : ℤ). x *ℤ level row d) (position_none valued_none d) ∙ eq! (lit 0 ⊛ var (level row d)) (lit 0) (omega arith))

    positions_none : (d : ℕ) → d < 8 → number (asset_under regime account_kind row holding).positions d ≡ pos 0
    unfolding asset_under
    positions_none d l = tabulated_at _ 8 d (pos 0) l ∙ position_none adjusted_none d

-- ---- a record of nothing, and its part of the sums
pub record NoAsset (x : Asset) : Type 0 where
  pub no_worth : x.worth ≡ pos 0
  pub no_position : (d : ℕ) → d < 8 → number x.positions d ≡ pos 0

pub record NoPart (part : Part) : Type 0 where
  pub no_worth : part.worth ≡ pos 0
  pub no_market : part.market ≡ pos 0
  pub no_interest : part.interest ≡ pos 0
  pub no_long : part.long ≡ pos 0
  pub no_short : part.short ≡ pos 0

pub unheld_asset : (account_kind : ℕ) (row holding : List ℤ) → RowRanges row → all_zero holding ≡ true → NoAsset (asset_of account_kind row holding)
unheld_asset account_kind row holding r empty =
    let regime = regime_of account_kind row in
    let share = regime_range account_kind row r in
    record { no_worth = worth_none holding empty regime share account_kind row; no_position = positions_none holding empty regime share account_kind row }

pub unheld_part : (row : List ℤ) → RowRanges row → (x : Asset) → NoAsset x → NoPart (part_of row x)
unfolding part_of long_risk short_risk
unheld_part row r x none =
    let none-at = none.no_position in
    let units : Units 0 0 x.positions = record { first = zero_size (none-at 0 (omega arith)); later = λ d l. zero_size (none-at (suc d) (omega arith)) } in
    let m = upto_none (market_size row r x units (omega arith)) in
    record {
      no_worth = none.no_worth;
      no_market = m;
      no_interest = upto_none (interest_size row r x units (omega arith));
      no_long = none_either_way (lt_z (pos 0) (position_sum x.positions)) m;
      no_short = none_either_way (lt_z (position_sum x.positions) (pos 0)) m;
    }
