-- An asset whose row is all zero, as that of an unlisted one is, adds nothing whatever is held of it: its levels, rates and widths are 0, so are its worth
-- and its risks. So code may pass it by.
-- Assumes nothing.
use mathlib.Core.Path.{◌≡◌, refl, ap, ap₂, ◌∙◌}
use mathlib.Core.Bool.{Bool, true, false, cond}
use mathlib.Core.List.{List}
use Prim.Native.Nat.{ℕ, ◌+◌, ◌*◌}
use native.Mathlib.Omega.{arith}
use lib.IntN.{ℤ, pos, ◌+ℤ◌, ◌-ℤ◌, ◌*ℤ◌}
use lib.Signed.{lt_z}
use Rattle.whole.specs.Bounds.{between, is_zero}
use Rattle.whole.specs.Marks.{all_zero}
use Rattle.whole.specs.Numbers.{max_ℤ, abs_ℤ, divided_up}
use Rattle.whole.specs.Parts.{number}
use Rattle.whole.proofs.Expressions.{eq!, var, lit, ◌⊛◌}
use Rattle.whole.proofs.Bounds.{equal_says}
use Rattle.whole.proofs.Marks.{all_numbers}
use Rattle.whole.proofs.Sums.{sum_zero}
use Rattle.rates.specs.Row.{level, interest_limit}
use Rattle.assets.specs.Asset.{position, valued_collateral, worth_of, asset_under}
use Rattle.assets.specs.Collateral.{is_special}
use Rattle.assets.specs.Risk.{long, short, charge, units_charge, market_charge, side_risk, position_sum, long_sum, short_sum, market_risk, fall_charge, rise_charge, interest_of, interest_risk}
use Rattle.assets.specs.Part.{long_risk, short_risk, part_of}
use Rattle.assets.specs.declared.record.Asset.{Asset}
use Rattle.assets.specs.declared.collateral.Regime.{Regime}
use Rattle.assets.proofs.Unheld.{NoPart, none_either_way}

times_none : (x : ℤ) {y : ℤ} → y ≡ pos 0 → x *ℤ y ≡ pos 0
times_none x e = ap (λ (z : ℤ). x *ℤ z) e ∙ eq! (var x ⊛ lit 0) (lit 0) (omega arith)

none_times : (x : ℤ) {y : ℤ} → y ≡ pos 0 → y *ℤ x ≡ pos 0
none_times x e = ap (λ (z : ℤ). z *ℤ x) e ∙ eq! (lit 0 ⊛ var x) (lit 0) (omega arith)

charge_none : {base raised : ℤ} (limit n : ℤ) → base ≡ pos 0 → raised ≡ pos 0 → charge base raised limit n ≡ pos 0
unfolding charge
charge_none limit n b r = ap₂ ◌+ℤ◌ (none_times _ b) (none_times _ r)

module _ (row : List ℤ) (empty : all_zero row ≡ true) where
  number_none : (k : ℕ) → number row k ≡ pos 0
  unfolding all_zero between
  number_none k = equal_says (all_numbers is_zero row (pos 0) refl empty k)

  level_none : (d : ℕ) → level row d ≡ pos 0
  level_none d = ap₂ ◌+ℤ◌ (number_none 1) (number_none (16 + 5 * d))

  side_none : (side : ℕ) (n : ℤ) → side_risk row side n ≡ pos 0
  unfolding side_risk market_charge divided_up
  side_none side n = ap (λ (z : ℤ). divided_up z 10000) (times_none (units_charge row side n) (number_none 1))

  market_none : (x : Asset) → market_risk row x ≡ pos 0
  unfolding market_risk max_ℤ
  market_none x = by (is_special x.regime)
    where
      by : (special : Bool) → cond special
          (max_ℤ (side_risk row 0 (long_sum x.positions)) (side_risk row 1 (short_sum x.positions)))
          (side_risk row 0 (long (position_sum x.positions)) +ℤ side_risk row 1 (short (position_sum x.positions))) ≡ pos 0
      by true = ap₂ max_ℤ (side_none 0 _) (side_none 1 _)
      by false = ap₂ ◌+ℤ◌ (side_none 0 _) (side_none 1 _)

  fall_none : (d : ℕ) (n : ℤ) → fall_charge row d n ≡ pos 0
  unfolding fall_charge
  fall_none d n = charge_none (interest_limit row) n (ap₂ ◌-ℤ◌ (number_none _) (number_none _)) (ap₂ ◌-ℤ◌ (number_none _) (number_none _))

  rise_none : (d : ℕ) (n : ℤ) → rise_charge row d n ≡ pos 0
  unfolding rise_charge
  rise_none d n = charge_none (interest_limit row) n (ap₂ ◌-ℤ◌ (number_none _) (number_none _)) (ap₂ ◌-ℤ◌ (number_none _) (number_none _))

  interest_none : (positions : List ℤ) → interest_risk row positions ≡ pos 0
  unfolding interest_risk interest_of abs_ℤ
  interest_none positions = ap abs_ℤ (sum_zero 8 (interest_of row positions) (λ d l. ap₂ ◌-ℤ◌ (fall_none d _) (rise_none d _)))

  -- no holding is worth anything
  pub unlisted_worth : (regime : Regime) (account_kind : ℕ) (holding : List ℤ) → (asset_under regime account_kind row holding).worth ≡ pos 0
  unfolding asset_under worth_of
  unlisted_worth regime account_kind holding = sum_zero 8 _ (λ d l. times_none (position holding (valued_collateral regime account_kind row holding) d) (level_none d))

  pub unlisted_part : (x : Asset) → x.worth ≡ pos 0 → NoPart (part_of row x)
  unfolding part_of long_risk short_risk
  unlisted_part x none =
      record {
        no_worth = none;
        no_market = market_none x;
        no_interest = interest_none x.positions;
        no_long = none_either_way (lt_z (pos 0) (position_sum x.positions)) (market_none x);
        no_short = none_either_way (lt_z (position_sum x.positions) (pos 0)) (market_none x);
      }
