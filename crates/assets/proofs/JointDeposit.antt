-- One asset over several blocks, with more collateral of it in one of them: its record is raised at date 0 by what that block's is. Where the row in
-- force passes the cover test and is not marked partial, its part of the sums is better. Of the other blocks nothing is asked but that they stay.
-- Assumes nothing.
use mathlib.Core.Path.{◌≡◌, refl, ap, ◌∙◌, subst, sym}
use mathlib.Core.Bool.{Bool, true, false}
use mathlib.Core.List.{List}
use mathlib.Core.Logic.{◌≢◌}
use Prim.Native.Nat.{ℕ, ◌<◌}
use native.Mathlib.Omega.{arith}
use lib.IntN.{ℤ, pos, ◌+ℤ◌, ◌*ℤ◌, +ℤ_idr}
use lib.Signed.{◌≤ℤ◌, ≤ℤ_refl}
use Rattle.whole.specs.Bounds.{equal}
use Rattle.whole.specs.Parts.{number}
use Rattle.whole.proofs.SumsOn.{CountsOnce}
use Rattle.whole.proofs.Tabulated.{tabulated_same}
use Rattle.rates.specs.Row.{covered_sales, level}
use Rattle.rates.specs.InForce.{cover_test}
use Rattle.rates.specs.Ranges.{RowRanges}
use Rattle.book.specs.Block.{collateral}
use Rattle.assets.specs.Collateral.{is_special, regime_of}
use Rattle.assets.specs.Asset.{asset_of}
use Rattle.assets.specs.Joint.{joint_asset, joint_of}
use Rattle.assets.specs.Part.{part_of}
use Rattle.assets.specs.declared.record.Asset.{Asset}
use Rattle.assets.specs.declared.parts.Part.{Part}
use Rattle.assets.specs.declared.collateral.Regime.{Regime}
use Rattle.assets.proofs.Joint.{joint_position, joint_regime}
use Rattle.assets.proofs.Raised.{Better, Raised, raised_better}
use Rattle.assets.proofs.AssetDeposit.{special_stays, raise, deposit_raises}

-- a part that did not change is no worse
same_better : (p : Part) → Better p p
same_better p = record { same_group = refl; longer = ≤ℤ_refl _; less_short = ≤ℤ_refl _; pays = ≤ℤ_refl _ }

-- ---- records by account, of which block j's alone changes, and `sum` counts it
module _ (n : ℕ) (sum : (ℕ → ℤ) → ℤ) (j : ℕ) (counts : CountsOnce n sum j) (regime : Regime) (xs ys : ℕ → Asset)
    (others : (k : ℕ) → k < n → k ≢ j → ys k ≡ xs k) where
  -- any number of the records: it grows by what block j's grows by, and stays where that stays
  grows : (F : Asset → ℤ) (x : ℤ) → F (ys j) ≡ F (xs j) +ℤ x → sum (λ k. F (ys k)) ≡ sum (λ k. F (xs k)) +ℤ x
  grows F x e = counts (λ k. F (xs k)) (λ k. F (ys k)) x (λ k l d. ap F (others k l d)) e

  stays : (F : Asset → ℤ) → F (ys j) ≡ F (xs j) → sum (λ k. F (ys k)) ≡ sum (λ k. F (xs k))
  stays F e = grows F (pos 0) (e ∙ sym (+ℤ_idr (F (xs j)))) ∙ +ℤ_idr _

  joint_raised : (row : List ℤ) (δ : ℤ) → Raised row δ (xs j) (ys j) → Raised row δ (joint_asset sum regime xs) (joint_asset sum regime ys)
  unfolding joint_asset
  joint_raised row δ up = record {
    from_zero = up.from_zero;
    same_regime = refl;
    worth_gains = grows (λ x. x.worth) (δ *ℤ level row 0) up.worth_gains;
    first = joint_position sum regime ys 0 (omega arith) ∙ grows (λ x. number x.positions 0) δ up.first
        ∙ ap (λ (z : ℤ). z +ℤ δ) (sym (joint_position sum regime xs 0 (omega arith)));
    later = λ d l h. joint_position sum regime ys d l ∙ stays (λ x. number x.positions d) (up.later d l h)
        ∙ sym (joint_position sum regime xs d l);
  }

  pub joint_same : ys j ≡ xs j → joint_asset sum regime ys ≡ joint_asset sum regime xs
  unfolding joint_asset
  joint_same e =
      let worth = stays (λ x. x.worth) (ap (λ (x : Asset). x.worth) e) in
      let positions = tabulated_same (pos 0) 8 (λ d. sum (λ k. number (ys k).positions d)) (λ d. sum (λ k. number (xs k).positions d))
      (λ d l. stays (λ x. number x.positions d) (ap (λ (x : Asset). number x.positions d) e)) in
      λ i. record { regime = regime; worth = worth i; positions = positions i }

-- ---- holdings by account, of which block j's alone changes, and in it the collateral alone
module _ (n : ℕ) (sum : (ℕ → ℤ) → ℤ) (j : ℕ) (counts : CountsOnce n sum j) (account_kind : ℕ) (row : List ℤ) (r : RowRanges row)
    (holdings holdings' : ℕ → List ℤ) (others : (k : ℕ) → k < n → k ≢ j → holdings' k ≡ holdings k)
    (same : (k : ℕ) → k ≢ 0 → number (holdings' j) k ≡ number (holdings j) k) where
  abbrev xs : ℕ → Asset
  xs k = asset_of account_kind row (holdings k)

  abbrev ys : ℕ → Asset
  ys k = asset_of account_kind row (holdings' k)

  records_stay : (k : ℕ) → k < n → k ≢ j → ys k ≡ xs k
  records_stay k l d = ap (asset_of account_kind row) (others k l d)

  pub joint_better : collateral (holdings j) ≤ℤ collateral (holdings' j) → equal (covered_sales row) (pos 2) ≡ false → cover_test row ≡ true
      → Better (part_of row (joint_of sum account_kind row holdings)) (part_of row (joint_of sum account_kind row holdings'))
  joint_better more whole cover = by (is_special (regime_of account_kind row)) refl
    where
      before : Asset
      before = joint_of sum account_kind row holdings

      after : Asset
      after = joint_of sum account_kind row holdings'

      regime : Regime
      regime = regime_of account_kind row

      plain : is_special regime ≡ false → is_special before.regime ≡ false
      plain e = ap is_special (joint_regime sum regime xs) ∙ e

      by : (t : Bool) → is_special regime ≡ t → Better (part_of row before) (part_of row after)
      by true e =
          subst (λ (y : Asset). Better (part_of row before) (part_of row y))
          (sym (joint_same n sum j counts regime xs ys records_stay (special_stays account_kind row (holdings j) (holdings' j) same e)))
          (same_better (part_of row before))
      by false e =
          raised_better row r (raise account_kind row (holdings j) (holdings' j)) before after
          (joint_raised n sum j counts regime xs ys records_stay row _ (deposit_raises account_kind row (holdings j) (holdings' j) same r more whole))
          (plain e) cover
