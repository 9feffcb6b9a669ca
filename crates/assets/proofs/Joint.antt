-- Laws of one asset's record over several blocks (specs/Joint): one block more, how large it can be, and that blocks which hold nothing give nothing.
-- The blocks stand in a list, `at`, and the first n of them are added up.
-- Assumes nothing.
use mathlib.Core.Path.{◌≡◌, refl, sym, ap, ◌∙◌, subst}
use Prim.Native.Nat.{ℕ, suc, ◌+◌, ◌*◌, ◌≤◌, ◌<◌}
use native.Mathlib.Numerals.{add-one}
use native.Mathlib.Omega.{arith}
use lib.IntN.{ℤ, pos, ◌+ℤ◌}
use lib.ListN.{length}
use lib.Seq.{ext_get_or}
use Rattle.whole.specs.Bounds.{◌within◌}
use Rattle.whole.specs.Sums.{Σ<}
use Rattle.whole.specs.Parts.{number, tabulated}
use Rattle.whole.proofs.Bounds.{wider}
use Rattle.whole.proofs.Sums.{sum_suc, sum_single, sum_within, sum_zero}
use Rattle.whole.proofs.Tabulated.{tabulated_length, tabulated_at, tabulated_same}
use Rattle.assets.specs.Joint.{joint_asset, with_record}
use Rattle.assets.specs.Ranges.{AssetRanges}
use Rattle.assets.specs.declared.record.Asset.{Asset}
use Rattle.assets.specs.declared.collateral.Regime.{Regime}
use Rattle.assets.proofs.Unheld.{NoAsset}

-- a position of the record over several blocks, and its regime
pub joint_position : (sum : (ℕ → ℤ) → ℤ) (regime : Regime) (xs : ℕ → Asset) (d : ℕ) → d < 8
    → number (joint_asset sum regime xs).positions d ≡ sum (λ j. number (xs j).positions d)
unfolding joint_asset
joint_position sum regime xs d l = tabulated_at (λ e. sum (λ j. number (xs j).positions e)) 8 d (pos 0) l

pub joint_regime : (sum : (ℕ → ℤ) → ℤ) (regime : Regime) (xs : ℕ → Asset) → (joint_asset sum regime xs).regime ≡ regime
unfolding joint_asset
joint_regime sum regime xs = refl

-- the record over one block alone is that block's
pub joint_alone : (i : ℕ) (regime : Regime) (xs : ℕ → Asset) → (xs i).regime ≡ regime → length (xs i).positions ≡ 8 → joint_asset (λ f. f i) regime xs ≡ xs i
unfolding joint_asset
joint_alone i regime xs same size =
    let positions = ext_get_or (pos 0) (tabulated 8 (λ d. number (xs i).positions d)) (xs i).positions (tabulated_length _ 8 ∙ sym size)
    (λ d l. tabulated_at (number (xs i).positions) 8 d (pos 0) (let e = tabulated_length (number (xs i).positions) 8 in omega arith)) in
    λ t. record { regime = sym same t; worth = (xs i).worth; positions = positions t }

-- ---- the first n blocks of a list
module _ (at : ℕ → ℕ) (regime : Regime) (xs : ℕ → Asset) where
  -- the sum over the first n blocks of the list, and the record over them
  abbrev pub up_to : ℕ → (ℕ → ℤ) → ℤ
  up_to n f = Σ< n (λ k. f (at k))

  abbrev pub record_to : ℕ → Asset
  record_to n = joint_asset (up_to n) regime xs

  position_to : (n d : ℕ) → d < 8 → number (record_to n).positions d ≡ up_to n (λ j. number (xs j).positions d)
  position_to n = joint_position (up_to n) regime xs

  sized : (n : ℕ) → length (record_to n).positions ≡ 8
  unfolding joint_asset
  sized n = tabulated_length _ 8

  -- one block is its own record
  pub record_first : (xs (at 0)).regime ≡ regime → length (xs (at 0)).positions ≡ 8 → xs (at 0) ≡ record_to 1
  record_first same size = sym (joint_alone (at 0) regime xs same size) ∙ (λ i. joint_asset (λ f. sym (sum_single (λ k. f (at k))) i) regime xs)

  -- one block more
  record_step : (n : ℕ) → with_record (record_to n) (xs (at n)) ≡ record_to (suc n)
  unfolding joint_asset with_record
  record_step n =
      let worth = sym (sum_suc n (λ k. (xs (at k)).worth)) in
      let positions = tabulated_same (pos 0) 8 (λ d. number (record_to n).positions d +ℤ number (xs (at n)).positions d)
      (λ d. up_to (suc n) (λ j. number (xs j).positions d))
      (λ d l. ap (λ (z : ℤ). z +ℤ number (xs (at n)).positions d) (position_to n d l) ∙ sym (sum_suc n (λ k. number (xs (at k)).positions d))) in
      λ i. record { regime = regime; worth = worth i; positions = positions i }

  pub record_turn : (n : ℕ) (x r : Asset) → x ≡ record_to n → r ≡ with_record x (xs (at n)) → r ≡ record_to (n + 1)
  record_turn n x r e q = q ∙ ap (λ (y : Asset). with_record y (xs (at n))) e ∙ record_step n ∙ ap record_to (sym (add-one n))

  -- how large it can be, from each block's
  module _ (n : ℕ) (few : n ≤ 4) (each : (k : ℕ) → k < n → AssetRanges 1 (xs (at k))) where
    pub record_ranges : AssetRanges n (record_to n)
    unfolding joint_asset
    record_ranges = record {
      worth_within = sum_within 240000000000000 n _ (omega arith) (λ k l. (each k l).worth_within);
      size = sized n;
      first_within = subst (λ (z : ℤ). z within (n * 2000000)) (sym (position_to n 0 (omega arith)))
          (sum_within 2000000 n _ (omega arith) (λ k l. (each k l).first_within));
      later_within = λ d m. subst (λ (z : ℤ). z within (n * 1000000)) (sym (position_to n (suc d) (omega arith)))
          (sum_within 1000000 n _ (omega arith) (λ k l. (each k l).later_within d m));
    }

  -- where none holds anything
  pub record_none : (n : ℕ) → ((k : ℕ) → k < n → NoAsset (xs (at k))) → NoAsset (record_to n)
  unfolding joint_asset
  record_none n none = record {
    no_worth = sum_zero n _ (λ k l. (none k l).no_worth);
    no_position = λ d m. position_to n d m ∙ sum_zero n _ (λ k l. (none k l).no_position d m);
  }

pub ranges_wider : (n m : ℕ) (x : Asset) → AssetRanges n x → n ≤ m → AssetRanges m x
ranges_wider n m x a l = record {
  worth_within = wider (m * 240000000000000) a.worth_within (omega arith);
  size = a.size;
  first_within = wider (m * 2000000) a.first_within (omega arith);
  later_within = λ d q. wider (m * 1000000) (a.later_within d q) (omega arith);
}
