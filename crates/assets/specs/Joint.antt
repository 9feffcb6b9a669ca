-- Clause 4.11: one asset in several blocks that are valued together. Its record is made within each block, adjusted and valued there; worth and positions
-- by date are then added, and risk is taken of what they come to. `sum` adds up what each block gives, by account; the blocks have one kind.
-- Assumes nothing.
use Rattle.std.specs.Prelude.{List, ℕ, ℤ, ◌+ℤ◌}
use Rattle.whole.specs.Parts.{number, tabulated}
use Rattle.rates.specs.Units.{dates}
use Rattle.assets.specs.Collateral.{regime_of}
use Rattle.assets.specs.Asset.{asset_of}
use Rattle.assets.specs.declared.record.Asset.{Asset}
use Rattle.assets.specs.declared.collateral.Regime.{Regime}

unfoldable pub joint_asset : ((ℕ → ℤ) → ℤ) → Regime → (ℕ → Asset) → Asset
joint_asset sum regime xs = record {
  regime = regime;
  worth = sum (λ j. (xs j).worth);
  positions = tabulated dates (λ d. sum (λ j. number (xs j).positions d));
}

-- from the asset's holding in each block
abbrev pub joint_of : ((ℕ → ℤ) → ℤ) → ℕ → List ℤ → (ℕ → List ℤ) → Asset
joint_of sum account_kind row holdings = joint_asset sum (regime_of account_kind row) (λ j. asset_of account_kind row (holdings j))

-- ---- one block more, as code adds it
unfoldable pub with_record : Asset → Asset → Asset
with_record x y = record {
  regime = x.regime;
  worth = x.worth +ℤ y.worth;
  positions = tabulated dates (λ d. number x.positions d +ℤ number y.positions d);
}
