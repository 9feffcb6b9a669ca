-- Document 01, "From collateral to limit": one asset's positions by date and its part of the valuation, from the account's kind, the row in force
-- and the asset's 17 numbers.
-- Assumes nothing.
use Rattle.std.specs.Prelude.{cond, ◌&&◌, List, ℕ, zero, suc, ℤ, pos, ◌+ℤ◌, ◌-ℤ◌, ◌*ℤ◌}
use Rattle.whole.specs.Bounds.{equal}
use Rattle.whole.specs.Sums.{Σ<}
use Rattle.whole.specs.Parts.{tabulated}
use Rattle.rates.specs.Row.{kind, level}
use Rattle.rates.specs.Units.{dates}
use Rattle.book.specs.Block.{collateral, claim, obligation}
use Rattle.assets.specs.Collateral.{share_in_force, regime_of, adjusted, valued}
use Rattle.assets.specs.declared.record.Asset.{Asset}
use Rattle.assets.specs.declared.collateral.Regime.{Regime}

-- claims less obligations of a date, and their sum T over the dates
unfoldable pub net : List ℤ → ℕ → ℤ
net holding d = claim holding d -ℤ obligation holding d

unfoldable pub trades : List ℤ → ℤ
trades holding = Σ< dates (net holding)

-- C', from C and N = C + T
unfoldable pub adjusted_collateral : Regime → List ℤ → ℤ
adjusted_collateral regime holding = adjusted regime (collateral holding) (collateral holding +ℤ trades holding)

-- an amount that stands at date 0
abbrev pub at_date0 : ℕ → ℤ → ℤ
at_date0 zero x = x
at_date0 (suc d) x = pos 0

-- the position of a date: claims less obligations, with c added at date 0
unfoldable pub position : List ℤ → ℤ → ℕ → ℤ
position holding c d = net holding d +ℤ at_date0 d c

-- 4.9: the claims of date 0 that the valuation leaves out, for a row of kind 2 with share in force 0
unfoldable pub left_out : Regime → ℕ → List ℤ → List ℤ → ℤ
left_out regime account_kind row holding =
    cond (equal (kind row) (pos 2) && equal (share_in_force regime account_kind row) (pos 0)) (claim holding 0) (pos 0)

-- what stands at date 0 in the valuation: C'' for C' (4.8), less what 4.9 leaves out
unfoldable pub valued_collateral : Regime → ℕ → List ℤ → List ℤ → ℤ
valued_collateral regime account_kind row holding =
    valued regime (adjusted_collateral regime holding) -ℤ left_out regime account_kind row holding

-- 4.2: position × (price + mid), over the dates
unfoldable pub worth_of : List ℤ → List ℤ → ℤ → ℕ → ℤ
worth_of row holding c d = position holding c d *ℤ level row d

-- the asset's working record, under a regime and under its own
unfoldable pub asset_under : Regime → ℕ → List ℤ → List ℤ → Asset
asset_under regime account_kind row holding = record {
  regime = regime;
  worth = Σ< dates (worth_of row holding (valued_collateral regime account_kind row holding));
  positions = tabulated dates (position holding (adjusted_collateral regime holding));
}

abbrev pub asset_of : ℕ → List ℤ → List ℤ → Asset
asset_of account_kind row holding = asset_under (regime_of account_kind row) account_kind row holding
