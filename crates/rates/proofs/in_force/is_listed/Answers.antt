-- `rates::in_force::is_listed` meets its contract: number 0 of the asset's row is its kind, and a table without that row lists nothing there.
-- Assumes nothing.
use mathlib.Core.Path.{sym, ap, ◌∙◌}
use mathlib.Core.Bool.{not}
use native.Mathlib.Omega.{arith}
use Rattle.rates.proofs.in_force.Listed.{no_such_asset, no_row, listed_by_kind}
use Rattle.rates.proofs.in_force.is_listed.Goals as goal

pub returns-then-asset-ge-ASSET_COUNT : goal.returns-then-asset-ge-ASSET_COUNT
returns-then-asset-ge-ASSET_COUNT c = sym (no_such_asset _ _ (omega arith))

pub returns-then-clearing-at : goal.returns-then-clearing-at
returns-then-clearing-at c = sym (no_row _ _ (omega arith) (omega arith))

pub returns : goal.returns
returns c = ap not c.number_is.ensures ∙ sym (listed_by_kind _ _ (omega arith))
