-- `moving::can_be_moved` meets its contract: the table is asked for an asset from 0 to 15 alone. Assumes nothing.
use mathlib.Core.Path.{◌≡◌, sym, ap, ◌∙◌}
use mathlib.Core.Bool.{true}
use native.Mathlib.Omega.{arith}
use mir.Facts.{to_z-of_z}
use Rattle.whole.proofs.Parameters.{index}
use Rattle.book.specs.Choices.{asset_right}
use Rattle.engine.proofs.moving.can_be_moved.Goals as goal
use Rattle.engine.proofs.moving.can_be_moved.Goals.{Then-asset_right}

an_asset : (c : Then-asset_right) → asset_right c.args.asset ≡ true
an_asset c = sym (c.if-asset_right.ensures ∙ ap asset_right (to_z-of_z c.ranges.asset))

pub overflow_cast-asset : goal.overflow_cast-asset
overflow_cast-asset c = index 15 (omega arith) c.ranges.asset (an_asset c)
