-- `collateral::value` meets its contract, regime by regime. Assumes nothing.
use mathlib.Core.Path.{◌≡◌}
use lib.IntN.{pos}
use mir.Facts.{to_z-of_z}
use Rattle.whole.specs.Numbers.{min_ℤ}
use Rattle.whole.proofs.Rules.{ints}
use Rattle.assets.proofs.collateral.Regime.value.Goals as goal
use Rattle.assets.proofs.collateral.Regime.value.Goals.{After-lesser}

negative : (c : After-lesser) → c.lesser.result ≡ min_ℤ (pos 0) c.args.c
negative c = rw (to_z-of_z c.ranges.c) at c.lesser.ensures.0

pub returns-in-Partial : goal.returns-in-Partial
returns-in-Partial c =
    let e = negative c in let h = c.requires in
    rw (to_z-of_z c.lesser.ensures.1, c.in-Partial.is) (e, omega ints)
