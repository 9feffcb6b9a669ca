-- `rates::cover::outer_width` meets its contract: both distances fit, and the greater is the width.
-- Assumes nothing.
use mathlib.Core.Path.{◌≡◌, sym, ◌∙◌, subst}
use lib.IntN.{ℤ}
use mir.Facts.{to_z-of_z}
use Rattle.whole.specs.Bounds.{◌upto◌}
use Rattle.whole.proofs.Machine.{back}
use Rattle.rates.specs.InForce.{outer_width}
use Rattle.rates.proofs.CoverTest.{below_fits, above_fits, width_back, width_upto}
use Rattle.rates.proofs.cover.outer_width.Goals as goal
use Rattle.rates.proofs.cover.outer_width.Goals.{After-greater}

width : (c : After-greater) → back c.greater.result ≡ outer_width c.args.row.now 0
width c = to_z-of_z c.greater.ensures.1 ∙ c.greater.ensures.0 ∙ width_back _ c.requires

pub overflow_sub-mid : goal.overflow_sub-mid
overflow_sub-mid c = below_fits _ c.requires

pub overflow_sub-row : goal.overflow_sub-row
overflow_sub-row c = above_fits _ c.requires

pub returns : goal.returns
returns c = (width c, subst (λ (w : ℤ). w upto 10000000) (sym (width c)) (width_upto _ c.requires))
