-- `changes::fits_after` meets its contract: the sum of two numbers within 10^14 fits. Assumes nothing.
use mathlib.Core.Path.{◌∙◌}
use mir.Facts.{to_z-of_z}
use Rattle.book.proofs.Amounts.{sum_fits, summed}
use Rattle.book.proofs.changes.fits_after.Goals as goal

pub overflow_add-block : goal.overflow_add-block
overflow_add-block c = sum_fits c.requires.1 c.requires.2

pub returns : goal.returns
returns c =
    c.lies_between.ensures ∙ simp (summed c.requires.1 c.requires.2, to_z-of_z c.ranges.low, to_z-of_z c.ranges.high)
