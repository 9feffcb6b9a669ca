-- `rates::dates::above_mid` meets its contract: the mid is near 0, so mid + 10^7 fits.
-- Assumes nothing.
use mathlib.Core.Path.{◌∙◌}
use borrow.Author.Rules.{sfits_of}
use Rattle.rates.proofs.dates.Comparisons.{highest_fits, above_back}
use Rattle.rates.proofs.dates.above_mid.Goals as goal

pub returns : goal.returns
returns c =
    c.lies_between.ensures
    ∙ above_back c.requires.3 (sfits_of c.lies_between-arg-1.given) (sfits_of c.lies_between-arg-2-1.given)

pub overflow_add-row : goal.overflow_add-row
overflow_add-row c = highest_fits c.requires.3
