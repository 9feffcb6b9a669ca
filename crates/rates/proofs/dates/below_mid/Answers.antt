-- `rates::dates::below_mid` meets its contract: the mid is near 0, so mid − 10^7 fits.
-- Assumes nothing.
use mathlib.Core.Path.{◌∙◌}
use borrow.Author.Rules.{sfits_of}
use Rattle.rates.proofs.dates.Comparisons.{lowest_fits, below_back}
use Rattle.rates.proofs.dates.below_mid.Goals as goal

pub returns : goal.returns
returns c =
    c.lies_between.ensures
    ∙ below_back c.requires.3 (sfits_of c.lies_between-arg-2-1.given) (sfits_of c.lies_between-arg-3-1.given)

pub overflow_sub-row : goal.overflow_sub-row
overflow_sub-row c = lowest_fits c.requires.3
