-- `rates::dates::level_right` meets its contract: the mid lies from −price to 10^7 − price exactly where price + mid lies from 0 to 10^7.
-- Assumes nothing.
use mathlib.Core.Path.{◌∙◌}
use borrow.Author.Rules.{sfits_of}
use Rattle.rates.proofs.dates.Comparisons.{from_fits, to_fits, level_back}
use Rattle.rates.proofs.dates.level_right.Goals as goal

pub returns : goal.returns
returns c = c.lies_between.ensures ∙ level_back c.requires.1 (sfits_of c.lies_between-arg-1.given)

pub overflow_sub-price : goal.overflow_sub-price
overflow_sub-price c = from_fits c.requires.1

pub overflow_sub-price-2 : goal.overflow_sub-price-2
overflow_sub-price-2 c = to_fits c.requires.1
