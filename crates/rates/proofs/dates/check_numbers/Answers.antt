-- `rates::dates::check_numbers` meets its contract: a right level makes the mid near 0. Assumes nothing.
use mathlib.Core.Path.{sym, ◌∙◌}
use borrow.Author.Rules.{rules}
use Rattle.whole.proofs.Checks.{held}
use Rattle.rates.proofs.dates.Comparisons.{near_mid}
use Rattle.rates.proofs.dates.check_numbers.Goals as goal

pub below_mid-requires : goal.below_mid-requires
below_mid-requires c = (search rules, search rules, search rules, near_mid c.requires.1 _ (sym c.level_right.ensures ∙ held _ _ c.in_ok-holds.ensures))

pub above_mid-requires : goal.above_mid-requires
above_mid-requires c = (search rules, search rules, search rules, near_mid c.requires.1 _ (sym c.level_right.ensures ∙ held _ _ c.in_ok-holds.ensures))

pub below_mid-requires-2 : goal.below_mid-requires-2
below_mid-requires-2 c = (search rules, search rules, search rules, near_mid c.requires.1 _ (sym c.level_right.ensures ∙ held _ _ c.in_ok-holds.ensures))

pub above_mid-requires-2 : goal.above_mid-requires-2
above_mid-requires-2 c = (search rules, search rules, search rules, near_mid c.requires.1 _ (sym c.level_right.ensures ∙ held _ _ c.in_ok-holds.ensures))
