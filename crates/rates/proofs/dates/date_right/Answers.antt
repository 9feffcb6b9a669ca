-- `rates::dates::date_right` meets its contract: a right level makes the mid near 0, and the four tests behind it say the other four marks.
-- Assumes nothing.
use mathlib.Core.Path.{sym, ◌∙◌}
use borrow.Author.Rules.{rules}
use Rattle.whole.specs.Bounds.{◌within◌}
use Rattle.whole.specs.Marks.{all_true}
use Rattle.whole.proofs.Tests.{left, taken, first_out, and_then}
use Rattle.whole.proofs.Lists.{and-true}
use Rattle.whole.proofs.Chains.{and_assoc, and_same}
use Rattle.rates.specs.Row.{mid}
use Rattle.rates.specs.Rules.{date_marks}
use Rattle.rates.proofs.dates.Comparisons.{near_mid, in_order}
use Rattle.rates.proofs.dates.date_right.Goals as goal
use Rattle.rates.proofs.dates.date_right.Goals.{Else-not-level_right}

near : (c : Else-not-level_right) → mid c.args.row.now c.args.d within 10000000
near c = near_mid c.requires.1 _ (left c.level_right.ensures c.if-not-level_right.false-raw)

pub returns-then-not-level_right : goal.returns-then-not-level_right
unfolding date_marks all_true
returns-then-not-level_right c = sym (first_out _ _ (taken c.level_right.ensures c.if-not-level_right.true-raw))

pub returns : goal.returns
unfolding date_marks all_true
returns c =
    and_then _ _ (left c.level_right.ensures c.if-not-level_right.false-raw) (simp (and_assoc, and-true) (search and_same depth 20 ∙ in_order _ _ _ _ _ _ _))

pub below_mid-requires : goal.below_mid-requires
below_mid-requires c = (search rules, search rules, search rules, near c)

pub above_mid-requires : goal.above_mid-requires
above_mid-requires c = (search rules, search rules, search rules, near c.before.before.before)
