-- `whole::number_between` meets its contract: the number is read back as it stands. Assumes nothing.
use mathlib.Core.Path.{◌∙◌}
use borrow.Author.Rules.{sfits_of}
use Rattle.whole.proofs.Bounds.{between_back}
use Rattle.whole.proofs.number_between.Goals as goal

pub returns : goal.returns
returns c =
    c.lies_between.ensures ∙ between_back c.ranges.low (sfits_of c.lies_between-arg-1.given) c.ranges.high
