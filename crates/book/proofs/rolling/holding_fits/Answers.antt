-- `rolling::holding_fits` meets its contract: collateral, claim and obligation are small, so that what the roll makes of them fits.
-- Assumes nothing.
use mathlib.Core.Path.{ap, ◌∙◌}
use Rattle.book.specs.Rules.{collateral_right}
use Rattle.book.specs.Roll.{rolled_holding}
use Rattle.book.proofs.Amounts.{sum_fits, difference_fits, differed}
use Rattle.book.proofs.InBounds.{collateral_size, claim_size, obligation_size}
use Rattle.book.proofs.rolling.holding_fits.Goals as goal

pub overflow_add-holding : goal.overflow_add-holding
overflow_add-holding c = let h = c.requires in sum_fits (collateral_size h) (claim_size h)

pub overflow_sub-holding : goal.overflow_sub-holding
overflow_sub-holding c = let h = c.requires in difference_fits (collateral_size h) (claim_size h) (obligation_size h)

pub returns : goal.returns
unfolding rolled_holding
returns c = let h = c.requires in
    c.lies_between.ensures ∙ ap collateral_right (differed (collateral_size h) (claim_size h) (obligation_size h))
