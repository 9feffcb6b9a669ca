-- `in_block::holding_of` meets its contract: what is lent is the asset's holding. Assumes nothing.
use mathlib.Core.Path.{◌∙◌}
use Rattle.book.proofs.Blocks.{lent_holding}
use Rattle.book.proofs.in_block.holding_of.Goals as goal

pub returns : goal.returns
returns c = let whole = rw c.unwrap.ensures at c.as_array.ensures.cases in whole.same ∙ lent_holding _ _
