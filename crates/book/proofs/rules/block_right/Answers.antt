-- `rules::block_right` meets its contract: each holding is asked for its bounds. Assumes nothing.
use Rattle.std.proofs.Common.{rules}
use Rattle.book.specs.Rules.{holding_right_at, in_bounds, good_block, stands}
use Rattle.book.proofs.rules.block_right.Goals as goal

pub returns : goal.returns
unfolding stands good_block in_bounds
returns c = c.block_passing.ensures (holding_right_at c.args.block.now) (λ a r p. search rules)
