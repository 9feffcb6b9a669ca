-- `gate::block_stands` meets its contract: what was asked of the code and the test of the block lent are the two refusals. Assumes nothing.
use mathlib.Core.Path.{sym}
use Rattle.whole.proofs.Parameters.{codes}
use Rattle.engine.proofs.gate.block_stands.Goals as goal

pub returns-then-not-right : goal.returns-then-not-right
returns-then-not-right c = search codes

pub returns-then-number_is : goal.returns-then-number_is
returns-then-number_is c = rw (sym c.block_of.ensures.0) (search codes)

pub returns : goal.returns
returns c = rw (sym c.block_of.ensures.0) (search codes)
