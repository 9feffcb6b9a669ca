-- `changes::add` meets its contract: the sum of two numbers within 10^14 fits. Assumes nothing.
use mathlib.Core.Path.{ap}
use lib.IntN.{ℤ}
use lib.ListN.{set}
use Rattle.book.specs.Changes.{added}
use Rattle.book.proofs.Amounts.{summed}
use Rattle.book.proofs.changes.add.Goals as goal

pub returns : goal.returns
unfolding added
returns c = ap (λ (z : ℤ). set c.args.block.now c.args.k z) (summed c.requires.1 c.requires.2)
