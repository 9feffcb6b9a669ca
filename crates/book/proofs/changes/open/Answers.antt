-- `changes::open` meets its contract: kind and code are stored as they are. Assumes nothing.
use mir.Facts.{to_z-of_z}
use lib.ListN.{set}
use Rattle.book.specs.Changes.{opened}
use Rattle.book.proofs.changes.open.Goals as goal

pub returns : goal.returns
unfolding opened
returns c = λ t. set (set c.args.block.now 0 (to_z-of_z c.ranges.kind t)) 13 (to_z-of_z c.ranges.code t)
