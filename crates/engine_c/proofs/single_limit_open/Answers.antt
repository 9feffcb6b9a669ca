-- `engine_c::single_limit_open` meets its contract: it hands its numbers on, and the engine's outcome back. Assumes nothing.
use mir.Facts.{to_z-of_z}
use Rattle.engine_c.proofs.single_limit_open.Goals as goal

pub returns : goal.returns
returns c = let f = c.ranges in rw c.code.ensures (simp (to_z-of_z f.account, to_z-of_z f.kind, to_z-of_z f.code) at c.«open».ensures)
