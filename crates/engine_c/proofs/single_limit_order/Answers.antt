-- `engine_c::single_limit_order` meets its contract: it hands its numbers on, and the engine's outcome back. Assumes nothing.
use mir.Facts.{to_z-of_z}
use Rattle.engine_c.proofs.single_limit_order.Goals as goal

pub returns : goal.returns
returns c = let f = c.ranges in rw c.code.ensures (simp (to_z-of_z f.account, to_z-of_z f.asset, to_z-of_z f.date, to_z-of_z f.side, to_z-of_z f.quantity, to_z-of_z f.money) at c.order.ensures)
