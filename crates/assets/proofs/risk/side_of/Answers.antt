-- `risk::side_of` meets its contract: a position below 0 is charged as the rate rises. Assumes nothing.
use native.Mathlib.Omega.{arith}
use mir.Facts.{to_z-of_z}
use Rattle.assets.specs.Risk.{side_of}
use Rattle.assets.proofs.risk.side_of.Goals as goal

pub returns-then-position-lt0 : goal.returns-then-position-lt0
unfolding side_of
returns-then-position-lt0 c = (simp (simp (to_z-of_z c.ranges.position) at c.if-position-lt0.true), omega arith)

pub returns : goal.returns
unfolding side_of
returns c = (simp (simp (to_z-of_z c.ranges.position) at c.if-position-lt0.false), omega arith)
