-- `gate::is_enough` meets its contract. Assumes nothing.
use mathlib.Core.Path.{ap}
use lib.IntN.{pos}
use lib.Signed.{le_z}
use mir.Facts.{to_z-of_z}
use Rattle.engine.specs.Refused.{enough}
use Rattle.engine.proofs.gate.is_enough.Goals as goal

pub returns : goal.returns
unfolding enough
returns c = ap (le_z (pos 0)) (to_z-of_z c.ranges.limit)
