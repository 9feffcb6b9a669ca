-- `gate::is_raised` meets its contract. Assumes nothing.
use mathlib.Core.Path.{ap₂}
use lib.Signed.{lt_z}
use mir.Facts.{to_z-of_z}
use Rattle.engine.specs.Refused.{raised}
use Rattle.engine.proofs.gate.is_raised.Goals as goal

pub returns : goal.returns
unfolding raised
returns c = ap₂ lt_z (to_z-of_z c.ranges.before) (to_z-of_z c.ranges.after)
