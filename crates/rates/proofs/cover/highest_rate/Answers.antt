-- `rates::cover::highest_rate` meets its contract: the rate that is read is the highest. Assumes nothing.
use native.Mathlib.Omega.{arith}
use mir.Facts.{to_z-of_z}
use Rattle.whole.proofs.InRange.{upto_back}
use Rattle.rates.specs.Row.{highest_rate}
use Rattle.rates.proofs.cover.highest_rate.Goals as goal

pub returns : goal.returns
unfolding highest_rate
returns c = let h = (c.requires.side 0 (omega arith)).highest_upto in (to_z-of_z h.fits, upto_back h)
