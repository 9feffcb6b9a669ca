-- `Row::group_of` meets its contract: the number of the group, from 0 to 8, as an index. Assumes nothing.
use mathlib.Core.Path.{ap}
use lib.IntN.{nat_abs}
use mir.Facts.{to_z-of_z}
use Rattle.whole.proofs.PlusMinus.{abs_is, one_is_zero}
use Rattle.whole.proofs.Machine.{back}
use Rattle.whole.proofs.Rules.{ints}
use Rattle.rates.specs.Row.{spread_group}
use Rattle.assets.specs.Part.{group_of}
use Rattle.assets.proofs.lent.Row.group_of.Goals as goal

pub overflow_cast-result : goal.overflow_cast-result
overflow_cast-result c = let h = c.args.self.in_range.group_upto in omega ints

pub returns : goal.returns
unfolding group_of
returns c =
    let h = c.args.self.in_range.group_upto in
    let group = back (spread_group c.args.self.numbers.now) in
    (ap nat_abs (to_z-of_z h.fits), omega (ints, abs_is group, one_is_zero group))
