-- `risk::sum_of` meets its contract: it sums over eight dates, at most eight million each. Assumes nothing.
use native.Mathlib.Omega.{arith}
use Rattle.whole.proofs.Summing.{withins, from_list, sum_fits, sum_made}
use Rattle.assets.specs.Risk.{position_sum}
use Rattle.assets.proofs.risk.sum_of.Goals as goal

pub sum-requires-clause-fits : goal.sum-requires-clause-fits
sum-requires-clause-fits c = sum_fits withins {B = 8000000} (from_list _ c.requires.size c.iter.ensures.rest) (omega arith) c.requires.each

pub returns : goal.returns
unfolding position_sum
returns c = sum_made withins {B = 8000000} (from_list _ c.requires.size c.iter.ensures.rest) (omega arith) c.requires.each c.sum.ensures.ran
