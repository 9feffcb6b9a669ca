-- `limit::rubles_of` meets its contract: it sums the nine ruble numbers, which stand from place 1 on. Assumes nothing.
use native.Mathlib.Omega.{arith}
use Rattle.whole.specs.Parts.{part}
use Rattle.whole.proofs.Summing.{withins, from_list, sum_fits, sum_made}
use Rattle.book.specs.Block.{ruble_numbers}
use Rattle.figures.specs.Limit.{rubles_of}
use Rattle.figures.proofs.limit.rubles_of.Goals as goal

pub sum-requires-clause-fits : goal.sum-requires-clause-fits
unfolding part
sum-requires-clause-fits c =
    let rubles = c.requires.rubles_range in
    sum_fits withins {B = 100000000000000} {n = 9} (from_list (ruble_numbers c.args.block.now) rubles.long c.iter.ensures.rest) (omega arith) rubles.each_within

pub returns : goal.returns
unfolding rubles_of part
returns c =
    let rubles = c.requires.rubles_range in
    sum_made withins {B = 100000000000000} {n = 9} (from_list (ruble_numbers c.args.block.now) rubles.long c.iter.ensures.rest) (omega arith) rubles.each_within c.sum.ensures.ran
