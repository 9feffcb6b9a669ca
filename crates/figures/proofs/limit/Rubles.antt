-- How much the rubles of a block can be: nine numbers of at most 10^14 each. Assumes nothing.
use mathlib.Core.List.{List}
use native.Mathlib.Omega.{arith}
use lib.IntN.{ℤ}
use Rattle.whole.specs.Bounds.{◌within◌}
use Rattle.whole.specs.Parts.{number}
use Rattle.whole.proofs.Sums.{sum_within}
use Rattle.book.specs.Block.{ruble_numbers}
use Rattle.book.specs.Ranges.{BlockRanges}
use Rattle.figures.specs.Limit.{rubles_of}

pub rubles_within : (block : List ℤ) → BlockRanges block → rubles_of block within 900000000000000
unfolding rubles_of
rubles_within block good = sum_within 100000000000000 9 (number (ruble_numbers block)) (omega arith) good.rubles_range.each_within
