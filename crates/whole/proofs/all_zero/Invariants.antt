-- `whole::all_zero` meets its contract: what was seen of the numbers before number x-index, and those from it on, is all of them. Assumes nothing.
use mathlib.Core.Path.{◌≡◌}
use mathlib.Core.Bool.{◌&&◌}
use lib.ListN.{drop}
use Rattle.whole.specs.Bounds.{is_zero}
use Rattle.whole.proofs.Lists.{all}
use Rattle.whole.proofs.all_zero.Given as goal

abbrev pub invariant-loop-x : goal.invariant-loop-x
invariant-loop-x l = all is_zero l.numbers ≡ l.zero && all is_zero (drop l.x-index l.numbers)
