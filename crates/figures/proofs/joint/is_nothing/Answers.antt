-- `joint::is_nothing` meets its contract: collateral that is not zero is one of the holding's numbers. Assumes nothing.
use mathlib.Core.Path.{sym}
use native.Mathlib.Omega.{arith}
use lib.IntN.{pos}
use Rattle.whole.specs.Bounds.{is_zero}
use Rattle.whole.specs.Marks.{all_zero}
use Rattle.whole.proofs.Tests.{taken}
use Rattle.whole.proofs.Lists.{all_out}
use Rattle.figures.proofs.joint.is_nothing.Goals as goal

pub returns-then-not-number_is : goal.returns-then-not-number_is
unfolding all_zero
returns-then-not-number_is c = sym (all_out is_zero (pos 0) c.args.holding.now 0 (omega arith) (taken c.number_is.ensures c.if-not-number_is.true-raw))

pub returns : goal.returns
returns c = c.all_zero.ensures
