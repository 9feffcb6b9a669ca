-- `rolling::rubles_fit` meets its contract: the sum of two numbers within 10^14 fits. Assumes nothing.
use mathlib.Core.Path.{ap, ◌∙◌}
use native.Mathlib.Omega.{arith}
use Rattle.book.specs.Rules.{rubles_right}
use Rattle.book.specs.Roll.{rolled_rubles}
use Rattle.book.proofs.Amounts.{summed}
use Rattle.book.proofs.rolling.rubles_fit.Goals as goal

pub returns : goal.returns
unfolding rolled_rubles
returns c = let r = c.requires in
    c.lies_between.ensures ∙ ap rubles_right (summed (r.each_within 0 (omega arith)) (r.each_within 1 (omega arith)))
