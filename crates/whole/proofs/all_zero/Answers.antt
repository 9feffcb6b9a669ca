-- `whole::all_zero` meets its contract: what was seen of the numbers before number x-index, and those from it on, is all of them. Assumes nothing.
use mathlib.Core.Path.{sym, ap, ◌∙◌}
use mathlib.Core.Bool.{Bool, ◌&&◌}
use native.Mathlib.Omega.{arith}
use borrow.Author.Rules.{rules}
use lib.IntN.{pos}
use Rattle.whole.specs.Bounds.{is_zero}
use Rattle.whole.specs.Marks.{all_zero}
use Rattle.whole.proofs.Bounds.{same_bits}
use Rattle.whole.proofs.Lists.{and-true, all_seen, all_end}
use Rattle.whole.proofs.all_zero.Goals as goal

pub loop-x-preserved : goal.loop-x-preserved
loop-x-preserved c =
    let l = c.loop-x in
    let h = c.loop-x-test in
    l.invariant ∙ all_seen is_zero (pos 0) _ l.x-index l.zero _ (omega arith) (same_bits (search rules) (search rules))

pub returns : goal.returns
unfolding all_zero
returns c =
    let l = c.loop-x in
    sym (l.invariant ∙ ap (λ (rest : Bool). l.zero && rest) (all_end is_zero (pos 0) _ l.x-index (omega arith)) ∙ and-true l.zero)
