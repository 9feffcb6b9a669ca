-- `rules::holding_right` meets its contract: the collateral, then the rest of the holding. Assumes nothing.
use mathlib.Core.Path.{sym, ap, ◌∙◌}
use mathlib.Core.List.{List, map}
use lib.IntN.{ℤ}
use Rattle.whole.specs.Marks.{all_true}
use Rattle.whole.proofs.Tests.{passed, failed, first_out, and_then}
use Rattle.book.specs.Rules.{quantity_right, holding_right}
use Rattle.whole.proofs.Parts.{up_to}
use Rattle.book.proofs.rules.holding_right.Goals as goal

pub returns-then-number_between : goal.returns-then-number_between
unfolding holding_right
returns-then-number_between c =
    and_then _ _ (passed c.number_between.ensures c.if-number_between.true)
    (c.all_between.ensures ∙ ap (λ (l : List ℤ). all_true (map quantity_right l)) (up_to 1 17 c.args.holding.now c.told-holding))

pub returns-else-number_between : goal.returns-else-number_between
unfolding holding_right
returns-else-number_between c = c.if-number_between.false ∙ sym (first_out _ _ (failed c.number_between.ensures c.if-number_between.false))
