-- `rules::holding_stands` meets its contract: of a listed asset the bounds are asked, and of an unlisted one zeros, which keep them. Assumes nothing.
use mathlib.Core.Path.{ap, ◌∙◌}
use Rattle.whole.specs.Marks.{all_zero}
use Rattle.whole.proofs.Tests.{passed, failed}
use Rattle.book.specs.Rules.{holding_right}
use Rattle.book.proofs.Good.{stands_listed, stands_unlisted}
use Rattle.book.proofs.rules.holding_stands.Goals as goal

pub returns-then-is_listed : goal.returns-then-is_listed
returns-then-is_listed c =
    c.holding_right.ensures ∙ ap holding_right c.holding_of-holding.ensures ∙ stands_listed _ _ c.args.a (passed c.is_listed.ensures c.if-is_listed.true)

pub returns : goal.returns
returns c =
    c.all_zero.ensures ∙ ap all_zero c.holding_of-holding.ensures ∙ stands_unlisted _ _ c.args.a (failed c.is_listed.ensures c.if-is_listed.false)
