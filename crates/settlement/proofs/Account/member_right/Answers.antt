-- `settlement::Account::member_right` meets its contract: the block lent is account j's. Assumes nothing.
use mathlib.Core.Path.{sym, ap, ◌∙◌}
use Rattle.whole.proofs.Tests.{passed, failed, first_out, and_then}
use Rattle.book.specs.Rules.{good_block}
use Rattle.settlement.specs.Code.{member_right}
use Rattle.settlement.proofs.Account.member_right.Goals as goal

pub returns-then-block_right : goal.returns-then-block_right
unfolding member_right
returns-then-block_right c =
    and_then _ _ (ap good_block (sym c.block.ensures) ∙ passed c.block_right.ensures c.if-block_right.true) c.same_kind.ensures

pub returns-else-block_right : goal.returns-else-block_right
unfolding member_right
returns-else-block_right c =
    c.if-block_right.false ∙ sym (first_out _ _ (ap good_block (sym c.block.ensures) ∙ failed c.block_right.ensures c.if-block_right.false))
