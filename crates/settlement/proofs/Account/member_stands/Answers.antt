-- `settlement::Account::member_stands` meets its contract: the block lent is account j's. Assumes nothing.
use mathlib.Core.Path.{sym, ap, ◌∙◌}
use mathlib.Core.Bool.{Bool, ◌&&◌}
use mathlib.Core.List.{List}
use lib.IntN.{ℤ}
use Rattle.whole.proofs.Tests.{passed, failed, first_out, and_then}
use Rattle.book.specs.Rules.{good_block, holds_listed}
use Rattle.settlement.proofs.Right.{member_and_listed}
use Rattle.settlement.proofs.Account.member_stands.Goals as goal

-- what is asked of block j, beside its kind
abbrev stands : List ℤ → List ℤ → Bool
stands clearing block = good_block block && holds_listed block clearing

pub returns-then-block_stands : goal.returns-then-block_stands
returns-then-block_stands c =
    let asked = ap (stands c.args.clearing.now) (sym c.block.ensures) in
    and_then _ _ (asked ∙ passed c.block_stands.ensures c.if-block_stands.true) c.same_kind.ensures ∙ member_and_listed _ _ _ _

pub returns-else-block_stands : goal.returns-else-block_stands
returns-else-block_stands c =
    let asked = ap (stands c.args.clearing.now) (sym c.block.ensures) in
    c.if-block_stands.false ∙ sym (first_out _ _ (asked ∙ failed c.block_stands.ensures c.if-block_stands.false)) ∙ member_and_listed _ _ _ _
