-- `settlement::Account::on_code` meets its contract: the account itself is on its code, any other by number 13 of the two blocks lent. Assumes nothing.
use mathlib.Core.Path.{sym, ap, ◌∙◌}
use borrow.Author.Rules.{rules}
use mir.Syntax.{w64}
use mir.Facts.{to_z-of_z}
use Rattle.whole.specs.Bounds.{between}
use Rattle.whole.proofs.Tests.{passed, failed}
use Rattle.book.specs.Block.{settlement_code}
use Rattle.settlement.proofs.Codes.{on_as_itself, off_no_code, on_by_code}
use Rattle.settlement.proofs.Account.on_code.Goals as goal

pub returns-then-self-j : goal.returns-then-self-j
returns-then-self-j c = on_as_itself _ _ _ c.if-self-j.true

pub returns-then-on_no_code : goal.returns-then-on_no_code
returns-then-on_no_code c = off_no_code _ _ _ c.if-self-j.false (passed c.on_no_code.ensures c.if-on_no_code.true)

pub returns : goal.returns
returns c =
    let code = sym (ap settlement_code c.own-own.ensures) ∙ sym (to_z-of_z {w = w64} (search rules)) in
    let other = sym (ap settlement_code c.block.ensures) in
    on_by_code _ _ _ c.if-self-j.false (failed c.on_no_code.ensures c.if-on_no_code.false)
    (c.number_is.ensures ∙ sym (λ t. between (code t) (other t) (code t)))
