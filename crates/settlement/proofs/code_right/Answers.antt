-- `settlement::code_right` meets its contract: on no code the account's block decides, on one every block on it and their count. Assumes nothing.
use mathlib.Core.Path.{sym, ap, ◌∙◌}
use Rattle.whole.proofs.Tests.{passed}
use Rattle.book.specs.Rules.{good_block}
use Rattle.settlement.proofs.Alone.{no_code_unshared, alone_right}
use Rattle.std.proofs.Common.{rules}
use Rattle.settlement.specs.Code.{on_code, member_right, code_right}
use Rattle.settlement.proofs.Codes.{passing_few}
use Rattle.settlement.proofs.code_right.Goals as goal

pub returns-then-on_no_code : goal.returns-then-on_no_code
returns-then-on_no_code c =
    c.block_right.ensures ∙ ap good_block c.own.ensures
    ∙ sym (alone_right _ _ c.requires.below (no_code_unshared _ _ (passed c.on_no_code.ensures c.if-on_no_code.true)))

pub returns : goal.returns
unfolding code_right
returns c =
    let a = c.args in
    let passing = c.members_passing-members.ensures (member_right a.book.now a.i) (λ j r p. search rules) in
    passing_few (on_code a.book.now a.i) (member_right a.book.now a.i) _ passing c.is_some_and.ensures (λ n p. search rules)
