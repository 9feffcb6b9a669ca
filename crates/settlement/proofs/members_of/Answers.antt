-- `settlement::members_of` meets its contract: an account on no code is its own list. Assumes nothing.
use mathlib.Core.Path.{sym, ◌∙◌}
use Rattle.whole.proofs.Tests.{passed}
use Rattle.settlement.proofs.Right.{own_in_range}
use Rattle.settlement.proofs.Alone.{no_code_unshared, alone_in_list}
use Rattle.settlement.proofs.members_of.Goals as goal

pub alone-requires : goal.alone-requires
alone-requires c = own_in_range _ _ c.requires

pub returns-then-on_no_code : goal.returns-then-on_no_code
returns-then-on_no_code c =
    c.alone.ensures
    ∙ sym (alone_in_list c.args.book.now c.args.i c.requires.below (no_code_unshared _ _ (passed c.on_no_code.ensures c.if-on_no_code.true)))
