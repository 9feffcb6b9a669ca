-- `settlement::code_stands` meets its contract: on no code the account's block decides, on one every block on it and their count. Assumes nothing.
use mathlib.Core.Path.{sym, ap, ap₂, ◌∙◌}
use mathlib.Core.Bool.{◌&&◌}
use mathlib.Core.List.{List}
use lib.IntN.{ℤ}
use Rattle.whole.proofs.Tests.{passed}
use Rattle.book.specs.Rules.{good_block, holds_listed}
use Rattle.settlement.proofs.Alone.{no_code_unshared, alone_right, alone_holds_listed}
use Rattle.std.proofs.Common.{rules, ℕ, Bool}
use Rattle.book.specs.Block.{block_of}
use Rattle.settlement.specs.Code.{on_code, member_right}
use Rattle.settlement.proofs.Codes.{passing_few}
use Rattle.settlement.proofs.Right.{right_and_listed}
use Rattle.settlement.proofs.code_stands.Goals as goal

pub returns-then-on_no_code : goal.returns-then-on_no_code
returns-then-on_no_code c =
    let alone = no_code_unshared _ _ (passed c.on_no_code.ensures c.if-on_no_code.true) in
    c.block_stands.ensures
    ∙ ap (λ (b : List ℤ). good_block b && holds_listed b c.args.clearing.now) c.own.ensures
    ∙ sym (ap₂ ◌&&◌ (alone_right _ _ c.requires.below alone) (alone_holds_listed _ _ c.requires.below alone _))

pub returns : goal.returns
returns c =
    let a = c.args in
    let test : ℕ → Bool = λ j. member_right a.book.now a.i j && holds_listed (block_of a.book.now j) a.clearing.now in
    let passing = c.members_passing-members.ensures test (λ j r p. search rules) in
    passing_few (on_code a.book.now a.i) test _ passing c.is_some_and.ensures (λ n p. search rules) ∙ right_and_listed a.book.now a.i a.clearing.now
