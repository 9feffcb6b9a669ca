-- `settlement::code_holds_listed` meets its contract: on no code the account's block decides. Assumes nothing.
use mathlib.Core.Path.{sym, ap, ◌∙◌}
use mathlib.Core.List.{List}
use lib.IntN.{ℤ}
use Rattle.whole.proofs.Tests.{passed}
use Rattle.book.specs.Rules.{holds_listed}
use Rattle.settlement.proofs.Alone.{no_code_unshared, alone_holds_listed}
use Rattle.std.proofs.Common.{rules, ℕ, Bool}
use Rattle.std.specs.Option.{is_some}
use Rattle.book.specs.Block.{block_of}
use Rattle.settlement.specs.Code.{on_code, code_holds_listed}
use Rattle.settlement.proofs.Codes.{passing_some}
use Rattle.settlement.proofs.code_holds_listed.Goals as goal

pub returns-then-on_no_code : goal.returns-then-on_no_code
returns-then-on_no_code c =
    c.holds_listed.ensures
    ∙ ap (λ (b : List ℤ). holds_listed b c.args.clearing.now) c.own.ensures
    ∙ sym (alone_holds_listed _ _ c.requires.below (no_code_unshared _ _ (passed c.on_no_code.ensures c.if-on_no_code.true)) _)

pub returns : goal.returns
unfolding code_holds_listed
returns c =
    let a = c.args in
    let test : ℕ → Bool = λ j. holds_listed (block_of a.book.now j) a.clearing.now in
    c.is_some.ensures ∙ ap is_some (c.members_passing-members.ensures test (λ j r p. search rules)) ∙ passing_some (on_code a.book.now a.i) test
