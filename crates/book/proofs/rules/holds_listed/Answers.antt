-- `rules::holds_listed` meets its contract: each asset is asked. Assumes nothing.
use mathlib.Core.Path.{◌∙◌, refl}
use borrow.Author.Tests.{tests}
use Rattle.std.proofs.Common.{rules}
use Rattle.std.proofs.lemmas.Iterator.{YieldsList-from_range}
use Rattle.std.proofs.lemmas.Iterator.Search.{all_from_yields_List}
use Rattle.book.specs.Rules.{listed_if_held, holds_listed}
use Rattle.book.proofs.Asked.{all_asked}
use Rattle.book.proofs.rules.holds_listed.Goals as goal

pub returns : goal.returns
unfolding holds_listed
returns c =
    let test = listed_if_held c.args.block.now c.args.clearing.now in
    all_from_yields_List test _ _ c.all.result c.all.ensures.ran (YieldsList-from_range 0 16 16 refl refl) (λ x b q k. search (rules, tests))
    ∙ all_asked test 16
