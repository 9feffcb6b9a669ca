-- `rules::all_between` meets its contract: each number is asked, and the marks are all true where it passes. Assumes nothing.
use mathlib.Core.Path.{◌∙◌}
use mathlib.Core.Bool.{Bool}
use lib.IntN.{ℤ}
use borrow.Author.Tests.{tests}
use Rattle.std.proofs.Common.{rules}
use Rattle.std.proofs.lemmas.Iterator.{YieldsList-from_slice}
use Rattle.std.proofs.lemmas.Iterator.Search.{all_from_yields_List}
use Rattle.whole.specs.Bounds.{between}
use Rattle.book.proofs.Asked.{all_marks}
use Rattle.book.proofs.rules.all_between.Goals as goal

pub returns : goal.returns
returns c =
    let a = c.args in
    let lies : ℤ → Bool = λ x. between a.low x a.high in
    all_from_yields_List lies _ _ c.all.result c.all.ensures.ran (YieldsList-from_slice a.numbers.now cc) (λ x b q k. search (rules, tests))
    ∙ all_marks lies a.numbers.now
