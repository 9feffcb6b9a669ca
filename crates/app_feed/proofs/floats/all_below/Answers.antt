-- `floats::all_below` meets its contract: each figure is asked, and the marks are all true where it passes. Assumes nothing.
use mathlib.Core.Path.{ap, ◌∙◌}
use mathlib.Core.List.{List, map}
use lib.IntN.{ℤ}
use borrow.Author.Tests.{tests}
use Rattle.std.proofs.Common.{rules}
use Rattle.std.proofs.lemmas.Iterator.{YieldsList-from_slice}
use Rattle.std.proofs.lemmas.Iterator.Search.{all_from_yields_List}
use Rattle.whole.specs.Marks.{all_true}
use Rattle.app_feed.specs.Floats.{is_below, all_below}
use Rattle.book.proofs.Asked.{all_marks}
use Rattle.app_feed.proofs.floats.all_below.Goals as goal

pub returns : goal.returns
unfolding all_below
returns c =
    all_from_yields_List is_below _ _ c.all.result c.all.ensures.ran (YieldsList-from_slice c.five.result cc) (λ x b q k. search (rules, tests))
    ∙ all_marks is_below c.five.result
    ∙ ap (λ (xs : List ℤ). all_true (map is_below xs)) c.five.ensures
