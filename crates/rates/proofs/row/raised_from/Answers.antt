-- `rates::row::raised_from` meets its contract: the two numbers fit, so they are read back as they are.
-- Assumes nothing.
use mathlib.Core.Path.{◌∙◌}
use mir.Facts.{sfits_lit}
use borrow.Author.Rules.{sfits_of}
use Rattle.rates.specs.Units.{the_whole}
use Rattle.whole.proofs.Bounds.{between_back}
use Rattle.rates.proofs.row.raised_from.Goals as goal

pub returns : goal.returns
returns c =
    let base = sfits_of c.lies_between-arg-1.given in
    let raised = sfits_of c.lies_between-arg-2-1.given in
    c.lies_between.ensures ∙ between_back {high = the_whole} base raised (sfits_lit tt)
