-- `rates::in_force::row_of_sound` meets its contract: the first number of the own row is its kind, and that row is absent exactly where it has none.
-- Assumes nothing.
use mathlib.Core.Path.{◌≡◌, sym, ap, ◌∙◌}
use Rattle.whole.specs.Bounds.{is_zero}
use Rattle.rates.specs.Tables.{row_of, absent}
use Rattle.rates.proofs.Lookup.{from_own, from_clearing}
use Rattle.rates.proofs.in_force.Listed.{kind_at}
use Rattle.rates.proofs.in_force.row_of_sound.Goals as goal
use Rattle.rates.proofs.in_force.row_of_sound.Goals.{After-number_is}

-- what was asked of the own row
asked : (c : After-number_is) → absent (row_of c.args.own.now c.args.asset) ≡ c.number_is.result
asked c = c.requires.3 ∙ ap is_zero (kind_at _ _) ∙ sym c.number_is.ensures

pub returns-then-number_is : goal.returns-then-number_is
returns-then-number_is c = c.row_of.ensures ∙ sym (from_clearing _ _ _ (asked c.before.before.before ∙ c.if-number_is.true))

pub returns : goal.returns
returns c = c.row_of-2.ensures ∙ sym (from_own _ _ _ (asked c.before.before.before ∙ c.if-number_is.false))
