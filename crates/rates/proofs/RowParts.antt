-- The parts of a row's marks, its terms, rates and limits, each passed with its count: what is left stands behind them. Of the rules of a row, and of an own
-- row's comparison with its clearing row.
-- Assumes nothing.
use mathlib.Core.Path.{◌≡◌, ◌∙◌}
use mathlib.Core.Bool.{Bool}
use mathlib.Core.List.{List, ◌++◌}
use lib.ListN.{length}
use Rattle.std.specs.Prelude.{Ok}
use Rattle.whole.specs.Marks.{check_from}
use Rattle.whole.proofs.Checks.{goes_on}
use Rattle.rates.specs.Row.{rates_at, limits_at, dates_at}

module _ (terms : List Bool) (six : length terms ≡ 6) {u : Unit {0}} (t : Ok u ≡ check_from 0 terms) where
  pub past_terms : (b : List Bool) → check_from rates_at b ≡ check_from 0 (terms ++ b)
  past_terms b = goes_on b 0 6 terms six t

  module _ (rates : List Bool) (four : length rates ≡ 4) {v : Unit {0}} (r : Ok v ≡ check_from rates_at rates) where
    pub past_rates : (b : List Bool) → check_from limits_at b ≡ check_from 0 (terms ++ (rates ++ b))
    past_rates b = goes_on b rates_at 4 rates four r ∙ past_terms (rates ++ b)

    pub past_limits : (limits : List Bool) → length limits ≡ 6 → {w : Unit {0}} → Ok w ≡ check_from limits_at limits
        → (b : List Bool) → check_from dates_at b ≡ check_from 0 (terms ++ (rates ++ (limits ++ b)))
    past_limits limits six' l b = goes_on b limits_at 6 limits six' l ∙ past_rates (limits ++ b)
