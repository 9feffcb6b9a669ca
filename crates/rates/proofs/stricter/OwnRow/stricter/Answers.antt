-- `rates::stricter::OwnRow::stricter` meets its contract: the parts before the one with the first laxer number are passed, each with its count; numbers 56
-- to 63 are asked for nothing. Assumes nothing.
use mathlib.Core.Path.{refl, ◌∙◌}
use mathlib.Core.Bool.{true}
use lib.ListN.{replicate}
use Rattle.whole.specs.Marks.{all_true}
use Rattle.whole.proofs.Checks.{stops_at, last_unasked, handed_on}
use Rattle.rates.specs.Row.{rates_at, limits_at}
use Rattle.rates.specs.Stricter.{stricter_row}
use Rattle.rates.proofs.Counts.{stricter_terms_count, stricter_rates_count, stricter_limits_count}
use Rattle.rates.proofs.RowParts.{past_terms, past_rates, past_limits}
use Rattle.rates.proofs.stricter.OwnRow.stricter.Goals as goal

pub returns-in_err-stricter_terms : goal.returns-in_err-stricter_terms
unfolding stricter_row
returns-in_err-stricter_terms c = handed_on _ c.from_residual.ensures ∙ stops_at _ 0 _ c.in_err-stricter_terms.ensures

pub returns-in_err-stricter_rates : goal.returns-in_err-stricter_rates
unfolding stricter_row
returns-in_err-stricter_rates c =
    handed_on _ c.from_residual-in_err-stricter_rates.ensures
    ∙ stops_at _ rates_at _ c.in_err-stricter_rates.ensures
    ∙ past_terms _ (stricter_terms_count _ _) c.in_ok-stricter_terms.ensures _

pub returns-in_err-stricter_limits : goal.returns-in_err-stricter_limits
unfolding stricter_row
returns-in_err-stricter_limits c =
    handed_on _ c.from_residual-in_err-stricter_limits.ensures
    ∙ stops_at _ limits_at _ c.in_err-stricter_limits.ensures
    ∙ past_rates _ (stricter_terms_count _ _) c.in_ok-stricter_terms.ensures _ (stricter_rates_count _ _) c.in_ok-stricter_rates.ensures _

pub returns : goal.returns
unfolding stricter_row all_true
returns c =
    c.stricter_dates.ensures
    ∙ last_unasked _ _ (replicate 8 true) refl
    ∙ past_limits _ (stricter_terms_count _ _) c.in_ok-stricter_terms.ensures _ (stricter_rates_count _ _) c.in_ok-stricter_rates.ensures _ (stricter_limits_count _ _) c.in_ok-stricter_limits.ensures _
