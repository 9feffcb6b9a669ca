-- `rates::row::check_listed` meets its contract: the parts before the one with the first broken number are passed, each with its count.
-- Assumes nothing.
use mathlib.Core.Path.{◌≡◌, ap, ◌∙◌}
use mathlib.Core.List.{List, map}
use lib.IntN.{ℤ}
use Rattle.std.specs.Prelude.{Ok}
use Rattle.whole.specs.Bounds.{◌upto◌, is_zero}
use Rattle.whole.specs.Marks.{check_from}
use Rattle.whole.proofs.Rules.{ints}
use Rattle.whole.proofs.Bounds.{amid}
use Rattle.whole.proofs.Marks.{all_at}
use Rattle.whole.proofs.Parts.{up_to}
use Rattle.whole.proofs.Checks.{ok_says, goes_on, stops_at, handed_on}
use Rattle.rates.specs.Row.{price, rates_at, limits_at, dates_at}
use Rattle.rates.specs.Rules.{term_marks, listed_marks}
use Rattle.rates.proofs.Counts.{terms_count, rates_count, limits_count, dates_count}
use Rattle.rates.proofs.RowParts.{past_terms, past_rates, past_limits}
use Rattle.rates.proofs.row.check_listed.Goals as goal

price_right : (row : List ℤ) {u : Unit {0}} → Ok u ≡ check_from 0 (term_marks row) → price row upto 10000000
unfolding term_marks
price_right row t = let p = amid (all_at (term_marks row) (ok_says 0 _ t) 1) in record { low = omega ints; high = p.to; fits = omega ints }

pub returns-in_err-check_terms : goal.returns-in_err-check_terms
unfolding listed_marks
returns-in_err-check_terms c = handed_on _ c.from_residual.ensures ∙ stops_at _ 0 _ c.in_err-check_terms.ensures

pub returns-in_err-check_rates : goal.returns-in_err-check_rates
unfolding listed_marks
returns-in_err-check_rates c =
    handed_on _ c.from_residual-in_err-check_rates.ensures
    ∙ stops_at _ rates_at _ c.in_err-check_rates.ensures
    ∙ past_terms _ (terms_count _) c.in_ok-check_terms.ensures _

pub returns-in_err-check_limits : goal.returns-in_err-check_limits
unfolding listed_marks
returns-in_err-check_limits c =
    handed_on _ c.from_residual-in_err-check_limits.ensures
    ∙ stops_at _ limits_at _ c.in_err-check_limits.ensures
    ∙ past_rates _ (terms_count _) c.in_ok-check_terms.ensures _ (rates_count _) c.in_ok-check_rates.ensures _

pub check_dates-requires : goal.check_dates-requires
check_dates-requires c = price_right _ c.in_ok-check_terms.ensures

pub returns-in_err-check_dates : goal.returns-in_err-check_dates
unfolding listed_marks
returns-in_err-check_dates c =
    handed_on _ c.from_residual-in_err-check_dates.ensures
    ∙ stops_at _ dates_at _ c.in_err-check_dates.ensures
    ∙ past_limits _ (terms_count _) c.in_ok-check_terms.ensures _ (rates_count _) c.in_ok-check_rates.ensures _ (limits_count _) c.in_ok-check_limits.ensures _

pub returns : goal.returns
unfolding listed_marks
returns c =
    c.check_zeros.ensures
    ∙ ap (λ (l : List ℤ). check_from 56 (map is_zero l)) (up_to 56 64 c.args.row.now c.told-row)
    ∙ goes_on _ dates_at 40 _ (dates_count _) c.in_ok-check_dates.ensures
    ∙ past_limits _ (terms_count _) c.in_ok-check_terms.ensures _ (rates_count _) c.in_ok-check_rates.ensures _ (limits_count _) c.in_ok-check_limits.ensures _
