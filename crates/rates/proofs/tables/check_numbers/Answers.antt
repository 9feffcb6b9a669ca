-- `rates::tables::check_numbers` meets its contract: the clearing table is passed with 1,024 numbers, then the own table, then come the groups.
-- Assumes nothing.
use mathlib.Core.Path.{◌∙◌}
use Rattle.whole.proofs.Checks.{goes_on, stops_at, handed_on}
use Rattle.rates.specs.Units.{table_length}
use Rattle.rates.specs.Tables.{table_marks}
use Rattle.rates.proofs.Counts.{clearing_count, own_count}
use Rattle.rates.proofs.tables.check_numbers.Goals as goal

pub returns-in_err-check_clearing : goal.returns-in_err-check_clearing
unfolding table_marks
returns-in_err-check_clearing c = handed_on _ c.from_residual.ensures ∙ stops_at _ 0 _ c.in_err-check_clearing.ensures

pub returns-in_err-check_own : goal.returns-in_err-check_own
unfolding table_marks
returns-in_err-check_own c =
    handed_on _ c.from_residual-in_err-check_own.ensures
    ∙ stops_at _ table_length _ c.in_err-check_own.ensures
    ∙ goes_on _ 0 table_length _ (clearing_count _ c.told-clearing) c.in_ok-check_clearing.ensures

pub returns : goal.returns
unfolding table_marks
returns c =
    c.check_between.ensures
    ∙ goes_on _ table_length table_length _ (own_count _ _ c.told-own) c.in_ok-check_own.ensures
    ∙ goes_on _ 0 table_length _ (clearing_count _ c.told-clearing) c.in_ok-check_clearing.ensures
