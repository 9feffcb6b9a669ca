-- `engine_c::single_limit_check_tables` meets its contract: code and place are the check's. Assumes nothing.
use mathlib.Core.Path.{ap, ◌∙◌}
use Rattle.whole.specs.Codes.{refusal_code}
use Rattle.rates.specs.Tables.{Checked, checked}
use Rattle.engine_c.proofs.single_limit_check_tables.Goals as goal

pub returns-in-Ok : goal.returns-in-Ok
unfolding checked
returns-in-Ok c = (ap (λ (r : Checked). r.code) c.in-Ok.ensures, ap (λ (r : Checked). r.place) c.in-Ok.ensures)

pub returns-in-Err : goal.returns-in-Err
unfolding checked
returns-in-Err c = let h = c.in-Err.ensures in (
  c.from-in-Err.ensures ∙ ap refusal_code c.from.ensures ∙ ap (λ (r : Checked). r.code) h,
  c.place.ensures ∙ ap (λ (r : Checked). r.place) h,
)
