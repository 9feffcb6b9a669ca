-- Document 01, "report": the code, and the five figures of the account; zeros when refused.
-- Assumes nothing.
use Rattle.std.specs.Prelude.{ℕ, Result, Ok, Err, ℤ, pos}
use Rattle.whole.specs.Refusals.{first_code, leaves}
use Rattle.whole.specs.Codes.{refusal_code}
use Rattle.whole.specs.declared.codes.Refusal.{Refusal}
use Rattle.rates.specs.Lent.{Tables}
use Rattle.figures.specs.declared.limit.Figures.{Figures}
use Rattle.engine.specs.State.{State}
use Rattle.engine.specs.Refused.{report_refusals, figures_at}

-- what a report answers: its code, and the five figures
pub record Reported : Type 0 where
  pub code : ℕ
  pub figures : Figures ℤ

abbrev pub no_figures : Figures ℤ
no_figures = record { valuation = pos 0; market = pos 0; interest = pos 0; discount = pos 0; limit = pos 0 }

-- figures that a code lets be seen
abbrev pub answer_of : ℕ → Figures ℤ → Reported
answer_of code found = record { code = code; figures = leaves code found no_figures }

unfoldable pub report_of : Tables → ℕ → State → Reported
report_of tables i s = answer_of (first_code (report_refusals tables i s)) (figures_at tables i s)

-- as code answers it: figures, or what turned the report away
abbrev pub reported_as : Result (Figures ℤ) Refusal → Reported
reported_as (Ok found) = record { code = 0; figures = found }
reported_as (Err refusal) = record { code = refusal_code refusal; figures = no_figures }
