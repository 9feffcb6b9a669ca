-- Document 02, #102: the feed. What a report is lent, and five lent 64-bit numbers; out go the report's code, its figures as floats and the gauge, and
-- unless refused the floats' bits in the five numbers.
-- Assumes nothing.
use Rattle.std.specs.Prelude.{not, List, [], ◌∷◌, ◌++◌, ℕ, Result, Ok, Err, eqb, length, Float}
use Rattle.std.specs.Borrow.{MutBor}
use denote.Triple.Both.{Both}
use Rattle.whole.specs.Refusals.{Refusal, ◌gives◌, first_code, leaves, wrong_length, out_of_bounds}
use Rattle.whole.specs.Codes.{refusal_code}
use Rattle.whole.specs.declared.codes.Refusal as refused
use Rattle.rates.specs.Lent.{Tables}
use Rattle.engine.specs.State.{State}
use Rattle.engine.specs.Refused.{report_refusals, figures_at}
use Rattle.engine.specs.Report.{Reported, answer_of, no_figures}
use Rattle.app_feed.specs.Floats.{floats_of, bits_of, all_below}
use Rattle.app_feed.specs.Gauge.{gauge_of}
use Rattle.app_feed.specs.declared.feeding.Fed.{Fed as Feeding}
use Rattle.figures.specs.declared.limit.Figures.{Figures}
use Rattle.app_feed.specs.declared.gauge.Gauge.{Gauge}

-- another count than five is a wrong length, before all else; then the report's codes; then 9 where a figure is 2^53 or more in size (#104)
abbrev pub feed_refusals : Tables → ℕ → State → ℕ → List Refusal
feed_refusals tables i s count =
    not (eqb count 5) gives wrong_length
    ∷ (report_refusals tables i s ++ (not (all_below (figures_at tables i s)) gives out_of_bounds ∷ []))

-- what goes out: the report's code, its figures as floats and the gauge
pub record Fed : Type 0 where
  pub code : ℕ
  pub figures : Figures Float
  pub gauge : Gauge

-- a report as the app takes it; of a refused one, whose figures are zeros, zeros and the empty gauge
unfoldable pub fed_of : Reported → Fed
fed_of reported = record { code = reported.code; figures = floats_of reported.figures; gauge = gauge_of reported.figures }

-- as code answers it: figures and gauge, or what turned the feed away
abbrev pub fed_as : Result Feeding refused.Refusal → Fed
fed_as (Ok fed) = record { code = 0; figures = fed.figures; gauge = fed.gauge }
fed_as (Err refusal) = fed_of (record { code = refusal_code refusal; figures = no_figures })

-- ---- what the call answers and leaves in the five numbers
pub record Sent : Type 0 where
  pub fed : Fed
  pub bits : List ℕ

-- as a contract names it; numbers that are lent are a pair, as they were found and as they were left
abbrev pub LentBits : Type 0
LentBits = Both (MutBor (List ℕ)) (MutBor (List ℕ))

abbrev pub sent : Fed → LentBits → Sent
sent fed bits = record { fed = fed; bits = bits.exit.now }

unfoldable pub sent_of : Tables → ℕ → State → List ℕ → Sent
sent_of tables i s bits =
    let fed = fed_of (answer_of (first_code (feed_refusals tables i s (length bits))) (figures_at tables i s)) in
    record { fed = fed; bits = leaves fed.code (bits_of fed.figures) bits }
