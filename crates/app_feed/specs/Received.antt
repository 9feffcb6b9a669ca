-- Document 02, #102: "reading those gives the same bits". Five numbers read as a record; another count is a wrong length. A NaN's pattern is out of
-- bounds: the language has one NaN and not its bits, and no feed writes one. Zeros when refused.
-- Assumes nothing.
use Rattle.std.specs.Prelude.{Bool, not, List, [], ◌∷◌, map, ℕ, Result, Ok, Err, eqb, length, Float}
use Rattle.std.specs.Float.{binary64}
use Rattle.std.specs.Float.Ieee.{nan_bits}
use Rattle.whole.specs.Marks.{all_true}
use Rattle.whole.specs.Refusals.{Refusal, ◌gives◌, first_code, leaves, wrong_length, out_of_bounds}
use Rattle.whole.specs.Codes.{refusal_code}
use Rattle.whole.specs.declared.codes.Refusal as refused
use Rattle.engine.specs.Report.{no_figures}
use Rattle.app_feed.specs.Floats.{floats_of, floats_at}
use Rattle.figures.specs.declared.limit.Figures.{Figures}

-- what is read: the code and the five floats
pub record Received : Type 0 where
  pub code : ℕ
  pub figures : Figures Float

-- a number that is the pattern of a float, and not of a NaN
abbrev pub is_pattern : ℕ → Bool
is_pattern bits = not (nan_bits binary64 bits)

abbrev pub read_refusals : List ℕ → List Refusal
read_refusals bits =
    not (eqb (length bits) 5) gives wrong_length
    ∷ not (all_true (map is_pattern bits)) gives out_of_bounds
    ∷ []

unfoldable pub received_of : List ℕ → Received
received_of bits =
    let code = first_code (read_refusals bits) in
    record { code = code; figures = leaves code (floats_at bits) (floats_of no_figures) }

-- as code answers it: the five floats, or what turned the numbers away
abbrev pub received_as : Result (Figures Float) refused.Refusal → Received
received_as (Ok found) = record { code = 0; figures = found }
received_as (Err refusal) = record { code = refusal_code refusal; figures = floats_of no_figures }
