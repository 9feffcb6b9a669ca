-- Document 02, #102: the gauge of the app's first screen, one of three.
-- Assumes nothing.
use Rattle.std.specs.Prelude.{◌≡◌, cond, ℕ, ℤ, pos, neg_ℤ, ◌+ℤ◌, ◌-ℤ◌, ◌≤ℤ◌, Float}
use Rattle.std.specs.Int.Signed.{le_z, lt_z}
use Rattle.std.specs.Float.{binary64}
use Rattle.std.specs.Float.Ieee.{div}
use Rattle.figures.specs.declared.limit.Figures.{Figures}
use Rattle.app_feed.specs.Floats.{float}
use Rattle.app_feed.specs.declared.gauge.Gauge.{Gauge}
use Rattle.app_feed.specs.declared.gauge.Gauge.TheVariants.{Empty, Over, Used}

-- market risk plus interest risk less discount
abbrev pub used : Figures ℤ → ℤ
used f = f.market +ℤ f.interest -ℤ f.discount

-- nothing to show when valuation is zero or less; over, carrying the shortfall, when the limit is negative; else used, one rounding of one division
unfoldable pub gauge_of : Figures ℤ → Gauge
gauge_of f =
    cond (le_z f.valuation (pos 0)) Empty
    (cond (lt_z f.limit (pos 0)) (Over (float (neg_ℤ f.limit)))
    (Used (div binary64 (float (used f)) (float f.valuation))))

-- ---- as a number and a float, for faces without such a type: the empty gauge carries nothing, and +0.0 stands for that
abbrev pub gauge_number : Gauge → ℕ
gauge_number Empty = 0
gauge_number (Over shortfall) = 1
gauge_number (Used share) = 2

abbrev pub gauge_shown : Gauge → Float
gauge_shown Empty = float (pos 0)
gauge_shown (Over shortfall) = shortfall
gauge_shown (Used share) = share

-- ---- what figures must keep for the division to be of exact numbers: of a report they do
pub record Balanced (f : Figures ℤ) : Type 0 where
  pub used_from_zero : pos 0 ≤ℤ used f
  pub limit_is : f.limit ≡ f.valuation -ℤ used f
