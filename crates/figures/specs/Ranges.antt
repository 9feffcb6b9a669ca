-- How large the sums on the way can be, stated for four blocks added together, the five figures of one block, and the signs of the risks. Assumes nothing.
use Rattle.std.specs.Prelude.{◌≡◌, List, ℕ, ◌*◌, ◌<◌, ◌^◌, ℤ, pos, nat_abs, length, ◌≤ℤ◌}
use Rattle.whole.specs.Bounds.{◌within◌, ◌upto◌}
use Rattle.whole.specs.Parts.{number}
use Rattle.figures.specs.declared.sums.Totals.{Totals}
use Rattle.figures.specs.declared.limit.Figures.{Figures}

-- the market risk of one side by group, of n assets
pub record GroupRanges (n : ℕ) (risks : List ℤ) : Type 0 where
  pub size : length risks ≡ 9
  pub each : (g : ℕ) → g < 9 → number risks g upto (n * 640000000000000)

-- the discount percents of the groups
pub record PercentRanges (groups : List ℤ) : Type 0 where
  pub size : length groups ≡ 8
  pub each : (g : ℕ) → g < 8 → number groups g upto 50

-- the sums over n assets
pub record TotalRanges (n : ℕ) (totals : Totals) : Type 0 where
  pub valuation_within : totals.valuation within (n * 960000000000000)
  pub market_upto : totals.market upto (n * 640000000000000)
  pub interest_upto : totals.interest upto (n * 640000000000000)
  pub long_range : GroupRanges n totals.long
  pub short_range : GroupRanges n totals.short

-- every figure, in size: what a float holds without loss
pub record Below2^53 (f : Figures ℤ) : Type 0 where
  pub valuation_below : nat_abs f.valuation < 2 ^ 53
  pub market_below : nat_abs f.market < 2 ^ 53
  pub interest_below : nat_abs f.interest < 2 ^ 53
  pub discount_below : nat_abs f.discount < 2 ^ 53
  pub limit_below : nat_abs f.limit < 2 ^ 53

-- of one block or of several: the discount lies from 0 to the market risk, and interest risk is from 0 up
pub record RiskBounds (f : Figures ℤ) : Type 0 where
  pub discount_low : pos 0 ≤ℤ f.discount
  pub discount_high : f.discount ≤ℤ f.market
  pub interest_low : pos 0 ≤ℤ f.interest
