-- `parts::part_of` meets its contract: each field is what its callee ensures, the market risk on the side of the sum among them. Assumes nothing.
use mathlib.Core.Path.{◌≡◌, ap₂, ◌∙◌}
use mathlib.Core.Bool.{Bool, cond}
use lib.IntN.{ℤ, pos}
use lib.Signed.{lt_z}
use mir.Facts.{to_z-of_z}
use native.Mathlib.Omega.{arith}
use Rattle.whole.proofs.InRange.{upto_back}
use Rattle.assets.specs.Part.{long_risk, short_risk, part_of}
use Rattle.assets.specs.Ranges.{PositionRanges, AssetRanges}
use Rattle.assets.proofs.Sizes.{positions_range}
use Rattle.assets.proofs.parts.part_of.Goals as goal
use Rattle.assets.specs.declared.record.Asset.{Asset}

-- four blocks' positions are in the range that risk asks of them
in_range : (x : Asset) → AssetRanges 4 x → PositionRanges x.positions
in_range x r = positions_range 4 x r (omega arith)

pub sum_of-sum-requires : goal.sum_of-sum-requires
sum_of-sum-requires c = in_range _ c.requires.1

pub market_risk-market-requires : goal.market_risk-market-requires
market_risk-market-requires c = let sum = c.sum_of-sum.ensures in rw (to_z-of_z sum.1.fits) (in_range _ c.requires.1, sum.0, sum.1)

pub interest_risk-interest-requires : goal.interest_risk-interest-requires
interest_risk-interest-requires c = in_range _ c.requires.1

-- the market risk where a test of the sum says so
on_side : (test : ℤ → Bool) {sum market sum' market' : ℤ} → sum ≡ sum' → market ≡ market' → cond (test sum) market (pos 0) ≡ cond (test sum') market' (pos 0)
on_side test e m = ap₂ (λ (x y : ℤ). cond (test x) y (pos 0)) e m

pub returns : goal.returns
unfolding part_of long_risk short_risk
returns c =
    let sum = c.sum_of-sum.ensures in
    let market = c.market_risk-market.ensures in
    let interest = c.interest_risk-interest.ensures in
    let long = c.if_so-long.ensures in
    let short = c.if_so-short.ensures in
    let group = c.group_of-group.ensures in
    let w = to_z-of_z c.requires.1.worth_within.fits in
    let s = to_z-of_z sum.1.fits ∙ sum.0 in
    let m = to_z-of_z market.1.fits ∙ market.0 in
    let i = to_z-of_z interest.1.fits in
    let l = to_z-of_z long.1.fits in
    let h = to_z-of_z short.1.fits in (
      (λ j. record {
        worth = w j;
        market = m j;
        interest = (i ∙ interest.0) j;
        long = (l ∙ long.0 ∙ on_side (lt_z (pos 0)) s m) j;
        short = (h ∙ short.0 ∙ on_side (λ (z : ℤ). lt_z z (pos 0)) s m) j;
        group = group.0 j;
      }),
      record {
        worth_within = rw w c.requires.1.worth_within;
        market_upto = upto_back market.1;
        interest_upto = upto_back interest.1;
        long_upto = upto_back long.1;
        short_upto = upto_back short.1;
        group_below = group.1;
      },
    )
