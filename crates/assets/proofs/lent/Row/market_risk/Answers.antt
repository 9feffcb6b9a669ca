-- `Row::market_risk` meets its contract: special delivery takes the greater of its two sides, else the sum stands on one side and the other side's risk
-- of 0 units is 0.
-- Assumes nothing.
use mathlib.Core.Path.{◌≡◌, sym, ap, ap₂, ◌∙◌, subst}
use mathlib.Core.Bool.{false}
use native.Mathlib.Omega.{arith}
use lib.IntN.{ℤ, ◌-ℤ◌}
use mir.Facts.{to_z-of_z}
use Rattle.whole.specs.Numbers.{max_ℤ, abs_ℤ}
use Rattle.whole.specs.Bounds.{◌within◌, ◌upto◌}
use Rattle.whole.proofs.Machine.{back}
use Rattle.whole.proofs.InRange.{upto_back}
use Rattle.whole.proofs.Rules.{ints}
use Rattle.whole.proofs.Tests.{passed, failed}
use Rattle.rates.specs.Row.{fall, rise}
use Rattle.assets.specs.Collateral.{is_special}
use Rattle.assets.specs.Risk.{side_of, position_sum, short_sum, side_risk}
use Rattle.assets.proofs.risk.Sides.{size_upto, shorts_are, shorts_upto, market_special, market_by_side}
use Rattle.assets.proofs.lent.Row.market_risk.Goals as goal
use Rattle.assets.proofs.lent.Row.market_risk.Goals.{After-long_sum-longs, After-size, Else-is_special, Start}

-- the sum that is handed in, read back
sum_is : (c : Start) → back c.args.sum ≡ position_sum c.args.x.positions
sum_is c = to_z-of_z c.ranges.sum ∙ c.requires.1

-- the short dates, as code makes them of the long dates and the sum
shorts : (c : After-long_sum-longs) → back c.long_sum-longs.result -ℤ back c.args.sum ≡ short_sum c.args.x.positions
shorts c =
    let longs = c.long_sum-longs.ensures in
    ap₂ ◌-ℤ◌ (to_z-of_z longs.1.fits ∙ longs.0) (sum_is c.before.before.before.before) ∙ shorts_are _

pub overflow_sub-longs : goal.overflow_sub-longs
overflow_sub-longs c = rw (shorts c.before) (shorts_upto _ c.requires.0).fits

pub side_risk-rising-requires : goal.side_risk-rising-requires
side_risk-rising-requires c =
    (omega arith, rw (shorts c.before) (upto_back (shorts_upto _ c.requires.0)))

pub returns-then-is_special : goal.returns-then-is_special
returns-then-is_special c =
    let l = c.before.before.before in
    let t = l in
    let s = t in
    let row = s.args.self.numbers.now in
    let longs = l.long_sum-longs.ensures in
    let falling = c.side_risk-falling.ensures in
    let rising = c.side_risk-rising.ensures in
    let r = c.greater.ensures in (
      to_z-of_z r.1 ∙ r.0
          ∙ ap₂ max_ℤ (to_z-of_z falling.1.fits ∙ falling.0 ∙ ap (side_risk row fall) (to_z-of_z longs.1.fits ∙ longs.0))
          (to_z-of_z rising.1.fits ∙ rising.0 ∙ ap (side_risk row rise) (to_z-of_z (overflow_sub-longs c.before.before) ∙ shorts l))
          ∙ sym (market_special row s.args.self.in_range s.args.x (passed t.is_special.ensures t.if-is_special.true)),
      omega ints,
    )

-- past the test for special delivery
plain : (c : Else-is_special) → is_special c.args.x.regime ≡ false
plain c = failed c.is_special.ensures c.if-is_special.false

-- the sum's size
pub size-requires : goal.size-requires
size-requires c = rw (to_z-of_z c.ranges.sum) (let l = c.requires.2.size in omega arith)

sized : (c : After-size) → c.size.result ≡ abs_ℤ (position_sum c.args.x.positions)
sized c = c.size.ensures.0 ∙ ap abs_ℤ (sum_is c.before.before.before.before)

sized_upto : (c : After-size) → c.size.result upto 64000000
sized_upto c =
    rw c.size.ensures.0 (size_upto (subst (λ (z : ℤ). z within 64000000) (sym (to_z-of_z c.ranges.sum)) c.requires.2) (omega arith))

pub side_risk-requires : goal.side_risk-requires
side_risk-requires c = (c.side_of.ensures.1, upto_back (sized_upto c))

pub returns : goal.returns
returns c =
    let e = c.before.before.before in
    let s = e.before.before in
    let row = s.args.self.numbers.now in
    let r = c.side_risk.ensures in
    let side = c.side_of.ensures.0 ∙ ap side_of (sum_is s) in
    let units = to_z-of_z c.size.ensures.1 ∙ sized c.before in
    let e' = to_z-of_z r.1.fits ∙ r.0 ∙ (λ i. side_risk row (side i) (units i)) ∙ market_by_side row s.args.self.in_range s.args.x (plain e) in
    (e', upto_back r.1)
