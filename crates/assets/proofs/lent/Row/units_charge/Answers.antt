-- `Row::units_charge` meets its contract: the rates and the limit are the row's, read back, and the charge is at most 10,000 for each unit.
-- Assumes nothing.
use mathlib.Core.Path.{sym, ◌∙◌, subst}
use native.Mathlib.Omega.{arith}
use lib.IntN.{ℤ}
use mir.Facts.{to_z-of_z}
use Rattle.whole.specs.Bounds.{◌within◌, ◌upto◌}
use Rattle.whole.proofs.Bounds.{upto_within}
use Rattle.whole.proofs.Machine.{back}
use Rattle.whole.proofs.InRange.{upto_wider, upto_back}
use Rattle.assets.specs.Risk.{charge, units_charge}
use Rattle.assets.proofs.risk.Charge.{slope_upto}
use Rattle.assets.proofs.risk.Sides.{side_slope}
use Rattle.assets.proofs.lent.Row.units_charge.Goals as goal

rate : {x : ℤ} → x upto 10000 → back x within 10000000
rate h = upto_within (upto_back (upto_wider 10000000 h (omega arith)))

pub charge_of-requires : goal.charge_of-requires
charge_of-requires c =
    let r = c.args.self.in_range in
    let rates = r.side c.args.side c.requires.0 in
    (rate rates.base_upto, rate rates.raised_upto, upto_back r.market_upto, upto_back c.requires.1)

pub returns : goal.returns
unfolding units_charge
returns c =
    let p = c.args.self.in_range in
    let rates = p.side c.args.side c.requires.0 in
    let base = to_z-of_z rates.base_upto.fits in
    let raised = to_z-of_z rates.raised_upto.fits in
    let limit = to_z-of_z p.market_upto.fits in
    let units = to_z-of_z c.ranges.n in
    let r = c.charge_of.ensures.value in
    let e = to_z-of_z r.1.fits ∙ r.0 ∙ (λ i. charge (base i) (raised i) (limit i) (units i)) in
    (e, subst (λ (z : ℤ). z upto 640000000000) (sym e) (slope_upto 10000 (side_slope _ p c.args.side c.requires.0) rates.highest_upto.high c.requires.1 (omega arith)))
