-- `Row::side_risk` meets its contract: the charge at the rates of the side is at most 10,000 for each unit, so its product with the price is in range.
-- Assumes nothing.
use mathlib.Core.Path.{sym, ap, ◌∙◌, subst}
use native.Mathlib.Omega.{arith}
use lib.IntN.{ℤ, ◌*ℤ◌}
use mir.Facts.{to_z-of_z}
use Rattle.whole.specs.Numbers.{divided_up}
use Rattle.whole.specs.Bounds.{◌upto◌}
use Rattle.whole.proofs.PlusMinus.{abs_is}
use Rattle.whole.proofs.Expressions.{Expression, var, ◌⊛◌, value, is}
use Rattle.whole.proofs.Machine.{Runs, need!, runs}
use Rattle.whole.proofs.InRange.{product_upto}
use Rattle.whole.proofs.Rules.{ints}
use Rattle.rates.specs.Row.{price}
use Rattle.assets.specs.Risk.{units_charge, market_charge, side_risk}
use Rattle.assets.proofs.risk.Sides.{side_upto}
use Rattle.assets.proofs.lent.Row.side_risk.Goals as goal
use Rattle.assets.proofs.lent.Row.side_risk.Goals.{After-divided_up-arg-1}

-- what is divided
abbrev product : After-divided_up-arg-1 → Expression
product c = var c.units_charge-charged.result ⊛ var (price c.args.self.numbers.now)

product_range : (c : After-divided_up-arg-1) → (c.units_charge-charged.result *ℤ price c.args.self.numbers.now) upto 6400000000000000000
product_range c = product_upto c.units_charge-charged.ensures.1 c.args.self.in_range.price_upto (omega arith)

ok : (c : After-divided_up-arg-1) → Runs (product c)
ok c = omega (ints, is (product c), product_range c, c.units_charge-charged.ensures.1, c.args.self.in_range.price_upto)

pub overflow_mul-charged : goal.overflow_mul-charged
overflow_mul-charged c = need! (product c) (ok c)

pub divided_up-requires : goal.divided_up-requires
divided_up-requires c = let h = product_range c in rw (runs (product c) (ok c)) (h.low, omega ints, omega (ints, abs_is (value (product c))))

pub returns : goal.returns
unfolding side_risk market_charge
returns c =
    let row = c.args.self.numbers.now in
    let charged = c.units_charge-charged.ensures.0 ∙ ap (units_charge row c.args.side) (to_z-of_z c.ranges.n) in
    let r = c.divided_up.ensures in
    let e = to_z-of_z r.1 ∙ r.0 ∙ ap (λ (z : ℤ). divided_up z 10000) (runs (product c.before) (ok c.before) ∙ ap (λ (z : ℤ). z *ℤ price row) charged) in
    (e, subst (λ (z : ℤ). z upto 640000000000000) (sym e) (side_upto _ c.args.self.in_range c.args.side c.requires.0 c.requires.1 (omega arith)))
