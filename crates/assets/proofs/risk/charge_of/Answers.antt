-- `risk::charge_of` meets its contract: the part above the limit is what the part up to it leaves, and no unit costs more than ten million. Assumes nothing.
use mathlib.Core.Path.{◌≡◌, sym, ap, ap₂, ◌∙◌, subst}
use native.Mathlib.Omega.{arith}
use lib.IntN.{ℤ, pos, ◌+ℤ◌, ◌-ℤ◌, ◌*ℤ◌}
use lib.Signed.{≤ℤ_refl}
use Rattle.whole.specs.Numbers.{min_ℤ}
use Rattle.whole.specs.Bounds.{◌within◌, ◌upto◌}
use Rattle.whole.proofs.Bounds.{upto_within, product_within}
use Rattle.whole.proofs.Expressions.{Expression, var, ◌⊕◌, ◌⊖◌, ◌⊛◌, ◌⊓◌, lit, value, is, le! }
use Rattle.whole.proofs.Machine.{Runs, need!, runs, clean₂}
use Rattle.whole.proofs.Rules.{ints}
use Rattle.assets.specs.Risk.{charge}
use Rattle.assets.proofs.risk.Charge.{charge_slope, slope_upto, charge_within, above_left}
use Rattle.assets.proofs.risk.charge_of.Goals as goal
use Rattle.assets.proofs.risk.charge_of.Goals.{After-lesser-within, Start}

module _ (c : After-lesser-within) where
  abbrev start : Start
  start = c.before

  abbrev part : ℤ
  part = c.lesser-within.result

  abbrev inner : Expression
  inner = var start.args.base ⊛ var part

  abbrev above : Expression
  above = var start.args.n ⊖ var part

  abbrev outer : Expression
  outer = var start.args.raised ⊛ above

  part_is : part ≡ min_ℤ start.args.n start.args.limit
  part_is = c.lesser-within.ensures.0 ∙ clean₂ min_ℤ start.ranges.n start.ranges.limit

  part_upto : part upto 10000000
  part_upto = let e = part_is in let p = start.requires in let m = is (var start.args.n ⊓ var start.args.limit) in
      record { low = omega ints; high = omega ints; fits = c.lesser-within.ensures.1 }

  above_upto : value above upto 64000000
  above_upto =
      let e = part_is in let p = start.requires in let m = is (var start.args.n ⊓ var start.args.limit) in
      let low = le! (lit 0) above (omega ints) in let high = le! above (lit 64000000) (omega ints) in
      record { low = low; high = high; fits = omega ints }

  ok : Runs (inner ⊕ outer)
  ok =
      let p = start.requires in
      let first = product_within p.0 (upto_within part_upto) (omega arith) in
      let second = product_within p.1 (upto_within above_upto) (omega arith) in
      let a = above_upto in let b = part_upto in
      omega (ints, is inner, is outer, first, second)

  is_charge : value (inner ⊕ outer) ≡ charge start.args.base start.args.raised start.args.limit start.args.n
  unfolding charge
  is_charge =
      let a = start.args in
      ap₂ (λ (x y : ℤ). a.base *ℤ x +ℤ a.raised *ℤ y) part_is (ap (λ (x : ℤ). a.n -ℤ x) part_is ∙ above_left a.n a.limit)

pub returns : goal.returns
returns c =
    let p = (start c).requires in
    let e = runs (inner c ⊕ outer c) (ok c) ∙ is_charge c in
    record {
      value = (e, subst (λ (z : ℤ). z within 640000000000000) (sym e) (charge_within p.0 p.1 p.2.low p.3 (omega arith)));
      not_below = λ b r.
          let slope = charge_slope (pos 10000000) _ _ _ b.low b.high r.low r.high p.2.low in
          subst (λ (z : ℤ). z upto 640000000000000) (sym e) (slope_upto 10000000 slope (≤ℤ_refl _) p.3 (omega arith));
    }

pub overflow_mul-result : goal.overflow_mul-result
overflow_mul-result c = need! (inner c) (ok c).0

pub overflow_sub-result : goal.overflow_sub-result
overflow_sub-result c = need! (above c) (ok c).1.1

pub overflow_mul-result-2 : goal.overflow_mul-result-2
overflow_mul-result-2 c = need! (outer c) (ok c).1

pub overflow_add-result : goal.overflow_add-result
overflow_add-result c = need! (inner c ⊕ outer c) (ok c)
