-- `limit::discount_of` meets its contract: twice a percent of at most 50 times the smaller side is in range, and a hundredth of it is at
-- most the smaller side.
-- Assumes nothing.
use mathlib.Core.Path.{sym, ap, ◌∙◌, subst}
use Prim.Native.Nat.{◌+◌}
use native.Mathlib.Omega.{arith}
use lib.IntN.{ℤ, pos, ◌*ℤ◌}
use mir.Facts.{to_z-of_z}
use Rattle.whole.specs.Numbers.{min_ℤ, divided_down}
use Rattle.whole.specs.Bounds.{◌upto◌}
use Rattle.whole.specs.Parts.{number}
use Rattle.whole.proofs.Expressions.{Expression, var, lit, ◌⊛◌, is}
use Rattle.whole.proofs.Machine.{Runs, need!, runs, clean₂}
use Rattle.whole.proofs.Rules.{ints}
use Rattle.figures.specs.Limit.{discount_of}
use Rattle.whole.proofs.InRange.{product_upto}
use Rattle.figures.proofs.limit.Discount.{twice_upto, discount_upto}
use Rattle.figures.proofs.limit.discount_of.Goals as goal
use Rattle.figures.proofs.limit.discount_of.Goals.{After-divided_down-arg-1, After-lesser-lesser, Start}

-- the percent of the group
abbrev percent : Start → ℤ
percent c = number c.args.groups.now c.args.g

percent_upto : (c : Start) → percent c upto 50
percent_upto c = c.requires.0.each c.args.g c.requires.3

lesser_upto : (c : After-lesser-lesser) → c.lesser-lesser.result upto 10240000000000000
lesser_upto c =
    let long = c.requires.1.each (1 + c.args.g) (omega arith) in
    let short = c.requires.2.each (1 + c.args.g) (omega arith) in
    omega ints

-- what is divided
abbrev product : After-divided_down-arg-1 → Expression
product c = lit 2 ⊛ var (percent c.before.before.before.before) ⊛ var c.lesser-lesser.result

product_range : (c : After-divided_down-arg-1) → (pos 2 *ℤ percent c.before.before.before.before *ℤ c.lesser-lesser.result) upto 1024000000000000000
product_range c = product_upto (twice_upto (percent_upto c.before.before.before.before)) (lesser_upto c.before) (omega arith)

ok : (c : After-divided_down-arg-1) → Runs (product c)
ok c = omega (ints, is (product c), product_range c, percent_upto c.before.before.before.before, lesser_upto c.before)

pub overflow_mul-groups : goal.overflow_mul-groups
overflow_mul-groups c = need! (lit 2 ⊛ var (percent c.before.before.before.before)) (ok c).0

pub overflow_mul-groups-2 : goal.overflow_mul-groups-2
overflow_mul-groups-2 c = need! (product c) (ok c)

pub divided_down-requires : goal.divided_down-requires
divided_down-requires c = rw (runs (product c) (ok c)) ((product_range c).low, omega ints)

pub returns : goal.returns
unfolding discount_of
returns c =
    let k = c.before in
    let s = k.before.before.before.before in
    let long = s.requires.1.each (1 + s.args.g) (omega arith) in
    let short = s.requires.2.each (1 + s.args.g) (omega arith) in
    let r = c.divided_down.ensures in
    let e = to_z-of_z r.1 ∙ r.0 ∙ ap (λ (z : ℤ). divided_down z 100) (runs (product k) (ok k)) in (
      e ∙ ap (λ (z : ℤ). divided_down (pos 2 *ℤ percent s *ℤ z) 100) (k.lesser-lesser.ensures.0 ∙ clean₂ min_ℤ long.fits short.fits),
      subst (λ (z : ℤ). z upto 10240000000000000) (sym e) (discount_upto (percent_upto s) (lesser_upto k.before) (omega arith)),
    )
