-- `collateral::counted_of` meets its contract: of what is owned it makes what is free and what is taken; the bound is the law that C' is no larger than C.
-- Assumes nothing.
use mathlib.Core.Path.{◌≡◌, refl, sym, ap, ◌∙◌, subst}
use native.Mathlib.Omega.{arith}
use lib.IntN.{ℤ, pos}
use lib.Signed.{◌≤ℤ◌}
use mir.Facts.{to_z-of_z}
use Rattle.whole.specs.Numbers.{min_ℤ, max_ℤ, divided_down}
use Rattle.whole.specs.Bounds.{◌upto◌}
use Rattle.whole.proofs.Expressions.{Expression, var, lit, ◌⊕◌, ◌⊖◌, ◌⊛◌, ◌⊓◌, ◌⊔◌, value, is, le! }
use Rattle.whole.proofs.Machine.{Runs, need!, runs, clean₂}
use Rattle.whole.proofs.InRange.{product_upto}
use Rattle.whole.proofs.Rules.{ints}
use Rattle.assets.specs.Collateral.{counted}
use Rattle.assets.specs.declared.collateral.Regime.TheVariants.{Accepted}
use Rattle.assets.proofs.collateral.Counted.{taken, taken_from_zero, counted_made, adjusted_within}
use Rattle.assets.proofs.collateral.counted_of.Goals as goal
use Rattle.assets.proofs.collateral.counted_of.Goals.{After-divided_down-taken, After-greater-free, After-greater-owned, After-lesser-2, Start}

-- ---- what is owned, and what of it is free
owned : (c : After-greater-owned) → c.greater-owned.result ≡ max_ℤ (pos 0) c.args.held
owned c = c.greater-owned.ensures.0 ∙ ap (max_ℤ (pos 0)) (to_z-of_z c.ranges.held)

owned_upto : (c : After-greater-owned) → c.greater-owned.result upto 1000000
owned_upto c =
    let h = c.requires.1 in
    let e = owned c in
    let m = is (lit 0 ⊔ var c.args.held) in
    record { low = omega ints; high = omega ints; fits = c.greater-owned.ensures.1 }

free : (c : After-greater-free) → c.greater-free.result ≡ max_ℤ (pos 0) (min_ℤ c.args.net c.greater-owned.result)
free c =
    let least = c.lesser.ensures in
    c.greater-free.ensures.0 ∙ ap (max_ℤ (pos 0)) (to_z-of_z least.1 ∙ least.0 ∙ clean₂ min_ℤ c.ranges.net c.greater-owned.ensures.1)

-- nothing more is free than is owned
free_range : (net owned free : ℤ) → owned upto 1000000 → free ≡ max_ℤ (pos 0) (min_ℤ net owned) → free upto 1000000
free_range net owned free h e =
    let made = lit 0 ⊔ (var net ⊓ var owned) in
    let low = le! (lit 0) made (omega arith) in
    let high = le! made (lit 1000000) (omega ints) in
    subst (λ (z : ℤ). z upto 1000000) (sym e) (record { low = low; high = high; fits = omega ints })

free_upto : (c : After-greater-free) → c.greater-free.result upto 1000000
free_upto c = free_range _ _ _ (owned_upto c.before.before) (free c)

-- ---- what is taken of it
abbrev product : After-greater-free → Expression
product c = var c.args.share ⊛ var c.greater-owned.result

product_range : (c : After-greater-free) → value (product c) upto 10000000000
product_range c = product_upto c.requires.0 (owned_upto c.before.before) (omega arith)

product_ok : (c : After-greater-free) → Runs (product c)
product_ok c = omega (ints, is (product c), product_range c, c.requires.0, owned_upto c.before.before)

part : (c : After-divided_down-taken) → c.divided_down-taken.result ≡ taken c.args.share c.greater-owned.result
part c = c.divided_down-taken.ensures.0 ∙ ap (λ (z : ℤ). divided_down z 10000) (runs (product c.before) (product_ok c.before))

pub divided_down-taken-requires : goal.divided_down-taken-requires
divided_down-taken-requires c = rw (runs (product c) (product_ok c)) ((product_range c).low, omega ints)

part_from_zero : (c : After-divided_down-taken) → pos 0 ≤ℤ c.divided_down-taken.result
part_from_zero c =
    let o = c.before.before.before in
    rw (part c) (taken_from_zero o.args.share o.requires.0 o.greater-owned.result (owned_upto o).low)

-- ---- what counts
module _ (c : After-lesser-2) where
  abbrev start : Start
  start = c.before.before.before.before.before

  abbrev sum : Expression
  sum = var start.args.held ⊖ var c.greater-free.result ⊕ var c.lesser-2.result

  least : c.lesser-2.result ≡ min_ℤ c.greater-free.result c.divided_down-taken.result
  least = c.lesser-2.ensures.0 ∙ clean₂ min_ℤ c.greater-free.ensures.1 c.divided_down-taken.ensures.1

  same : value sum ≡ counted start.args.share start.args.held start.args.net
  same =
      let a = start.args in
      counted_made a.share start.requires.0 a.held a.net (owned c.before.before.before.before) (free c.before.before) (part c.before) least

  ok : Runs sum
  ok =
      let h = start.requires.1 in let f = free_upto c.before.before in let p = part_from_zero c.before in
      let l = least in omega ints

pub overflow_sub-result : goal.overflow_sub-result
overflow_sub-result c = let h = c.requires.1 in let f = free_upto c.before in omega ints

pub returns : goal.returns
returns c =
    let s = start c in
    rw (runs (sum c) (ok c) ∙ same c)
    (refl, adjusted_within (Accepted s.args.share) s.args.held s.args.net (omega arith) s.requires.1 s.requires.0)

pub overflow_mul-share : goal.overflow_mul-share
overflow_mul-share c = need! (product c) (product_ok c)

pub overflow_add-result : goal.overflow_add-result
overflow_add-result c = need! (sum c) (ok c)
