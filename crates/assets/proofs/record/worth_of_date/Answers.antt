-- `record::worth_of_date` meets its contract: at most three million units at ten million each. Assumes nothing.
use mathlib.Core.Path.{◌≡◌, refl, ap, ap₂, ◌∙◌}
use lib.IntN.{ℤ, ◌+ℤ◌, ◌*ℤ◌}
use mir.Facts.{to_z-of_z}
use Rattle.whole.specs.Bounds.{◌within◌}
use Rattle.whole.proofs.Machine.{back, clean₂}
use Rattle.rates.specs.Row.{price, mid, level}
use Rattle.rates.specs.Ranges.{DateRanges}
use Rattle.assets.specs.Asset.{position, worth_of}
use Rattle.assets.proofs.record.Positions.{worth_within}
use Rattle.assets.proofs.record.worth_of_date.Goals as goal
use Rattle.assets.proofs.record.worth_of_date.Goals.{After-level-2-1, Start}

date : (c : Start) → DateRanges c.args.row.numbers.now c.args.d
date c = c.args.row.in_range.date c.args.d c.requires.1

-- what one unit is worth
abbrev unit : Start → ℤ
unit c = back (price c.args.row.numbers.now) +ℤ back (mid c.args.row.numbers.now c.args.d)

unit_is : (c : Start) → unit c ≡ level c.args.row.numbers.now c.args.d
unit_is c = clean₂ ◌+ℤ◌ c.args.row.in_range.price_upto.fits (date c).mid_within.fits

pub overflow_add-level-2 : goal.overflow_add-level-2
overflow_add-level-2 c = let s = c.before.before.before in rw (unit_is s) (date s).level_upto.fits

worth_is : (c : After-level-2-1) → let s = c.before.before.before in
    back c.position_of-units.result *ℤ back (unit s) ≡ worth_of s.args.row.numbers.now s.args.holding.numbers.now s.args.c s.args.d
unfolding worth_of
worth_is c =
    let s = c.before.before.before in
    let u = c.position_of-units.ensures in
    let units = to_z-of_z u.1.fits ∙ u.0 ∙ ap (λ (x : ℤ). position s.args.holding.numbers.now x s.args.d) (to_z-of_z s.ranges.c) in
    ap₂ ◌*ℤ◌ units (to_z-of_z (overflow_add-level-2 c) ∙ unit_is s)

bounded : (c : Start) → worth_of c.args.row.numbers.now c.args.holding.numbers.now c.args.c c.args.d within 30000000000000
bounded c = worth_within _ c.args.row.in_range _ c.args.holding.in_range _ c.requires.0 _ c.requires.1

pub overflow_mul-result : goal.overflow_mul-result
overflow_mul-result c = rw (worth_is c) (bounded c.before.before.before).fits

pub returns : goal.returns
returns c = let h = bounded c.before.before.before in rw (worth_is c, to_z-of_z h.fits) (refl, h)
