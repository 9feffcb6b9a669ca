-- `collateral::adjust` meets its contract, regime by regime. Assumes nothing.
use mathlib.Core.Path.{◌≡◌, ap, ◌∙◌, subst}
use lib.IntN.{pos}
use mir.Facts.{to_z-of_z}
use Rattle.whole.specs.Numbers.{min_ℤ}
use Rattle.whole.specs.Bounds.{◌upto◌}
use Rattle.whole.proofs.Rules.{ints}
use Rattle.assets.specs.Collateral.{counted}
use Rattle.assets.specs.Ranges.{ShareRange}
use Rattle.assets.proofs.collateral.Regime.adjust.Goals as goal
use Rattle.assets.proofs.collateral.Regime.adjust.Goals.{In-Accepted, In-Partial}

pub returns-in-NotRecorded : goal.returns-in-NotRecorded
returns-in-NotRecorded c =
    let e : c.lesser.result ≡ min_ℤ (pos 0) c.args.held = c.lesser.ensures.0 ∙ ap (min_ℤ (pos 0)) (to_z-of_z c.ranges.held) in
    let h = c.requires.1 in
    rw (to_z-of_z c.lesser.ensures.1, c.in-NotRecorded.is) (e, omega ints)

-- what the regime carries
share_partial : (c : In-Partial) → c.in-Partial.share upto 10000
share_partial c = subst ShareRange c.in-Partial.is c.requires.0

share_accepted : (c : In-Accepted) → c.in-Accepted.share upto 10000
share_accepted c = subst ShareRange c.in-Accepted.is c.requires.0

pub counted_of-requires : goal.counted_of-requires
counted_of-requires c =
    rw (to_z-of_z (share_partial c).fits, to_z-of_z c.ranges.held, to_z-of_z c.ranges.net) (share_partial c, c.requires.1, c.requires.2)

pub counted_of-requires-in-Accepted : goal.counted_of-requires-in-Accepted
counted_of-requires-in-Accepted c =
    rw (to_z-of_z (share_accepted c).fits, to_z-of_z c.ranges.held, to_z-of_z c.ranges.net) (share_accepted c, c.requires.1, c.requires.2)

pub returns-in-Partial : goal.returns-in-Partial
returns-in-Partial c =
    let r = c.counted_of.ensures in
    rw (to_z-of_z r.1.fits, c.in-Partial.is)
    (r.0 ∙ (λ i. counted (to_z-of_z (share_partial c.before).fits i) (to_z-of_z c.ranges.held i) (to_z-of_z c.ranges.net i)), r.1)

pub returns-in-Accepted : goal.returns-in-Accepted
returns-in-Accepted c =
    let r = c.counted_of-in-Accepted.ensures in
    rw (to_z-of_z r.1.fits, c.in-Accepted.is)
    (r.0 ∙ (λ i. counted (to_z-of_z (share_accepted c.before).fits i) (to_z-of_z c.ranges.held i) (to_z-of_z c.ranges.net i)), r.1)
