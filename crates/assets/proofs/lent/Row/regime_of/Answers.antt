-- `Row::regime_of` meets its contract: the tests are the definition's, in its order. Assumes nothing.
use mathlib.Core.Path.{◌≡◌, refl, ap}
use mir.Facts.{to_z-of_z}
use mathlib.Core.Bool.{true}
use lib.IntN.{pos}
use Rattle.whole.specs.Bounds.{equal}
use Rattle.whole.proofs.Tests.{passed, failed}
use Rattle.rates.specs.Row.{special_delivery}
use Rattle.assets.specs.Collateral.{regime_of}
use Rattle.assets.specs.declared.collateral.Regime.TheVariants.{Partial, Accepted}
use Rattle.assets.proofs.lent.Row.regime_of.Goals as goal

pub returns-then-number_is : goal.returns-then-number_is
unfolding regime_of
returns-then-number_is c =
    let special : equal (special_delivery c.args.self.numbers.now) (pos 1) ≡ true = passed c.number_is.ensures c.if-number_is.true in
    (rw special refl, tt)

pub returns-then-number_is-2 : goal.returns-then-number_is-2
unfolding regime_of
returns-then-number_is-2 c =
    (rw (failed c.number_is.ensures c.if-number_is.false, passed c.number_is-2.ensures c.if-number_is-2.true) refl, tt)

pub returns-then-number_is-3 : goal.returns-then-number_is-3
unfolding regime_of
returns-then-number_is-3 c =
    let h = c.share_by_kind-share.ensures in
    let special = failed c.number_is.ensures c.if-number_is.false in
    let unrecorded = failed c.number_is-2.ensures c.if-number_is-2.false in
    rw (to_z-of_z h.1.fits, special, unrecorded, passed c.number_is-3.ensures c.if-number_is-3.true) (ap Partial h.0, h.1)

pub returns : goal.returns
unfolding regime_of
returns c =
    let h = c.share_by_kind-share.ensures in
    let special = failed c.number_is.ensures c.if-number_is.false in
    let unrecorded = failed c.number_is-2.ensures c.if-number_is-2.false in
    rw (to_z-of_z h.1.fits, special, unrecorded, failed c.number_is-3.ensures c.if-number_is-3.false) (ap Accepted h.0, h.1)
