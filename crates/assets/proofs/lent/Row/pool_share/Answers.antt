-- `Row::pool_share` meets its contract: one test, the definition's own. Assumes nothing.
use mathlib.Core.Path.{refl}
use mir.Facts.{to_z-of_z}
use Rattle.assets.specs.Collateral.{pool_share_in_force}
use Rattle.assets.proofs.lent.Row.pool_share.Goals as goal

pub returns-then-self-lt-WHOLE : goal.returns-then-self-lt-WHOLE
unfolding pool_share_in_force
returns-then-self-lt-WHOLE c =
    let h = c.args.self.in_range.pool_upto in
    let below = rw (to_z-of_z h.fits) at c.if-self-lt-WHOLE.true in
    rw (to_z-of_z h.fits, below) (refl, h)

pub returns : goal.returns
unfolding pool_share_in_force
returns c =
    let r = c.args.self.in_range in
    let whole = rw (to_z-of_z r.pool_upto.fits) at c.if-self-lt-WHOLE.false in
    rw (to_z-of_z r.acceptance_upto.fits, whole) (refl, r.acceptance_upto)
