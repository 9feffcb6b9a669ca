-- `Row::share_by_kind` meets its contract: the arms are the definition's tests, in its order. Assumes nothing.
use mathlib.Core.Path.{◌≡◌, refl}
use native.Mathlib.Omega.{arith}
use mir.Facts.{to_z-of_z}
use borrow.Author.Tests.{ne_eqb}
use Rattle.assets.specs.Collateral.{share_by_kind}
use Rattle.assets.proofs.lent.Row.share_by_kind.Goals as goal

pub returns-in-1 : goal.returns-in-1
unfolding share_by_kind
returns-in-1 c = let h = c.args.self.in_range.acceptance_upto in rw (to_z-of_z h.fits, c.in-1.is) (refl, h)

pub returns-in-2 : goal.returns-in-2
unfolding share_by_kind
returns-in-2 c = let h = c.pool_share.ensures in rw (to_z-of_z h.1.fits, c.in-2.is) h

pub returns-in_default : goal.returns-in_default
unfolding share_by_kind
returns-in_default c =
    let h = c.args.self.in_range.pool_upto in
    let ordinary : c.args.kind ≡ 1 → ⊥ = λ e. omega arith in
    let pool : c.args.kind ≡ 2 → ⊥ = λ e. omega arith in
    rw (to_z-of_z h.fits, ne_eqb _ 1 ordinary, ne_eqb _ 2 pool) (refl, h)
