-- `changes::move_fits` meets its contract: of a block in bounds a move can put only its own number out of them. Assumes nothing.
use mathlib.Core.Path.{sym, ◌∙◌, subst}
use native.Mathlib.Omega.{arith}
use lib.IntN.{ℤ}
use mir.Facts.{to_z-of_z}
use Rattle.whole.specs.Bounds.{◌within◌}
use Rattle.book.proofs.Amounts.{large}
use Rattle.book.proofs.Moves.{before_move, move_test}
use Rattle.book.proofs.changes.move_fits.Goals as goal

pub fits_after-requires : goal.fits_after-requires
fits_after-requires c = let e = c.move_at.ensures in (
  omega (arith, e.1, c.requires.bounded.long),
  rw e.0 (before_move _ _ _ c.requires),
  subst (λ (z : ℤ). z within large) (sym (to_z-of_z c.ranges.amount)) c.requires.amount_within,
)

pub returns : goal.returns
returns c =
    let most = c.most_of-most.ensures in
    let least = c.least_after.ensures in
    (simp (to_z-of_z least.1.fits ∙ least.0, to_z-of_z most.1.fits ∙ most.0, to_z-of_z c.ranges.amount, c.move_at.ensures.0) at c.fits_after.ensures)
    ∙ move_test _ _ _ c.requires
