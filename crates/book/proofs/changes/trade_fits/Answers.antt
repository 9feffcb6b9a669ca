-- `changes::trade_fits` meets its contract: of a block in bounds a trade can put only its own two numbers out of them. Assumes nothing.
use mathlib.Core.Path.{sym, ap, ap₂, ◌∙◌, subst}
use Prim.Native.Nat.{ℕ}
use native.Mathlib.Omega.{arith}
use lib.IntN.{ℤ, ◌+ℤ◌}
use mir.Facts.{to_z-of_z}
use Rattle.whole.specs.Bounds.{◌within◌}
use Rattle.whole.specs.Parts.{number}
use Rattle.whole.proofs.Bounds.{wider}
use Rattle.whole.proofs.Tests.{passed, failed}
use Rattle.book.specs.Rules.{rubles_right, quantity_right}
use Rattle.book.proofs.Amounts.{large}
use Rattle.book.proofs.Trades.{net_at, quantity_inside, net_inside, quantity_before, net_before, quantity_out, net_alone}
use Rattle.book.proofs.changes.trade_fits.Goals as goal

pub fits_after-requires : goal.fits_after-requires
fits_after-requires c = let e = c.trade_at.ensures in (
  rw e (quantity_inside _ c.requires.ranges c.args.block.now c.requires.bounded.long),
  rw e (quantity_before _ _ c.requires),
  subst (λ (z : ℤ). z within large) (sym (to_z-of_z c.requires.ranges.quantity_within.fits)) (wider large c.requires.ranges.quantity_within (omega arith)),
)

pub returns-else-fits_after : goal.returns-else-fits_after
returns-else-fits_after c =
    let tested = c.fits_after.ensures ∙ ap₂ (λ (k : ℕ) (z : ℤ). quantity_right (number c.args.block.now k +ℤ z)) c.trade_at.ensures (to_z-of_z c.requires.ranges.quantity_within.fits) in
    c.if-fits_after.false ∙ sym (quantity_out _ _ c.requires (failed tested c.if-fits_after.false))

pub fits_after-requires-then-fits_after : goal.fits_after-requires-then-fits_after
fits_after-requires-then-fits_after c = let m = c.money_of.ensures in (
  net_inside _ c.requires.ranges c.args.block.now c.requires.bounded.long,
  net_before _ _ c.requires,
  subst (λ (z : ℤ). z within large) (sym (to_z-of_z m.1.fits)) m.1,
)

pub returns-then-fits_after : goal.returns-then-fits_after
returns-then-fits_after c =
    let tested = c.fits_after.ensures ∙ ap₂ (λ (k : ℕ) (z : ℤ). quantity_right (number c.args.block.now k +ℤ z)) c.trade_at.ensures (to_z-of_z c.requires.ranges.quantity_within.fits) in
    let m = c.money_of.ensures in
    c.fits_after-then-fits_after.ensures
    ∙ ap (λ (z : ℤ). rubles_right (number c.args.block.now (net_at c.args.t) +ℤ z)) (to_z-of_z m.1.fits ∙ m.0)
    ∙ sym (net_alone _ _ c.requires (passed tested c.if-fits_after.true))
