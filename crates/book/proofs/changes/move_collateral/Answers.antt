-- `changes::move_collateral` meets its contract: the amount is added where the definition adds it. Assumes nothing.
use mathlib.Core.Path.{sym, ap₂, ◌∙◌, subst}
use Prim.Native.Nat.{ℕ}
use lib.IntN.{ℤ}
use native.Mathlib.Omega.{arith}
use mir.Facts.{to_z-of_z}
use Rattle.whole.specs.Bounds.{◌within◌}
use Rattle.book.specs.Changes.{added, moved}
use Rattle.book.proofs.Amounts.{large}
use Rattle.book.proofs.Moves.{before_move}
use Rattle.book.proofs.changes.move_collateral.Goals as goal

pub add-requires : goal.add-requires
add-requires c = let e = c.move_at.ensures in (
  omega (arith, e.1, c.requires.bounded.long),
  rw e.0 (before_move _ _ _ c.requires),
  subst (λ (z : ℤ). z within large) (sym (to_z-of_z c.ranges.amount)) c.requires.amount_within,
)

pub returns : goal.returns
unfolding moved
returns c = c.add.ensures ∙ ap₂ (λ (k : ℕ) (z : ℤ). added c.args.block.now k z) c.move_at.ensures.0 (to_z-of_z c.ranges.amount)
