-- `accounts::move_in` meets its contract: the block is lent, the move made in it, and given back. Assumes nothing.
use mathlib.Core.Path.{sym, ap, ◌∙◌, subst}
use mathlib.Core.List.{List}
use lib.IntN.{ℤ}
use mir.Facts.{to_z-of_z}
use Rattle.whole.proofs.Machine.{back}
use Rattle.book.specs.Changes.{moved}
use Rattle.book.specs.Ranges.{Movable}
use Rattle.book.proofs.AtAccount.{lent, back_at, of_lent}
use Rattle.book.proofs.accounts.move_in.Goals as goal

pub move_collateral-requires : goal.move_collateral-requires
move_collateral-requires c = let a = c.args in
    of_lent a.book.now a.i (λ (b : List ℤ). Movable b a.asset (back a.amount))
    (subst (Movable _ a.asset) (sym (to_z-of_z c.ranges.amount)) c.requires.1)

pub returns : goal.returns
returns c = let a = c.args in
    back_at a.book.now a.i (λ b. moved b a.asset a.amount)
    (c.move_collateral.ensures ∙ ap (moved (lent a.book.now a.i) a.asset) (to_z-of_z c.ranges.amount))
