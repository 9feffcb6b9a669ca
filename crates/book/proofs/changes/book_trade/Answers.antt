-- `changes::book_trade` meets its contract: the quantity and the money are added where the definition adds them. Assumes nothing.
use mathlib.Core.Path.{sym, ap₂, ◌∙◌, subst}
use mathlib.Core.List.{List}
use Prim.Native.Nat.{ℕ}
use native.Mathlib.Omega.{arith}
use lib.IntN.{ℤ}
use mir.Facts.{to_z-of_z}
use Rattle.whole.specs.Bounds.{◌within◌}
use Rattle.whole.proofs.Bounds.{wider}
use Rattle.book.specs.Changes.{added, traded}
use Rattle.book.proofs.Amounts.{large}
use Rattle.book.proofs.Trades.{net_at, quantity_inside, quantity_before, net_inside_then, net_then}
use Rattle.book.proofs.changes.book_trade.Goals as goal

pub add-requires : goal.add-requires
add-requires c = let at = c.before.before.before in let s = at.before in let r = s.requires.ranges in let e = at.trade_at-at.ensures in (
  rw e (quantity_inside _ r s.args.block.now s.requires.bounded.long),
  rw e (quantity_before _ _ s.requires),
  subst (λ (z : ℤ). z within large) (sym (to_z-of_z r.quantity_within.fits)) (wider large r.quantity_within (omega arith)),
)

-- the block after the first of the two
pub add-requires-2 : goal.add-requires-2
add-requires-2 c =
    let then = c.before.before.before in
    let paid = then.before.before.before in
    let s = paid.before.before in
    let e = then.add.ensures in
    let at = paid.trade_at-at.ensures in
    let m = paid.money_of-money.ensures.1 in (
      rw (e, at) (net_inside_then _ _ s.requires _),
      rw (e, at) (net_then _ _ s.requires _),
      subst (λ (z : ℤ). z within large) (sym (to_z-of_z m.fits)) m,
    )

pub returns : goal.returns
unfolding traded
returns c =
    let then = c.before.before.before.before.before in
    let paid = then.before.before.before in
    let s = paid.before.before in
    let m = paid.money_of-money.ensures in
    c.add-2.ensures
    ∙ ap₂ (λ (b : List ℤ) (z : ℤ). added b (net_at s.args.t) z)
    (then.add.ensures
    ∙ ap₂ (λ (k : ℕ) (z : ℤ). added s.args.block.now k z) paid.trade_at-at.ensures (to_z-of_z s.requires.ranges.quantity_within.fits))
    (to_z-of_z m.1.fits ∙ m.0)
