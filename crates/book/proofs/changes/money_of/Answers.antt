-- `changes::money_of` meets its contract: a buy's money is negated, which fits. Assumes nothing.
use mathlib.Core.Path.{sym, ◌∙◌, subst}
use mir.Facts.{to_z-of_z}
use lib.IntN.{ℤ}
use Rattle.whole.specs.Bounds.{◌within◌}
use Rattle.book.proofs.Amounts.{large, negated}
use Rattle.book.proofs.Trades.{money_buy, money_sell, money_within}
use Rattle.book.proofs.changes.money_of.Goals as goal

pub returns-then-t-eq0 : goal.returns-then-t-eq0
returns-then-t-eq0 c =
    let e = negated c.requires.money_within ∙ sym (money_buy c.args.t c.if-t-eq0.true) in
    (e, subst (λ (z : ℤ). z within large) (sym e) (money_within c.requires))

pub returns-else-t-eq0 : goal.returns-else-t-eq0
returns-else-t-eq0 c =
    let e = to_z-of_z c.requires.money_within.fits ∙ sym (money_sell c.args.t c.if-t-eq0.false) in
    (e, subst (λ (z : ℤ). z within large) (sym e) (money_within c.requires))
