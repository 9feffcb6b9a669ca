-- `ordering::book_if_raised` meets its contract: the limit before is that of the state as it was found. Assumes nothing.
use mathlib.Core.Path.{◌≡◌, refl, sym, ap, ap₂, ◌∙◌}
use mathlib.Core.Bool.{not}
use native.Mathlib.Omega.{arith}
use mir.Facts.{to_z-of_z}
use Rattle.whole.proofs.Refusals.{none, hit, miss, code}
use Rattle.rates.specs.Lent.{numbers_of}
use Rattle.book.specs.Changes.{traded}
use Rattle.engine.specs.State.{state}
use Rattle.engine.specs.Refused.{limit_of, raised, not_raised}
use Rattle.engine.specs.Calls.{changing, raising_trade}
use Rattle.engine.proofs.Outcomes.{turned_away, made}
use Rattle.engine.proofs.ordering.book_if_raised.Goals as goal
use Rattle.engine.proofs.ordering.book_if_raised.Goals.{After-is_raised}

raises : (c : After-is_raised) → c.is_raised.result ≡ raised (limit_of (numbers_of c.args.tables) c.args.i (state c.args.book.now)) c.args.after
raises c = let limit = c.limit_at-before.ensures in c.is_raised.ensures ∙ ap₂ raised (to_z-of_z limit.1 ∙ limit.0) (to_z-of_z c.ranges.after)

pub returns-then-not-is_raised : goal.returns-then-not-is_raised
unfolding raising_trade
returns-then-not-is_raised c = let a = c.args in let e = raises (goal.at.returns-then-not-is_raised c).After-is_raised in
    turned_away (not_raised (numbers_of a.tables) a.i a.after) (changing a.i (λ b. traded b a.t)) (state a.book.now)
    (code (hit (ap not (sym e ∙ c.if-not-is_raised.true)))) (λ z. omega arith) refl

pub returns : goal.returns
unfolding raising_trade
returns c = let a = c.args in let e = raises (goal.at.returns c).After-is_raised in
    made (not_raised (numbers_of a.tables) a.i a.after) a.i (λ b. traded b a.t) (state a.book.now) tt
    (sym (code (miss (ap not (sym e ∙ c.if-not-is_raised.false)) none))) c.trade_in.ensures
