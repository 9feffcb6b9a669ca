-- `ordering::order` meets its contract: a code before 10 turns it away, or the trade is judged. Assumes nothing.
use mathlib.Core.Path.{sym, ap₂, ◌∙◌, subst}
use Prim.Native.Nat.{ℕ}
use mir.Facts.{to_z-of_z}
use Rattle.book.specs.Choices.{trade_of}
use Rattle.book.specs.declared.changes.Trade.{Trade}
use Rattle.rates.specs.Lent.{numbers_of}
use Rattle.engine.specs.State.{state}
use Rattle.engine.specs.Refused.{place_of, order_stands}
use Rattle.engine.specs.Calls.{outcome_of, judged_trade, ordering}
use Rattle.engine.specs.Ranges.{TradeStands}
use Rattle.engine.proofs.Gates.{at_place}
use Rattle.engine.proofs.Outcomes.{exit_away, let_through}
use Rattle.engine.proofs.Passed.{order_stood}
use Rattle.engine.proofs.ordering.order.Goals as goal

pub returns-in_err-i : goal.returns-in_err-i
unfolding ordering
returns-in_err-i c = let a = c.args in let t = numbers_of a.tables in let i = place_of a.account in
    exit_away (order_stands t i a.o) (judged_trade t i (trade_of a.o)) (state a.book.now) _ _ c.from_residual.ensures.1
    (simp (to_z-of_z c.ranges.account) at c.in_err-i.ensures.code)

pub trade_of-requires : goal.trade_of-requires
trade_of-requires c = let a = c.args in
    (order_stood (numbers_of a.tables) (place_of a.account) a.o (state a.book.now) (sym (simp (to_z-of_z c.ranges.account) at c.in_ok-i.ensures.code))).terms

pub judge_order-requires : goal.judge_order-requires
judge_order-requires c = let a = c.args in let t = numbers_of a.tables in let f = c.ranges.account in
    let q = order_stood t (place_of a.account) a.o (state a.book.now) (sym (simp (to_z-of_z f) at c.in_ok-i.ensures.code)) in
    subst (λ (i : ℕ). TradeStands t i (state a.book.now) c.trade_of.result) (sym (at_place f c.in_ok-i.ensures.place))
    (subst (TradeStands t (place_of a.account) (state a.book.now)) (sym c.trade_of.ensures) q.stands)

pub returns : goal.returns
unfolding ordering
returns c = let a = c.args in let t = numbers_of a.tables in let i = place_of a.account in let f = c.ranges.account in
    c.judge_order.ensures
    ∙ ap₂ (λ (k : ℕ) (trade : Trade). outcome_of (judged_trade t k trade) (state a.book.now)) (at_place f c.in_ok-i.ensures.place) c.trade_of.ensures
    ∙ let_through (order_stands t i a.o) (judged_trade t i (trade_of a.o)) (state a.book.now) tt (sym (simp (to_z-of_z f) at c.in_ok-i.ensures.code))
