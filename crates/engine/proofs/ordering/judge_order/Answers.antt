-- `ordering::judge_order` meets its contract: a trade whose limit is not enough is taken back, which leaves the book as it was found; then the second
-- ground decides. Assumes nothing.
use mathlib.Core.Path.{◌≡◌, sym, ap, ap₂, ◌∙◌, subst}
use mathlib.Core.List.{List}
use lib.IntN.{ℤ}
use mir.Facts.{to_z-of_z}
use Prim.Native.Nat.{ℕ}
use Rattle.whole.proofs.Machine.{back}
use Rattle.rates.specs.Lent.{numbers_of}
use Rattle.book.specs.Changes.{traded}
use Rattle.book.specs.AtAccount.{at_account}
use Rattle.book.specs.declared.changes.Trade.{Trade}
use Rattle.engine.specs.State.{State, state, with_book, changed_at}
use Rattle.engine.specs.Refused.{limit_of, enough, order_judged}
use Rattle.engine.specs.Ranges.{Judgeable, TradeStands}
use Rattle.engine.specs.Calls.{outcome_of, judged_trade, raising_trade}
use Rattle.engine.proofs.Judged.{judgeable_booked, reversible, booked_back}
use Rattle.engine.proofs.Outcomes.{made}
use Rattle.engine.proofs.Grounds.{first_ground, second_ground}
use Rattle.engine.proofs.ordering.judge_order.Goals as goal
use Rattle.engine.proofs.ordering.judge_order.Goals.{After-is_enough, After-trade_in-2}

-- the state with the trade booked
abbrev booked : List ℤ → ℕ → Trade → State
booked book i t = changed_at i (λ b. traded b t) (state book)

pub limit_at-after-requires : goal.limit_at-after-requires
limit_at-after-requires c = let a = c.args in
    subst (λ (b : List ℤ). Judgeable (numbers_of a.tables) a.i (with_book (state a.book.now) b)) (sym c.trade_in.ensures) (judgeable_booked _ _ _ _ c.requires)

-- the limit that is looked at is that of the state with the trade
limit_after : (c : After-is_enough) → let a = c.args in back c.limit_at-after.result ≡ limit_of (numbers_of a.tables) a.i (booked a.book.now a.i a.t)
limit_after c = let a = c.args in
    to_z-of_z c.limit_at-after.ensures.1
    ∙ c.limit_at-after.ensures.0
    ∙ ap (λ (b : List ℤ). limit_of (numbers_of a.tables) a.i (with_book (state a.book.now) b)) c.trade_in.ensures

admits : (c : After-is_enough) → let a = c.args in c.is_enough.result ≡ enough (limit_of (numbers_of a.tables) a.i (booked a.book.now a.i a.t))
admits c = c.is_enough.ensures ∙ ap enough (limit_after c)

pub returns-then-is_enough : goal.returns-then-is_enough
unfolding judged_trade
returns-then-is_enough c = let a = c.args in let t = numbers_of a.tables in let e = admits (goal.at.returns-then-is_enough c).After-is_enough in
    made (order_judged t a.i a.t) a.i (λ b. traded b a.t) (state a.book.now) tt
    (first_ground t a.i a.t (state a.book.now) (sym e ∙ c.if-is_enough.true)) c.trade_in.ensures

pub trade_in-requires-2 : goal.trade_in-requires-2
trade_in-requires-2 c = rw (c.trade_in.ensures, c.reversed-back.ensures.0) (reversible _ _ _ _ c.requires)

-- taken back, it leaves the book as it was found
returned : (c : After-trade_in-2) → c.trade_in-2.new.book ≡ c.args.book.now
returned c =
    c.trade_in-2.ensures
    ∙ ap₂ (λ (b : List ℤ) (t : Trade). at_account b c.args.i (λ b. traded b t)) c.trade_in.ensures c.reversed-back.ensures.0
    ∙ booked_back _ _ _ _ c.requires

pub book_if_raised-requires : goal.book_if_raised-requires
book_if_raised-requires c = let a = c.args in let e = returned (goal.at.book_if_raised-requires c).After-trade_in-2 in
    subst (λ (b : List ℤ). TradeStands (numbers_of a.tables) a.i (with_book (state a.book.now) b) a.t) (sym e) c.requires

pub returns : goal.returns
returns c =
    let a = c.args in
    let t = numbers_of a.tables in
    let judged = (goal.at.returns c).After-is_enough in
    c.book_if_raised.ensures
    ∙ ap₂ (λ (limit : ℤ) (b : List ℤ). outcome_of (raising_trade t a.i a.t limit) (with_book (state a.book.now) b)) (limit_after judged)
    (returned (goal.at.returns c).After-trade_in-2)
    ∙ second_ground t a.i a.t (state a.book.now) (sym (admits judged) ∙ c.if-is_enough.false)
