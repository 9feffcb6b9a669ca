-- `accounts::trade_in` meets its contract: the block is lent, the trade booked in it, and given back. Assumes nothing.
use mathlib.Core.List.{List}
use lib.IntN.{ℤ}
use Rattle.book.specs.Changes.{traded}
use Rattle.book.specs.Ranges.{Tradable}
use Rattle.book.proofs.AtAccount.{back_at, of_lent}
use Rattle.book.proofs.accounts.trade_in.Goals as goal

pub book_trade-requires : goal.book_trade-requires
book_trade-requires c = of_lent c.args.book.now c.args.i (λ (b : List ℤ). Tradable b c.args.t) c.requires.1

pub returns : goal.returns
returns c = let a = c.args in
    back_at a.book.now a.i (λ b. traded b a.t) c.book_trade.ensures
