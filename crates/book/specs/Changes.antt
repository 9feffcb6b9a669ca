-- Document 01, "Calls and turning away": what open, a move and a trade leave in a block. A move and a trade add to numbers of the block; the
-- same amounts taken back leave it as it was.
-- Assumes nothing.
use Rattle.std.specs.Prelude.{Bool, not, cond, ◌&&◌, ◌||◌, List, ℕ, eqb, ℤ, pos, neg_ℤ, ◌+ℤ◌, set}
use Rattle.std.specs.Int.Signed.{lt_z}
use Rattle.whole.specs.Parts.{number}
use Rattle.book.specs.Block.{most_rubles, most_units, rubles, ruble_net_at, trade_at, move_at}
use Rattle.book.specs.Rules.{in_bounds}
use Rattle.book.specs.declared.changes.Trade.{Trade}

-- a block opened as a kind of account on a settlement code; with 0 and 0 an empty block that was opened is closed again
unfoldable pub opened : List ℤ → ℤ → ℤ → List ℤ
opened block kind code = set (set block 0 kind) 13 code

-- numbers with an amount added to number k
unfoldable pub added : List ℤ → ℕ → ℤ → List ℤ
added numbers k amount = set numbers k (number numbers k +ℤ amount)

-- what a trade does to the date's ruble net: a buy (side 0) takes the money from it, a sell adds it
unfoldable pub money_of : Trade → ℤ
money_of t = cond (eqb t.side 0) (neg_ℤ t.money) t.money

-- a block with a trade booked: quantity to the date's claim or obligation, money to or from the date's ruble net
unfoldable pub traded : List ℤ → Trade → List ℤ
traded block t = added (added block (trade_at t.asset t.date t.side) t.quantity) (ruble_net_at t.date) (money_of t)

-- the same with its amounts turned round: booked after it, it leaves the block as it was
unfoldable pub reversed : Trade → Trade
reversed t = record { asset = t.asset; date = t.date; side = t.side; quantity = neg_ℤ t.quantity; money = neg_ℤ t.money }

-- code 9 of a trade: a number would leave its bounds
abbrev pub trade_out : List ℤ → Trade → Bool
trade_out block t = not (in_bounds (traded block t))

-- a block with an amount added to the collateral of an asset, or of rubles; a withdrawal adds a negative amount
unfoldable pub moved : List ℤ → ℕ → ℤ → List ℤ
moved block asset amount = added block (move_at asset) amount

-- the most that may stand there, and the least that a move may leave: 0 where it is a withdrawal
unfoldable pub most_of : ℕ → ℤ
most_of asset = cond (eqb asset rubles) (pos most_rubles) (pos most_units)

unfoldable pub least_after : ℤ → ℤ → ℤ
least_after amount most = cond (lt_z amount (pos 0)) (pos 0) (neg_ℤ most)

-- a withdrawal would leave collateral below 0
unfoldable pub overdrawn : List ℤ → ℕ → ℤ → Bool
overdrawn block asset amount = lt_z amount (pos 0) && lt_z (number (moved block asset amount) (move_at asset)) (pos 0)

-- code 9 of a move: a number would leave its bounds, or a withdrawal would leave collateral below 0
abbrev pub move_out : List ℤ → ℕ → ℤ → Bool
move_out block asset amount = not (in_bounds (moved block asset amount)) || overdrawn block asset amount
