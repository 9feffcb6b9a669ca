-- `changes::reversed` meets its contract: amounts within their bounds can be turned round. Assumes nothing.
use mathlib.Core.Path.{◌≡◌, sym, subst}
use native.Mathlib.Omega.{arith}
use lib.IntN.{pos, ◌-ℤ◌}
use Rattle.whole.proofs.Bounds.{wider}
use Rattle.whole.proofs.Machine.{back}
use Rattle.book.specs.Changes.{reversed}
use Rattle.book.specs.Ranges.{TradeRanges}
use Rattle.book.specs.declared.changes.Trade.{Trade}
use Rattle.book.proofs.Amounts.{large, negated}
use Rattle.book.proofs.Trades.{reversed_ranges}
use Rattle.book.proofs.changes.reversed.Goals as goal

made : (t : Trade) → TradeRanges t
    → ◌≡◌ {A = Trade} (record { asset = t.asset; date = t.date; side = t.side; quantity = back (pos 0 -ℤ back t.quantity); money = back (pos 0 -ℤ back t.money) }) (reversed t)
unfolding reversed
made t r = λ i. record {
  asset = t.asset;
  date = t.date;
  side = t.side;
  quantity = negated (wider large r.quantity_within (omega arith)) i;
  money = negated r.money_within i;
}

pub returns : goal.returns
returns c = let e = made c.args.t c.requires in (e, subst TradeRanges (sym e) (reversed_ranges c.requires))
