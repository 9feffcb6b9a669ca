-- Document 01, codes 7 and 8: what an order and a move may name, asked of their numbers alone. Whether an asset is listed is asked of the tables.
-- Assumes nothing.
use Rattle.std.specs.Prelude.{Bool, not, cond, ◌&&◌, ℤ, pos, nat_abs}
use Rattle.whole.specs.Bounds.{between, equal, is_zero}
use Rattle.book.specs.Block.{most_rubles, most_units, rubles}
use Rattle.book.specs.Rules.{rubles_right, collateral_right}
use Rattle.book.specs.declared.terms.Terms.{Terms}
use Rattle.book.specs.declared.changes.Trade.{Trade}

-- ---- an order
abbrev pub asset_right : ℤ → Bool
asset_right asset = between (pos 0) asset (pos 15)

abbrev pub choice_right : Terms → Bool
choice_right o = asset_right o.asset && (between (pos 0) o.date (pos 7) && between (pos 0) o.side (pos 1))

abbrev pub amounts_right : Terms → Bool
amounts_right o = between (pos 1) o.quantity (pos most_units) && between (pos 0) o.money (pos most_rubles)

-- the trade that it names
abbrev pub trade_of : Terms → Trade
trade_of o = record {
  asset = nat_abs o.asset;
  date = nat_abs o.date;
  side = nat_abs o.side;
  quantity = o.quantity;
  money = o.money;
}

-- ---- a move: of 255, rubles, or of an asset; not 0, and within ±10^14 or ±10^6
abbrev pub is_rubles : ℤ → Bool
is_rubles asset = equal asset (pos rubles)

abbrev pub move_amount_right : ℤ → ℤ → Bool
move_amount_right asset amount = not (is_zero amount) && cond (is_rubles asset) (rubles_right amount) (collateral_right amount)
