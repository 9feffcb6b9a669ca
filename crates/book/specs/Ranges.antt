-- What the block rules give of a block's numbers, by name, and what codes 7 and 8 give of an order's and a move's. Assumes nothing.
use Rattle.std.specs.Prelude.{◌≡◌, true, List, ◌⊎◌, ℕ, ◌<◌, ℤ, length}
use Rattle.whole.specs.Bounds.{◌within◌, ◌upto◌}
use Rattle.whole.specs.Parts.{number}
use Rattle.book.specs.Block.{block_length, most_rubles, most_units, account_kind, ruble_numbers, holding_length, holding_of, collateral, claim, obligation, rubles}
use Rattle.book.specs.Rules.{in_bounds}
use Rattle.book.specs.Choices.{choice_right, amounts_right}
use Rattle.book.specs.declared.terms.Terms.{Terms}
use Rattle.book.specs.declared.changes.Trade.{Trade}

-- an asset's 17 numbers
pub record HoldingRanges (holding : List ℤ) : Type 0 where
  pub long : length holding ≡ holding_length
  pub collateral_within : collateral holding within most_units
  pub claim_upto : (d : ℕ) → d < 8 → claim holding d upto most_units
  pub obligation_upto : (d : ℕ) → d < 8 → obligation holding d upto most_units

-- ruble collateral and the eight ruble nets
pub record RubleRanges (numbers : List ℤ) : Type 0 where
  pub long : length numbers ≡ 9
  pub each_within : (k : ℕ) → k < 9 → number numbers k within most_rubles

pub record BlockRanges (block : List ℤ) : Type 0 where
  pub long : length block ≡ block_length
  pub kind_upto : account_kind block upto 3
  pub rubles_range : RubleRanges (ruble_numbers block)
  pub holding : (a : ℕ) → a < 16 → HoldingRanges (holding_of block a)

-- ---- what codes 7 and 8 give of an order's numbers, of the trade that they name, and of a move
pub record TermsRanges (o : Terms) : Type 0 where
  pub choice : choice_right o ≡ true
  pub amounts : amounts_right o ≡ true

-- a trade, or one reversed
pub record TradeRanges (t : Trade) : Type 0 where
  pub asset_below : t.asset < 16
  pub date_below : t.date < 8
  pub side_below : t.side < 2
  pub quantity_within : t.quantity within most_units
  pub money_within : t.money within most_rubles

abbrev pub MoveAsset : ℕ → Type 0
MoveAsset asset = (asset < 16) ⊎ (asset ≡ rubles)

-- ---- a trade and a move in a block of 288 numbers in bounds
pub record Bounded (block : List ℤ) : Type 0 where
  pub long : length block ≡ block_length
  pub in_bounds : in_bounds block ≡ true

pub record Tradable (block : List ℤ) (t : Trade) : Type 0 where
  pub bounded : Bounded block
  pub ranges : TradeRanges t

pub record Movable (block : List ℤ) (asset : ℕ) (amount : ℤ) : Type 0 where
  pub bounded : Bounded block
  pub movable : MoveAsset asset
  pub amount_within : amount within most_rubles
