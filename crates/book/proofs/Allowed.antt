-- What codes 7 and 8 say of an order's or a move's numbers that passed them. Assumes nothing.
use mathlib.Core.Path.{◌≡◌, ap}
use mathlib.Core.Logic.{◌⊎◌, inl, inr, ⊎_elim}
use mathlib.Core.Bool.{Bool, true, false, cond, not, ◌&&◌}
use native.Mathlib.Omega.{arith}
use lib.IntN.{ℤ, pos, nat_abs}
use Rattle.whole.specs.Bounds.{between, is_zero, ◌within◌}
use Rattle.whole.proofs.Bounds.{amid, between_yes, equal_says}
use Rattle.whole.proofs.Parameters.{index_is}
use Rattle.whole.proofs.Rules.{ints}
use Rattle.whole.proofs.Tests.{and_left, and_right}
use Rattle.book.specs.Block.{most_rubles, most_units}
use Rattle.book.specs.Rules.{rubles_right, collateral_right}
use Rattle.book.specs.Choices.{asset_right, is_rubles, move_amount_right, trade_of}
use Rattle.book.specs.Ranges.{TermsRanges, TradeRanges, MoveAsset}
use Rattle.book.specs.declared.terms.Terms.{Terms}
use Rattle.book.proofs.Amounts.{large}

-- ---- an order's numbers
module _ (o : Terms) (r : TermsRanges o) where
  pub asset_in : asset_right o.asset ≡ true
  asset_in = and_left _ (between (pos 0) o.date (pos 7) && between (pos 0) o.side (pos 1)) r.choice

  later : between (pos 0) o.date (pos 7) && between (pos 0) o.side (pos 1) ≡ true
  later = and_right (asset_right o.asset) _ r.choice

  pub date_in : between (pos 0) o.date (pos 7) ≡ true
  date_in = and_left _ (between (pos 0) o.side (pos 1)) later

  pub side_in : between (pos 0) o.side (pos 1) ≡ true
  side_in = and_right (between (pos 0) o.date (pos 7)) _ later

  -- the trade that they name
  pub trade_ranges : TradeRanges (trade_of o)
  trade_ranges = record {
    asset_below = let h = index_is o.asset 15 asset_in in omega arith;
    date_below = let h = index_is o.date 7 date_in in omega arith;
    side_below = let h = index_is o.side 1 side_in in omega arith;
    quantity_within = let a = amid (and_left _ (between (pos 0) o.money (pos most_rubles)) r.amounts) in omega ints;
    money_within = let a = amid (and_right (between (pos 1) o.quantity (pos most_units)) _ r.amounts) in omega ints;
  }

-- ---- a move's asset and amount
module _ (asset : ℤ) (e : (is_rubles asset ≡ true) ⊎ (asset_right asset ≡ true)) where
  pub move_in : between (pos 0) asset (pos 255) ≡ true
  move_in = ⊎_elim
      (λ r. let a = amid r in between_yes (omega ints) (omega ints))
      (λ r. let a = amid r in between_yes (omega ints) (omega ints)) e

  pub move_asset : MoveAsset (nat_abs asset)
  move_asset = ⊎_elim (λ r. inr (ap nat_abs (equal_says r))) (λ r. inl (let h = index_is asset 15 r in omega arith)) e

pub move_amount : (asset amount : ℤ) → move_amount_right asset amount ≡ true → amount within large
move_amount asset amount e = go (is_rubles asset) (and_right (not (is_zero amount)) _ e)
  where
    go : (b : Bool) → cond b (rubles_right amount) (collateral_right amount) ≡ true → amount within large
    go true e = let a = amid e in omega ints
    go false e = let a = amid e in omega ints
