-- What a trade leaves, for callers: taken back it leaves the block as it was, it changes one number of its asset and one of the rubles, and a good block in
-- bounds after it is good. Assumes nothing.
use mathlib.Core.Path.{◌≡◌, ap, ap₂, ◌∙◌}
use mathlib.Core.Logic.{◌≢◌, inl, inr, ⊎_elim}
use mathlib.Core.Bool.{true, false}
use mathlib.Core.List.{List}
use Prim.Native.Nat.{ℕ, ◌+◌, ◌*◌}
use native.Mathlib.Omega.{arith}
use lib.IntN.{ℤ, neg_ℤ}
use lib.ListN.{length}
use Rattle.whole.specs.Bounds.{is_zero}
use Rattle.whole.specs.Parts.{number}
use Rattle.whole.proofs.Numbers.{lt_or_ge}
use Rattle.rates.specs.Tables.{listed}
use Rattle.book.specs.Block.{account_kind, ruble_numbers, holding_of, InHead}
use Rattle.book.specs.Rules.{in_bounds, good_block, holds_listed}
use Rattle.book.specs.Changes.{added, money_of, traded, reversed}
use Rattle.book.specs.Ranges.{TradeRanges}
use Rattle.book.specs.declared.changes.Trade.{Trade}
use Rattle.book.proofs.Changed.{added_length, number_beside, added_back, added_apart, part_added, part_beside}
use Rattle.book.proofs.Good.{still_good}
use Rattle.book.proofs.Holdings.{holds_listed_but}
use Rattle.book.proofs.Trades.{money_reversed, quantity_at, net_at, in_holding, among_quantities, net_apart, quantity_inside, net_inside}

module _ (block : List ℤ) (t : Trade) where
  pub traded_length : length (traded block t) ≡ length block
  unfolding traded
  traded_length = added_length (added block (quantity_at t) t.quantity) (net_at t) (money_of t) ∙ added_length block (quantity_at t) t.quantity

module _ (block : List ℤ) (t : Trade) (r : TradeRanges t) where
  -- reversed, it takes the trade back
  pub traded_back : length block ≡ 288 → traded (traded block t) (reversed t) ≡ block
  unfolding traded reversed
  traded_back long =
      ap₂ (λ (b : List ℤ) (z : ℤ). added b (net_at t) z)
      (added_apart (added block (quantity_at t) t.quantity) (net_at t) (money_of t) (quantity_at t) (neg_ℤ t.quantity) (net_apart t r)
      ∙ ap (λ (b : List ℤ). added b (net_at t) (money_of t)) (added_back block (quantity_at t) t.quantity (quantity_inside t r block long)))
      (money_reversed t)
      ∙ added_back block (net_at t) (money_of t) (net_inside t r block long)

  -- the head is as it was
  pub traded_head : (k : ℕ) → InHead k → number (traded block t) k ≡ number block k
  unfolding traded
  traded_head k h =
      number_beside (added block (quantity_at t) t.quantity) (net_at t) (money_of t) k (λ e. ⊎_elim (λ z. omega arith) (λ l. omega arith) h)
      ∙ number_beside block (quantity_at t) t.quantity k (λ e. ⊎_elim (λ z. omega arith) (λ l. omega arith) h)

  -- the other assets' holdings are
  pub traded_holding_other : (a : ℕ) → a ≢ t.asset → holding_of (traded block t) a ≡ holding_of block a
  unfolding traded
  traded_holding_other a apart =
      part_beside (added block (quantity_at t) t.quantity) (net_at t) (money_of t) (16 + 17 * a) 17 (inl (omega arith))
      ∙ part_beside block (quantity_at t) t.quantity (16 + 17 * a) 17
      (⊎_elim (λ l. inr (omega (arith, among_quantities t r))) (λ l. inl (omega (arith, apart))) (lt_or_ge a t.asset))

  -- the asset's own has the quantity at the date's claim or obligation
  pub traded_holding : holding_of (traded block t) t.asset ≡ added (holding_of block t.asset) (1 + (8 * t.side + t.date)) t.quantity
  unfolding traded
  traded_holding =
      part_beside (added block (quantity_at t) t.quantity) (net_at t) (money_of t) (16 + 17 * t.asset) 17 (inl (omega arith))
      ∙ part_added block (quantity_at t) t.quantity (16 + 17 * t.asset) 17 (1 + (8 * t.side + t.date)) (omega (arith, among_quantities t r)) (in_holding t r)

  -- and the rubles have the money at the date's net
  pub traded_rubles : ruble_numbers (traded block t) ≡ added (ruble_numbers block) (1 + t.date) (money_of t)
  unfolding traded
  traded_rubles =
      part_added (added block (quantity_at t) t.quantity) (net_at t) (money_of t) 1 9 (1 + t.date) (omega arith) (omega arith)
      ∙ ap (λ (s : List ℤ). added s (1 + t.date) (money_of t)) (part_beside block (quantity_at t) t.quantity 1 9 (inr (omega arith)))

  pub traded_good : is_zero (account_kind block) ≡ false → good_block block ≡ true → in_bounds (traded block t) ≡ true → good_block (traded block t) ≡ true
  traded_good = still_good block (traded block t) traded_head

  -- an asset that is traded is listed
  pub traded_listed : (clearing : List ℤ) → holds_listed block clearing ≡ true → listed clearing t.asset ≡ true → holds_listed (traded block t) clearing ≡ true
  traded_listed clearing = holds_listed_but block (traded block t) clearing t.asset (λ a l apart. traded_holding_other a apart)
