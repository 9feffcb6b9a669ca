-- A move of collateral and a trade do not meet: they change different numbers, so either may come first, and the bounds of a move are those of its own
-- number alone. Assumes nothing.
use mathlib.Core.Path.{◌≡◌, sym, ap, ◌∙◌}
use mathlib.Core.Bool.{true}
use mathlib.Core.List.{List}
use mathlib.Core.Logic.{◌≢◌, ⊎_elim}
use Prim.Native.Nat.{ℕ}
use native.Mathlib.Omega.{arith}
use lib.IntN.{ℤ, ◌+ℤ◌}
use lib.ListN.{length, set}
use Rattle.whole.specs.Parts.{number}
use Rattle.whole.proofs.Numbers.{lt_or_ge}
use Rattle.book.specs.Block.{move_at}
use Rattle.book.specs.Rules.{in_bounds}
use Rattle.book.specs.Changes.{added, money_of, traded, moved}
use Rattle.book.specs.Ranges.{TradeRanges, MoveAsset}
use Rattle.book.specs.declared.changes.Trade.{Trade}
use Rattle.book.proofs.Changed.{number_beside, added_apart}
use Rattle.book.proofs.Moves.{at_place}
use Rattle.book.proofs.Replaced.{ruble_bounds, collateral_bounds}
use Rattle.book.proofs.Trades.{quantity_at, net_at}

module _ (t : Trade) (r : TradeRanges t) (asset : ℕ) (m : MoveAsset asset) where
  quantity_apart : move_at asset ≢ quantity_at t
  quantity_apart = at_place (λ k most. k ≢ quantity_at t) asset m
      (λ l e. ⊎_elim (λ h. omega arith) (λ h. omega arith) (lt_or_ge t.asset asset)) (λ e. omega arith)

  net_apart : move_at asset ≢ net_at t
  net_apart = at_place (λ k most. k ≢ net_at t) asset m (λ l e. omega arith) (λ e. omega arith)

  module _ (block : List ℤ) where
    -- a trade leaves every collateral
    pub traded_collateral : number (traded block t) (move_at asset) ≡ number block (move_at asset)
    unfolding traded
    traded_collateral =
        number_beside (added block (quantity_at t) t.quantity) (net_at t) (money_of t) (move_at asset) net_apart
        ∙ number_beside block (quantity_at t) t.quantity (move_at asset) quantity_apart

    -- either may come first
    pub traded_moved : (amount : ℤ) → traded (moved block asset amount) t ≡ moved (traded block t) asset amount
    unfolding traded moved
    traded_moved amount =
        ap (λ (b : List ℤ). added b (net_at t) (money_of t)) (added_apart block (move_at asset) amount (quantity_at t) t.quantity quantity_apart)
        ∙ added_apart (added block (quantity_at t) t.quantity) (move_at asset) amount (net_at t) (money_of t) net_apart

-- two blocks in bounds with the same collateral: a move leaves both in bounds, or neither
pub moved_bounds : (block other : List ℤ) (asset : ℕ) (amount : ℤ) → MoveAsset asset → length block ≡ 288 → length other ≡ 288
    → in_bounds block ≡ true → in_bounds other ≡ true → number other (move_at asset) ≡ number block (move_at asset)
    → in_bounds (moved other asset amount) ≡ in_bounds (moved block asset amount)
unfolding moved added
moved_bounds block other asset amount m long long' right right' =
    at_place (λ k most. number other k ≡ number block k → in_bounds (set other k (number other k +ℤ amount)) ≡ in_bounds (set block k (number block k +ℤ amount))) asset m
    (λ l e. collateral_bounds other long' right' asset _ l ∙ rw e (sym (collateral_bounds block long right asset _ l)))
    (λ e. ruble_bounds other long' right' 0 _ (omega arith) ∙ rw e (sym (ruble_bounds block long right 0 _ (omega arith))))
