-- What a move leaves, for callers: taken back it leaves the block as it was, it changes one number, and a good block in bounds after it is good.
-- Assumes nothing.
use mathlib.Core.Path.{◌≡◌, ap, ◌∙◌}
use mathlib.Core.Logic.{◌⊎◌, inl, inr, ⊎_elim, ◌≢◌}
use mathlib.Core.Bool.{true, false, ◌||◌}
use mathlib.Core.List.{List}
use Prim.Native.Nat.{ℕ, ◌+◌, ◌*◌, ◌≤◌, ◌<◌}
use native.Mathlib.Omega.{arith}
use lib.IntN.{ℤ, neg_ℤ, ◌+ℤ◌}
use lib.ListN.{length, set}
use Rattle.whole.specs.Bounds.{is_zero}
use Rattle.whole.specs.Parts.{number}
use Rattle.whole.specs.Marks.{all_zero}
use Rattle.whole.proofs.Numbers.{lt_or_ge}
use Rattle.rates.specs.Tables.{listed}
use Rattle.book.specs.Block.{account_kind, rubles, move_at, ruble_numbers, holding_of, collateral, InHead}
use Rattle.book.specs.Rules.{in_bounds, good_block, holds_listed}
use Rattle.book.specs.Changes.{added, moved}
use Rattle.book.specs.Ranges.{MoveAsset}
use Rattle.book.proofs.Changed.{added_length, number_beside, added_back, part_added, part_beside}
use Rattle.book.proofs.Good.{still_good}
use Rattle.book.proofs.Holdings.{listed_at, listed_by, holds_listed_but}
use Rattle.book.proofs.Moves.{at_place, at_rubles, at_asset, move_inside}

module _ (block : List ℤ) (asset : ℕ) (amount : ℤ) where
  pub moved_length : length (moved block asset amount) ≡ length block
  unfolding moved
  moved_length = added_length block (move_at asset) amount

  module _ (m : MoveAsset asset) where
    pub moved_back : length block ≡ 288 → moved (moved block asset amount) asset (neg_ℤ amount) ≡ block
    unfolding moved
    moved_back long = added_back block (move_at asset) amount (rw long (move_inside asset m))

    -- the head is as it was
    pub moved_head : (k : ℕ) → InHead k → number (moved block asset amount) k ≡ number block k
    unfolding moved
    moved_head k h = number_beside block (move_at asset) amount k
        (at_place (λ j most. k ≢ j) asset m (λ l e. ⊎_elim (λ z. omega arith) (λ q. omega arith) h) (λ e. ⊎_elim (λ z. omega arith) (λ q. omega arith) h))

    -- the other assets' holdings are
    pub moved_holding_other : (a : ℕ) → a ≢ asset → holding_of (moved block asset amount) a ≡ holding_of block a
    unfolding moved
    moved_holding_other a apart = part_beside block (move_at asset) amount (16 + 17 * a) 17
        (at_place (λ k most. (k < 16 + 17 * a) ⊎ (16 + 17 * a + 17 ≤ k)) asset m
        (λ l. ⊎_elim (λ q. inr (omega arith)) (λ q. inl (omega (arith, apart))) (lt_or_ge a asset)) (inl (omega arith)))

    pub moved_good : is_zero (account_kind block) ≡ false → good_block block ≡ true → in_bounds (moved block asset amount) ≡ true → good_block (moved block asset amount) ≡ true
    moved_good = still_good block (moved block asset amount) moved_head

  -- a move of an asset: the rubles are as they were, and its own holding has the amount at its collateral
  module _ (l : asset < 16) where
    pub moved_rubles_other : ruble_numbers (moved block asset amount) ≡ ruble_numbers block
    unfolding moved
    moved_rubles_other = part_beside block (move_at asset) amount 1 9 (inr (omega (arith, at_asset l)))

    pub moved_holding : holding_of (moved block asset amount) asset ≡ set (holding_of block asset) 0 (collateral (holding_of block asset) +ℤ amount)
    unfolding moved added
    moved_holding = part_added block (move_at asset) amount (16 + 17 * asset) 17 0 (omega arith) (omega (arith, at_asset l))

    -- an asset that is moved is listed
    pub moved_listed : (clearing : List ℤ) → holds_listed block clearing ≡ true → listed clearing asset ≡ true → holds_listed (moved block asset amount) clearing ≡ true
    moved_listed clearing = holds_listed_but block (moved block asset amount) clearing asset (λ a h apart. moved_holding_other (inl l) a apart)

-- a move of rubles: they have the amount at their collateral, and every holding is as it was
module _ (block : List ℤ) (amount : ℤ) where
  pub moved_rubles : ruble_numbers (moved block rubles amount) ≡ set (ruble_numbers block) 0 (number (ruble_numbers block) 0 +ℤ amount)
  unfolding moved added
  moved_rubles = part_added block (move_at rubles) amount 1 9 0 (omega arith) at_rubles

  pub rubles_holding : (a : ℕ) → holding_of (moved block rubles amount) a ≡ holding_of block a
  unfolding moved
  rubles_holding a = part_beside block (move_at rubles) amount (16 + 17 * a) 17 (inl (omega (arith, at_rubles)))

  pub rubles_listed : (clearing : List ℤ) → holds_listed block clearing ≡ true → holds_listed (moved block rubles amount) clearing ≡ true
  rubles_listed clearing e =
      listed_by (moved block rubles amount) clearing
      (λ a l. ap (λ (h : List ℤ). listed clearing a || all_zero h) (rubles_holding a) ∙ listed_at block clearing a l e)
