-- What a call's refusals give, by name, to what is called past them.
-- Assumes nothing.
use Rattle.std.specs.Prelude.{◌≡◌, true, false, ℕ, ℤ}
use Rattle.whole.specs.Bounds.{is_zero}
use Rattle.whole.specs.Marks.{all_zero}
use Rattle.rates.specs.Lent.{Tables}
use Rattle.rates.specs.Ranges.{TableRanges}
use Rattle.book.specs.Block.{account_kind}
use Rattle.book.specs.Rules.{in_bounds}
use Rattle.book.specs.Changes.{traded, move_out}
use Rattle.book.specs.Ranges.{Tradable, Movable}
use Rattle.book.specs.AtAccount.{InBook}
use Rattle.book.specs.declared.changes.Trade.{Trade}
use Rattle.settlement.specs.Code.{code_right}
use Rattle.engine.specs.State.{State, block_at}

-- a block that may be opened: it is in the book and empty
pub record Openable (i : ℕ) (s : State) : Type 0 where
  pub there : InBook s.book i
  pub empty : all_zero (block_at s i) ≡ true

-- an account that may be judged: it is in the book and open, its code is right, and the tables are sound
pub record Judgeable (tables : Tables) (i : ℕ) (s : State) : Type 0 where
  pub there : InBook s.book i
  pub right : code_right s.book i ≡ true
  pub is_open : is_zero (account_kind (block_at s i)) ≡ false
  pub sound : TableRanges tables

-- a trade and a move that stand: every code before 10 let them through
pub record TradeStands (tables : Tables) (i : ℕ) (s : State) (t : Trade) : Type 0 where
  pub judgeable : Judgeable tables i s
  pub tradable : Tradable (block_at s i) t
  pub in_bounds : in_bounds (traded (block_at s i) t) ≡ true

pub record MoveStands (tables : Tables) (i : ℕ) (s : State) (asset : ℕ) (amount : ℤ) : Type 0 where
  pub judgeable : Judgeable tables i s
  pub movable : Movable (block_at s i) asset amount
  pub not_out : move_out (block_at s i) asset amount ≡ false
