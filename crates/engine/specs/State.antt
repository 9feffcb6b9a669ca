-- What calls change, as one record: a definition takes the state whole, so that one more thing changed is one more field.
-- Assumes nothing.
use Rattle.std.specs.Prelude.{List, ℕ, ℤ}
use Rattle.std.specs.Borrow.{MutBor}
use denote.Triple.Both.{Both}
use Rattle.book.specs.Block.{block_of}
use Rattle.book.specs.AtAccount.{at_account}

pub record State : Type 0 where
  pub book : List ℤ

-- as a contract names it: of a book that is lent to read, and of one that may be changed, as a `requires` finds it
abbrev pub state : List ℤ → State
state book = record { book = book }

-- and as an `ensures` does where the call may change the book: what the call found, and what it left
abbrev pub Changed : Type 0
Changed = Both (MutBor (List ℤ)) (MutBor (List ℤ))

abbrev pub found : Changed → State
found book = state book.entry.now

abbrev pub left : Changed → State
left book = state book.exit.now

-- the state with another book
abbrev pub with_book : State → List ℤ → State
with_book s book = record { book = book }

-- an account's block, and the state with it changed
abbrev pub block_at : State → ℕ → List ℤ
block_at s i = block_of s.book i

abbrev pub changed_at : ℕ → (List ℤ → List ℤ) → State → State
changed_at i change s = with_book s (at_account s.book i change)
