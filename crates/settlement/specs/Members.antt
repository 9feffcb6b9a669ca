-- The list of the blocks on a code (clause 4.11): the accounts on it, by rising account, so that a sum over the list is the sum over the code; and what
-- the rules of a code give.
-- Assumes nothing.
use Rattle.std.specs.Prelude.{◌≡◌, Bool, true, cond, List, [], ◌∷◌, ℕ, zero, suc, ◌+◌, ◌<◌, ◌≤◌, ℤ, length, set}
use Rattle.whole.specs.Sums.{Σ<on}
use Rattle.book.specs.Block.{accounts, book_length, block_of}
use Rattle.book.specs.Ranges.{BlockRanges}
use Rattle.book.specs.Members.{most_members, member_at, over_members, kind_at}
use Rattle.book.specs.declared.members.Members.{Members}
use Rattle.settlement.specs.Code.{on_code, count_on}

-- a list with account j behind its members
abbrev pub joined : Members → ℕ → Members
joined m j = record { kind = m.kind; count = m.count + 1; at = set m.at m.count j }

-- those of the accounts 0, 1, .., n − 1 that are on a code, under the kind that they share; the places behind them are 0, and a fifth is counted and has
-- none
unfoldable pub list_of : (ℕ → Bool) → ℕ → ℕ → Members
list_of on kind zero = record { kind = kind; count = 0; at = 0 ∷ 0 ∷ 0 ∷ 0 ∷ [] }
list_of on kind (suc n) = cond (on n) (joined (list_of on kind n) n) (list_of on kind n)

-- the list of account i's code
abbrev pub members_of : List ℤ → ℕ → Members
members_of book i = list_of (on_code book i) (kind_at book i) accounts

-- m lists those of the accounts 0, 1, .., n − 1 that are on the code
pub record Lists (on : ℕ → Bool) (n : ℕ) (m : Members) : Type 0 where
  pub room : length m.at ≡ most_members
  pub counted : m.count ≡ count_on on n
  pub below : (k : ℕ) → k < m.count → member_at m k < n
  pub rising : (k : ℕ) → suc k < m.count → member_at m k < member_at m (suc k)
  pub on_code : (k : ℕ) → k < m.count → on (member_at m k) ≡ true
  pub sums : (f : ℕ → ℤ) → over_members m f ≡ Σ<on n on f

-- what the rules of a code give: at most four blocks on it, each with its numbers in range
pub record CodeRanges (book : List ℤ) (i : ℕ) : Type 0 where
  pub long : length book ≡ book_length
  pub below : i < accounts
  pub few : count_on (on_code book i) accounts ≤ most_members
  pub block : (j : ℕ) → j < accounts → on_code book i j ≡ true → BlockRanges (block_of book j)
