-- The blocks that are valued together (clause 4.11), as code lists them: the kind that they share, and their places in the book, at most four. A
-- definition sums over accounts by what adds them up; `over_members` is how code does.
-- Assumes nothing.
use Rattle.std.specs.Prelude.{◌≡◌, List, [], ◌∷◌, ℕ, ◌≤◌, ◌<◌, ℤ, nat_abs, length, get_or}
use Rattle.whole.specs.Sums.{Σ<}
use Rattle.book.specs.Block.{accounts, book_length, block_of, account_kind}
use Rattle.book.specs.Ranges.{BlockRanges}
use Rattle.book.specs.declared.members.Members.{Members}

-- the most blocks that are valued together (#104)
abbrev pub most_members : ℕ
most_members = 4

-- the place of member k, and the sum of what each member gives
abbrev pub member_at : Members → ℕ → ℕ
member_at m k = get_or m.at k 0

abbrev pub over_members : Members → (ℕ → ℤ) → ℤ
over_members m f = Σ< m.count (λ k. f (member_at m k))

-- the kind of account i, as code holds it
abbrev pub kind_at : List ℤ → ℕ → ℕ
kind_at book i = nat_abs (account_kind (block_of book i))

-- an account alone
abbrev pub alone_at : List ℤ → ℕ → Members
alone_at book i = record { kind = kind_at book i; count = 1; at = i ∷ 0 ∷ 0 ∷ 0 ∷ [] }

-- members that can be valued: one to four accounts of a whole book, the numbers of their blocks in range. That they differ, and are of the list's kind, is
-- for the maker of the list to show (of a settlement code: its laws `MembersRise` and `MembersOfOneKind`)
pub record MemberRanges (book : List ℤ) (m : Members) : Type 0 where
  pub long : length book ≡ book_length
  pub room : length m.at ≡ most_members
  pub some : 0 < m.count
  pub few : m.count ≤ most_members
  pub below : (k : ℕ) → k < m.count → member_at m k < accounts
  pub block : (k : ℕ) → k < m.count → BlockRanges (block_of book (member_at m k))
