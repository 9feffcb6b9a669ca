-- Clause 4.11, #104: several trade accounts under one settlement code. Number 13 of a block is its code; 0 is no code and is never shared. An account is
-- on its own code, with every other block whose number 13 is the same, open or not.
-- Assumes nothing.
use Rattle.std.specs.Prelude.{Bool, not, cond, ◌&&◌, ◌||◌, List, ℕ, zero, suc, ◌+◌, eqb, leb, ℤ, Option, Some, None}
use Rattle.whole.specs.Bounds.{equal, is_zero}
use Rattle.whole.specs.Marks.{every}
use Rattle.book.specs.Block.{accounts, block_of, account_kind, settlement_code}
use Rattle.book.specs.Rules.{good_block, holds_listed}
use Rattle.book.specs.Members.{most_members}

-- whether block j is on the code of account i
unfoldable pub on_code : List ℤ → ℕ → ℕ → Bool
on_code book i j =
    eqb i j || (not (is_zero (settlement_code (block_of book i))) && equal (settlement_code (block_of book j)) (settlement_code (block_of book i)))

-- how many of the accounts 0, 1, .., n − 1 are on a code, and whether each account on it passes a test
unfoldable pub count_on : (ℕ → Bool) → ℕ → ℕ
count_on on zero = 0
count_on on (suc n) = count_on on n + cond (on n) 1 0

abbrev pub where_on : (ℕ → Bool) → (ℕ → Bool) → ℕ → Bool
where_on on test j = not (on j) || test j

unfoldable pub every_on : (ℕ → Bool) → (ℕ → Bool) → Bool
every_on on test = every accounts (where_on on test)

-- how many are on a code, where each account on it passes a test
unfoldable pub passing : (ℕ → Bool) → (ℕ → Bool) → Option ℕ
passing on test = cond (every_on on test) (Some (count_on on accounts)) None

-- a block that keeps the block rules and has the account's kind
unfoldable pub member_right : List ℤ → ℕ → ℕ → Bool
member_right book i j = good_block (block_of book j) && equal (account_kind (block_of book j)) (account_kind (block_of book i))

-- what refusal 6 asks of a code: every block on it is right, and there are at most four (a code outside 0 to 15 is a broken block)
unfoldable pub code_right : List ℤ → ℕ → Bool
code_right book i = every_on (on_code book i) (member_right book i) && leb (count_on (on_code book i) accounts) most_members

-- and where tables are lent: no block on it has a holding in an unlisted asset
unfoldable pub code_holds_listed : List ℤ → ℕ → List ℤ → Bool
code_holds_listed book i clearing = every_on (on_code book i) (λ j. holds_listed (block_of book j) clearing)
