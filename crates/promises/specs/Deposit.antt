-- Demand 3: more collateral never does harm, of the code's limit, one block receiving it (document 02, #104). For every book, tables, groups and account
-- whose report answers 0:
--   AssetDeposit       for every asset whose row in force passes the cover test and is not marked 2 (partial), and for every book that differs only by
--                      more collateral of that asset in one block of the account's code, its own or another, still inside the block rules: the report
--                      answers 0 and its Single Limit is not lower;
--   RubleDeposit       the same for rubles, where the limit is higher by exactly the added sum: so no block of the code is left out of the answer, for a
--                      kopeck more in any of them is a kopeck more in the limit of each;
--   OrderAfterDeposit  every order of any account, on that code or not, that answers 0 on the first book, with a limit after it of zero or more
--                      (document 02, #101), answers 0 on the second;
--   PositiveMove       about the call itself: a move with a positive amount that answers 0 leads from such a book to such another.
-- Each is a type, and proofs/Deposit proves it. specs/Needed shows that without the cover test, or for a partial row, the first is false, and
-- the third for every limit after the order.
-- Assumes nothing.
use Rattle.std.specs.Prelude.{◌≡◌, true, ◌⊎◌, ◌≢◌, ℕ, ◌+◌, ◌*◌, ◌<◌, ℤ, pos, nat_abs, ◌+ℤ◌, length, ◌≤ℤ◌, ◌<ℤ◌}
use Rattle.whole.specs.Parts.{number}
use Rattle.book.specs.Block.{accounts, block_length, rubles, move_at}
use Rattle.book.specs.Rules.{good_block}
use Rattle.book.specs.Ranges.{MoveAsset}
use Rattle.rates.specs.Lent.{Tables}
use Rattle.settlement.specs.Code.{on_code}
use Rattle.figures.specs.Laws.{Covered}
use Rattle.engine.specs.State.{State, block_at}
use Rattle.engine.specs.Calls.{outcome_of, moving, ordering}
use Rattle.engine.specs.Report.{report_of, Reported}
use Rattle.book.specs.declared.terms.Terms.{Terms}

-- ---- the words
-- where the collateral of an asset, or of rubles (255), stands in the book
abbrev pub collateral_in : ℕ → ℕ → ℕ
collateral_in i asset = block_length * i + move_at asset

-- account j has its block on the code of account i: it may receive the deposit
pub record OnCodeOf (i : ℕ) (s : State) (j : ℕ) : Type 0 where
  pub an_account : j < accounts
  pub on_code : on_code s.book i j ≡ true

-- the other state differs only by more collateral of the asset, or of rubles, in an account's block, still inside the block rules
pub record MoreCollateral (s other : State) (i : ℕ) (asset : ℕ) (amount : ℤ) : Type 0 where
  pub more : pos 0 <ℤ amount
  pub there : number other.book (collateral_in i asset) ≡ number s.book (collateral_in i asset) +ℤ amount
  pub elsewhere : (k : ℕ) → k ≢ collateral_in i asset → number other.book k ≡ number s.book k
  pub same_length : length other.book ≡ length s.book
  pub in_rules : good_block (block_at other i) ≡ true

-- a report of tables, an account and a state
abbrev pub Report : Type 0
Report = Tables → ℕ → State → Reported

-- ---- the statements; the first two of any report. The first takes its condition on the asset, which is `Covered` for demand 3, and the third its
-- condition on the limit after the order, which is specs/Admission's `ZeroOrMore`, so that specs/Needed can try others
module _ (report : Report) where
  abbrev pub AssetDeposit : (Tables → ℕ → Type 0) → Type 0
  AssetDeposit condition =
      (tables : Tables) (i : ℕ) (s : State) → (report tables i s).code ≡ 0
      → (asset : ℕ) → condition tables asset
      → (j : ℕ) → OnCodeOf i s j → (other : State) (amount : ℤ) → MoreCollateral s other j asset amount
      → ((report tables i other).code ≡ 0)
      × ((report tables i s).figures.limit ≤ℤ (report tables i other).figures.limit)

  abbrev pub RubleDeposit : Type 0
  RubleDeposit =
      (tables : Tables) (i : ℕ) (s : State) → (report tables i s).code ≡ 0
      → (j : ℕ) → OnCodeOf i s j → (other : State) (sum : ℤ) → MoreCollateral s other j rubles sum
      → ((report tables i other).code ≡ 0)
      × ((report tables i other).figures.limit ≡ (report tables i s).figures.limit +ℤ sum)

abbrev pub OrderAfterDeposit : (ℤ → Type 0) → Type 0
OrderAfterDeposit condition =
    (tables : Tables) (i : ℕ) (s : State) → (report_of tables i s).code ≡ 0
    → (asset : ℕ) → Covered tables asset ⊎ (asset ≡ rubles)
    → (other : State) (amount : ℤ) → MoreCollateral s other i asset amount
    → (j : ℕ) (o : Terms)
    → (outcome_of (ordering tables j o) s).code ≡ 0
    → condition (report_of tables j (outcome_of (ordering tables j o) s).state).figures.limit
    → (outcome_of (ordering tables j o) other).code ≡ 0

abbrev pub PositiveMove : Type 0
PositiveMove =
    (tables : Tables) (i : ℕ) (asset amount : ℤ) (s : State) → pos 0 <ℤ amount
    → (outcome_of (moving tables i asset amount) s).code ≡ 0
    → ((report_of tables i s).code ≡ 0)
    × MoveAsset (nat_abs asset)
    × MoreCollateral s (outcome_of (moving tables i asset amount) s).state i (nat_abs asset) amount
