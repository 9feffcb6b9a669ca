-- Document 02, #103, of the calls. "New code 13, straight after code 2 and before 3": a call that is lent tables answers what the table check answers
-- before it looks at the account; open and roll, which are lent none, never answer 13. What the check asks of own rows, and that it asks for nothing else,
-- is stated in rates (specs/Tables, StricterPasses and LaxerIsFirst); that a feed's code is the report's, in app_feed (specs/Promised). And what is not
-- promised: a stricter own row can raise the limit. Each is a type, proved in proofs/.
-- Assumes nothing.
use Rattle.std.specs.Prelude.{◌≡◌, true, List, [], ◌∷◌, ◌++◌, ◌≢◌, ℕ, ℤ, pos, length, replicate, ◌≤ℤ◌}
use Rattle.whole.specs.Marks.{all_zero}
use Rattle.whole.specs.Refusals.{first_code, laxer_own_row}
use Rattle.rates.specs.RowA.{row_a, less}
use Rattle.rates.specs.Lent.{Tables}
use Rattle.rates.specs.Tables.{check_code}
use Rattle.book.specs.Block.{book_length, collateral_at}
use Rattle.book.specs.declared.terms.Terms.{Terms}
use Rattle.engine.specs.State.{State}
use Rattle.engine.specs.Refused.{move_stands, order_stands}
use Rattle.engine.specs.Calls.{outcome_of, opening, rolling, moving, ordering}
use Rattle.engine.specs.Report.{report_of}
use Rattle.promises.specs.Sums.{Entry, ◌is◌, written, Sum, state_in, tables_in, sum, remark, said}

-- ---- a call's code beside the table check's: where the book has its length, what the check refuses the call refuses alike, whatever the account and the
-- other numbers are; and it answers 13 only where the check does
pub record AsChecked (tables : Tables) (s : State) (code : ℕ) : Type 0 where
  pub passed_on : length s.book ≡ book_length → check_code tables ≢ 0 → code ≡ check_code tables
  pub only_then : code ≡ laxer_own_row → check_code tables ≡ laxer_own_row

pub record OwnRowsAsked : Type 0 where
  pub reports : (tables : Tables) (i : ℕ) (s : State) → AsChecked tables s (report_of tables i s).code
  pub moves : (tables : Tables) (i : ℕ) (asset amount : ℤ) (s : State) → AsChecked tables s (outcome_of (moving tables i asset amount) s).code
  pub moves_stand : (tables : Tables) (i : ℕ) (asset amount : ℤ) (s : State) → AsChecked tables s (first_code (move_stands tables i asset amount s))
  pub orders : (tables : Tables) (i : ℕ) (o : Terms) (s : State) → AsChecked tables s (outcome_of (ordering tables i o) s).code
  pub orders_stand : (tables : Tables) (i : ℕ) (o : Terms) (s : State) → AsChecked tables s (first_code (order_stands tables i o s))
  pub opens : (i : ℕ) (kind code : ℤ) (s : State) → (outcome_of (opening i kind code) s).code ≢ laxer_own_row
  pub rolls : (i : ℕ) (s : State) → (outcome_of (rolling i) s).code ≢ laxer_own_row

-- ---- not promised: that own rows which pass the check never raise a limit
abbrev pub with_own : Tables → List ℤ → Tables
with_own tables own = record { clearing = tables.clearing; own = own; groups = tables.groups }

abbrev pub NeverRaises : Type 0
NeverRaises = (tables : Tables) (own : List ℤ) (i : ℕ) (s : State) → all_zero tables.own ≡ true
    → (report_of tables i s).code ≡ 0 → (report_of (with_own tables own) i s).code ≡ 0
    → (report_of (with_own tables own) i s).figures.limit ≤ℤ (report_of tables i s).figures.limit

abbrev pub CanRaise : Type 0
CanRaise = NeverRaises → ⊥

-- an own row A for asset 0 with one number changed, and the report with it and without
abbrev pub own_row_a : Entry → List ℤ
own_row_a entry = written row_a (entry ∷ []) ++ replicate 960 (pos 0)

pub record RaisedBy (s : Sum) (entry : Entry) (result : List ℤ) : Type 0 where
  pub no_own_rows : all_zero (tables_in s).own ≡ true
  pub without : said (report_of (tables_in s) 0 (state_in s)) ≡ pos 0 ∷ s.result
  pub with_own : said (report_of (with_own (tables_in s) (own_row_a entry)) 0 (state_in s)) ≡ pos 0 ∷ result

-- an account that owes ten of asset 0 as collateral: where special delivery is set collateral does not count (4.10), a debt no more than a holding
abbrev pub owes_ten : Sum
owes_ten = sum [] 1 (collateral_at 0 is less 10 ∷ []) (less 100000 ∷ pos 30000 ∷ pos 2000 ∷ pos 0 ∷ less 132000 ∷ [])

-- and S2's holding in a pool: a pool share of 10,000 leaves it the acceptance share, 5,000, and one of 9,000 is in force itself (2.4.1)
pub record Raised : Type 0 where
  pub by_special_delivery : RaisedBy owes_ten (5 is pos 1) (replicate 5 (pos 0))
  pub by_pool_share : RaisedBy remark (3 is pos 9000) (pos 360000 ∷ pos 72000 ∷ pos 3600 ∷ pos 0 ∷ pos 284400 ∷ [])
