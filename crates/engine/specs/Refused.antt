-- Document 01, "Calls and turning away": the grounds on which a call is turned away, as lists in the table's order. A new code, or a new ground, is
-- one line in one of these lists. A list is of a state and of an account's place in the book, or of the call's own numbers. Codes 6 and 10 look at every
-- block of the account's settlement code (#104); 4, 5 and 9 at its own.
-- Assumes nothing.
use Rattle.std.specs.Prelude.{Bool, cond, not, ◌&&◌, ◌||◌, List, [], ◌∷◌, ◌++◌, ℕ, eqb, ltb, ℤ, pos, nat_abs, length}
use Rattle.std.specs.Int.Signed.{le_z, lt_z}
use Rattle.whole.specs.Bounds.{between, is_zero}
use Rattle.whole.specs.Marks.{all_zero}
use Rattle.whole.specs.Refusals.{Refusal, ◌gives◌, wrong_length, no_account, broken_block, not_open, already_open, wrong_choice, wrong_amount, out_of_bounds, negative_limit}
use Rattle.rates.specs.Lent.{Tables}
use Rattle.rates.specs.Tables.{lengths_right, table_refusals, listed}
use Rattle.book.specs.Block.{accounts, book_length, block_of, account_kind}
use Rattle.book.specs.Rules.{kind_right}
use Rattle.book.specs.Members.{kind_at}
use Rattle.book.specs.Choices.{asset_right, choice_right, amounts_right, is_rubles, move_amount_right, trade_of}
use Rattle.book.specs.Changes.{opened, traded, trade_out, moved, move_out}
use Rattle.book.specs.Roll.{roll_out}
use Rattle.book.specs.declared.changes.Trade.{Trade}
use Rattle.book.specs.declared.terms.Terms.{Terms}
use Rattle.settlement.specs.Code.{on_code, code_right, code_holds_listed}
use Rattle.figures.specs.Joint.{figures_on}
use Rattle.figures.specs.declared.limit.Figures.{Figures}
use Rattle.engine.specs.State.{State, block_at, changed_at}

-- an account's place in the book; past the last where there is no such account
unfoldable pub place_of : ℤ → ℕ
place_of account = cond (between (pos 0) account (pos 15)) (nat_abs account) accounts

-- ---- codes 1, 2, 13 and 3
-- code 3
abbrev pub account_refusals : ℕ → List Refusal
account_refusals i = not (ltb i accounts) gives no_account ∷ []

-- of a call that is lent the book alone
abbrev pub book_gate : ℕ → State → List Refusal
book_gate i s = not (eqb (length s.book) book_length) gives wrong_length ∷ account_refusals i

-- of a call that is lent tables and groups too
abbrev pub table_gate : Tables → ℕ → State → List Refusal
table_gate tables i s =
    not (eqb (length s.book) book_length && lengths_right tables) gives wrong_length
    ∷ (table_refusals tables ++ account_refusals i)

-- ---- codes 6 and 4: whether the settlement code is right is asked by its blocks, and by their holdings where tables are lent
abbrev pub open_refusals : Bool → ℕ → State → List Refusal
open_refusals right i s =
    not right gives broken_block
    ∷ is_zero (account_kind (block_at s i)) gives not_open
    ∷ []

abbrev pub block_refusals : ℕ → State → List Refusal
block_refusals i s = open_refusals (code_right s.book i) i s

-- where tables are lent, a holding in an unlisted asset is 6 too, in any block of the code
abbrev pub holding_refusals : List ℤ → ℕ → State → List Refusal
holding_refusals clearing i s = open_refusals (code_right s.book i && code_holds_listed s.book i clearing) i s

-- a report's refusals, with which a move and an order begin too
abbrev pub report_refusals : Tables → ℕ → State → List Refusal
report_refusals tables i s = table_gate tables i s ++ holding_refusals tables.clearing i s

-- ---- codes 7 and 8
abbrev pub order_checks : List ℤ → Terms → List Refusal
order_checks clearing o =
    not (choice_right o && listed clearing (nat_abs o.asset)) gives wrong_choice
    ∷ not (amounts_right o) gives wrong_amount
    ∷ []

-- a move also takes 255, rubles
abbrev pub move_choice_right : List ℤ → ℤ → Bool
move_choice_right clearing asset = is_rubles asset || (asset_right asset && listed clearing (nat_abs asset))

abbrev pub move_checks : List ℤ → ℤ → ℤ → List Refusal
move_checks clearing asset amount =
    not (move_choice_right clearing asset) gives wrong_choice
    ∷ not (move_amount_right asset amount) gives wrong_amount
    ∷ []

-- ---- code 9, and with it every code before 10: what stands may be judged
abbrev pub order_stands : Tables → ℕ → Terms → State → List Refusal
order_stands tables i o s =
    report_refusals tables i s ++ (order_checks tables.clearing o ++ (trade_out (block_at s i) (trade_of o) gives out_of_bounds ∷ []))

abbrev pub move_stands : Tables → ℕ → ℤ → ℤ → State → List Refusal
move_stands tables i asset amount s =
    report_refusals tables i s ++ (move_checks tables.clearing asset amount ++ (move_out (block_at s i) (nat_abs asset) amount gives out_of_bounds ∷ []))

-- ---- code 10
-- an account's figures are those of its code (clause 4.11), and so is its Single Limit
abbrev pub figures_at : Tables → ℕ → State → Figures ℤ
figures_at tables i s = figures_on (on_code s.book i) (kind_at s.book i) (block_of s.book) tables

abbrev pub limit_of : Tables → ℕ → State → ℤ
limit_of tables i s = (figures_at tables i s).limit

-- the first ground: the limit is enough, zero or more; a withdrawal has no other
unfoldable pub enough : ℤ → Bool
enough limit = le_z (pos 0) limit

-- the second ground, document 02, #101: the limit is raised, strictly greater than it was before
unfoldable pub raised : ℤ → ℤ → Bool
raised before after = lt_z before after

-- an order is admitted exactly when one of the grounds holds of the limits without it and with it booked
unfoldable pub admitted : ℤ → ℤ → Bool
admitted before after = enough after || raised before after

abbrev pub order_judged : Tables → ℕ → Trade → State → List Refusal
order_judged tables i t s =
    not (admitted (limit_of tables i s) (limit_of tables i (changed_at i (λ b. traded b t) s))) gives negative_limit
    ∷ []

-- what is left to ask of an order whose limit with it, `after`, is not enough
abbrev pub not_raised : Tables → ℕ → ℤ → State → List Refusal
not_raised tables i after s = not (raised (limit_of tables i s) after) gives negative_limit ∷ []

-- a deposit is never asked for the limit
abbrev pub move_judged : Tables → ℕ → ℕ → ℤ → State → List Refusal
move_judged tables i asset amount s =
    (lt_z amount (pos 0) && not (enough (limit_of tables i (changed_at i (λ b. moved b asset amount) s)))) gives negative_limit
    ∷ []

-- ---- open and roll, which are lent the book alone
-- open's own words: all zero goes on to 7; a first number of 1 to 3 gives 5; else 6
abbrev pub open_stands : ℕ → State → List Refusal
open_stands i s =
    book_gate i s
    ++ (not (all_zero (block_at s i) || kind_right (account_kind (block_at s i))) gives broken_block
    ∷ kind_right (account_kind (block_at s i)) gives already_open
    ∷ [])

-- kind and code together, #104: "7 where the new block would meet that", so 6 without tables is asked of the book with the block opened
abbrev pub open_judged : ℕ → ℤ → ℤ → State → List Refusal
open_judged i kind code s =
    not (kind_right kind && code_right (changed_at i (λ b. opened b kind code) s).book i) gives wrong_choice
    ∷ []

abbrev pub roll_refusals : ℕ → State → List Refusal
roll_refusals i s = book_gate i s ++ (block_refusals i s ++ (roll_out (block_at s i) gives out_of_bounds ∷ []))
