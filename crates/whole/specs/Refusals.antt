-- A call's refusals as a list, in the order in which document 01 has them looked at: `test gives code`. The call's code is the first
-- that applies; what it leaves is the new where the code is 0, and what it found otherwise.
-- Assumes nothing.
use Rattle.std.specs.Prelude.{Bool, cond, List, [], ◌∷◌, ℕ, eqb}

infix 90 ◌gives◌
pub data Refusal : Type 0 where
  ◌gives◌ : Bool → ℕ → Refusal

-- the code of the first refusal that applies; 0 where none does
unfoldable pub first_code : List Refusal → ℕ
first_code [] = 0
first_code (test gives code ∷ rs) = cond test code (first_code rs)

-- what a call leaves behind it
unfoldable pub leaves : {A : Type 0} → ℕ → A → A → A
leaves code new old = cond (eqb code 0) new old

-- ---- the codes of document 01's table, in its order, with those of document 02 at their places
-- a lent length is wrong
abbrev pub wrong_length : ℕ
wrong_length = 1

-- the table check finds a broken number
abbrev pub broken_number : ℕ
broken_number = 2

-- the table check finds an own row that is laxer than its clearing row (document 02, #103)
abbrev pub laxer_own_row : ℕ
laxer_own_row = 13

-- account number not 0 to 15
abbrev pub no_account : ℕ
no_account = 3

-- the block or another on its settlement code breaks the block rules, or they are too many or of two kinds (document 02, #104); where tables are lent,
-- also a nonzero holding of one of them in an unlisted asset
abbrev pub broken_block : ℕ
broken_block = 6

abbrev pub not_open : ℕ
not_open = 4

-- open on an open account
abbrev pub already_open : ℕ
already_open = 5

-- an asset, a date, a side or a kind that there is not, or a settlement code that cannot be opened on (document 02, #104)
abbrev pub wrong_choice : ℕ
wrong_choice = 7

-- a quantity, order money or a move outside its bounds
abbrev pub wrong_amount : ℕ
wrong_amount = 8

-- a number would leave its bounds, or a withdrawal would leave collateral below 0; a figure that no float holds exactly (document 02, #102 and #104)
abbrev pub out_of_bounds : ℕ
out_of_bounds = 9

-- the limit after an order or a withdrawal would be negative
abbrev pub negative_limit : ℕ
negative_limit = 10

-- a session line of no form
abbrev pub malformed : ℕ
malformed = 12
