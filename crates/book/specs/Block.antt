-- Document 01, "Block": where an account's block stands in the book, each number of a block by its name, and the bounds. The definitions of every
-- crate take a number of a block by these names.
-- Assumes nothing.
use Rattle.std.specs.Prelude.{◌≡◌, cond, ◌⊎◌, List, ℕ, ◌+◌, ◌*◌, ◌≤◌, ◌<◌, eqb, ℤ}
use Rattle.whole.specs.Parts.{part, put, number}

-- ---- the book: 16 blocks of 288 numbers
abbrev pub accounts : ℕ
accounts = 16

abbrev pub block_length : ℕ
block_length = 288

abbrev pub book_length : ℕ
book_length = 4608

abbrev pub block_of : List ℤ → ℕ → List ℤ
block_of book i = part (block_length * i) block_length book

abbrev pub put_block : List ℤ → ℕ → List ℤ → List ℤ
put_block book i block = put (block_length * i) block_length book block

-- ---- bounds: of rubles in kopecks, and of units of an asset
abbrev pub most_rubles : ℕ
most_rubles = 100000000000000

abbrev pub most_units : ℕ
most_units = 1000000

-- ---- a block
-- 0 not open, 1 ordinary, 2 pool, 3 pool of the list in 2.4.2
abbrev pub account_kind : List ℤ → ℤ
account_kind block = number block 0

-- the settlement code (#104, clause 4.11): 0 none, 1 to 15 shared by the blocks that have it
abbrev pub settlement_code : List ℤ → ℤ
settlement_code block = number block 13

-- the head of a block: its kind, and numbers 10 to 15
abbrev pub InHead : ℕ → Type 0
InHead k = (k ≡ 0) ⊎ ((10 ≤ k) × (k < 16))

abbrev pub ruble_collateral_at : ℕ
ruble_collateral_at = 1

abbrev pub ruble_net_at : ℕ → ℕ
ruble_net_at date = 2 + date

-- ruble collateral, and the ruble nets of trades by date
abbrev pub ruble_numbers : List ℤ → List ℤ
ruble_numbers block = part 1 9 block

-- ---- an asset's holding: 17 numbers, from 16 + 17a on
abbrev pub holding_length : ℕ
holding_length = 17

abbrev pub collateral_at : ℕ → ℕ
collateral_at asset = 16 + 17 * asset

-- the collateral that a move names: an asset's, or 255 for rubles
abbrev pub rubles : ℕ
rubles = 255

unfoldable pub move_at : ℕ → ℕ
move_at asset = cond (eqb asset rubles) ruble_collateral_at (collateral_at asset)

-- a buy's place is the date's claim (side 0), a sell's the date's obligation (side 1)
abbrev pub trade_at : ℕ → ℕ → ℕ → ℕ
trade_at asset date side = 17 + 17 * asset + 8 * side + date

abbrev pub holding_of : List ℤ → ℕ → List ℤ
holding_of block asset = part (collateral_at asset) holding_length block

abbrev pub collateral : List ℤ → ℤ
collateral holding = number holding 0

abbrev pub claim : List ℤ → ℕ → ℤ
claim holding date = number holding (1 + date)

abbrev pub obligation : List ℤ → ℕ → ℤ
obligation holding date = number holding (9 + date)
