-- Document 01, "Row": each number of a row by its name. The other definitions speak of a row's numbers by these names and by no place.
-- Assumes nothing.
use Rattle.std.specs.Prelude.{Bool, List, ℕ, ◌+◌, ◌*◌, ℤ, pos, ◌+ℤ◌, drop}
use Rattle.whole.specs.Bounds.{is_zero}
use Rattle.whole.specs.Parts.{number}

-- 1 security, 2 currency or metal, 3 commodity, 0 unlisted
abbrev pub kind : List ℤ → ℤ
kind row = number row 0

abbrev pub commodity : ℤ
commodity = pos 3

abbrev pub unlisted : List ℤ → Bool
unlisted row = is_zero (kind row)

abbrev pub price : List ℤ → ℤ
price row = number row 1

abbrev pub acceptance_share : List ℤ → ℤ
acceptance_share row = number row 2

abbrev pub pool_share : List ℤ → ℤ
pool_share row = number row 3

-- 0 recorded, 1 not recorded, 2 partial
abbrev pub covered_sales : List ℤ → ℤ
covered_sales row = number row 4

abbrev pub special_delivery : List ℤ → ℤ
special_delivery row = number row 5

-- the rates stand side by side: 0 is the side of a fall, 1 that of a rise
abbrev pub fall : ℕ
fall = 0

abbrev pub rise : ℕ
rise = 1

abbrev pub rates_at : ℕ
rates_at = 6

abbrev pub base_rate : List ℤ → ℕ → ℤ
base_rate row side = number row (rates_at + side)

abbrev pub raised_rate : List ℤ → ℕ → ℤ
raised_rate row side = number row (8 + side)

-- the highest rate that a unit of a side can be charged
unfoldable pub highest_rate : List ℤ → ℕ → ℤ
highest_rate row side = raised_rate row side

abbrev pub limits_at : ℕ
limits_at = 10

abbrev pub market_limit : List ℤ → ℤ
market_limit row = number row limits_at

abbrev pub interest_limit : List ℤ → ℤ
interest_limit row = number row 11

-- 0 none, 1 to 8
abbrev pub spread_group : List ℤ → ℤ
spread_group row = number row 12

-- three numbers without a meaning
abbrev pub spare : List ℤ → ℕ → ℤ
spare row k = number row (13 + k)

-- the five numbers of date d
abbrev pub dates_at : ℕ
dates_at = 16

abbrev pub mid : List ℤ → ℕ → ℤ
mid row d = number row (dates_at + 5 * d)

abbrev pub low : List ℤ → ℕ → ℤ
low row d = number row (dates_at + 5 * d + 1)

abbrev pub up : List ℤ → ℕ → ℤ
up row d = number row (dates_at + 5 * d + 2)

abbrev pub outer_low : List ℤ → ℕ → ℤ
outer_low row d = number row (dates_at + 5 * d + 3)

abbrev pub outer_up : List ℤ → ℕ → ℤ
outer_up row d = number row (dates_at + 5 * d + 4)

-- and eight more numbers without a meaning
abbrev pub rest : List ℤ → List ℤ
rest row = drop 56 row

-- what one unit is worth on date d
abbrev pub level : List ℤ → ℕ → ℤ
level row d = price row +ℤ mid row d
