-- Document 01, "Units and sizes". Money is whole kopecks, quantities whole units, rates and shares hundredths of a percent.
-- Assumes nothing.
use Rattle.std.specs.Prelude.{ℕ, ℤ, pos}

-- 10,000 hundredths of a percent are the whole
abbrev pub the_whole : ℤ
the_whole = pos 10000

-- the bound of prices, of concentration limits, and of how far a date's numbers stand from its mid
abbrev pub ten_million : ℤ
ten_million = pos 10000000

-- a table has 16 rows of 64 numbers, one for each asset; a row has 8 dates of 5 numbers; there are 8 groups
abbrev pub assets : ℕ
assets = 16

abbrev pub row_length : ℕ
row_length = 64

abbrev pub table_length : ℕ
table_length = 1024

abbrev pub dates : ℕ
dates = 8

abbrev pub group_count : ℕ
group_count = 8
