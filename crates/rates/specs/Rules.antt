-- Document 01, "Row": the rules of a row as one list of marks, a mark for each of its 64 numbers by rising number, literal over ℤ. A rule over
-- two numbers stands at the later one. The first false mark is the first broken number.
-- Assumes nothing.
use Rattle.std.specs.Prelude.{Bool, not, cond, ◌&&◌, ◌||◌, List, [], ◌∷◌, ◌++◌, map, ℕ, ℤ, pos, ◌+ℤ◌, ◌-ℤ◌}
use Rattle.whole.specs.Bounds.{between, equal, is_zero}
use Rattle.whole.specs.Marks.{pieces}
use Rattle.rates.specs.Units.{the_whole, ten_million, dates}
use Rattle.rates.specs.Row.{kind, commodity, unlisted, price, acceptance_share, pool_share, covered_sales, special_delivery, fall, rise, base_rate, raised_rate, market_limit, interest_limit, spread_group, spare, mid, low, up, outer_low, outer_up, rest, level}

-- a commodity has equal rates for fall and rise
abbrev pub equal_for_commodity : List ℤ → (ℕ → ℤ) → Bool
equal_for_commodity row rate = not (equal (kind row) commodity) || equal (rate rise) (rate fall)

-- numbers 0 to 5
unfoldable pub term_marks : List ℤ → List Bool
term_marks row =
    between (pos 1) (kind row) commodity
    ∷ between (pos 1) (price row) ten_million
    ∷ between (pos 0) (acceptance_share row) the_whole
    ∷ between (pos 0) (pool_share row) the_whole
    ∷ between (pos 0) (covered_sales row) (pos 2)
    ∷ between (pos 0) (special_delivery row) (pos 1)
    ∷ []

-- numbers 6 to 9
unfoldable pub rate_marks : List ℤ → List Bool
rate_marks row =
    between (pos 0) (base_rate row fall) the_whole
    ∷ (between (pos 0) (base_rate row rise) the_whole && equal_for_commodity row (base_rate row))
    ∷ between (base_rate row fall) (raised_rate row fall) the_whole
    ∷ (between (base_rate row rise) (raised_rate row rise) the_whole && equal_for_commodity row (raised_rate row))
    ∷ []

-- numbers 10 to 15
unfoldable pub limit_marks : List ℤ → List Bool
limit_marks row =
    between (pos 0) (market_limit row) ten_million
    ∷ between (pos 0) (interest_limit row) ten_million
    ∷ between (pos 0) (spread_group row) (pos 8)
    ∷ is_zero (spare row 0)
    ∷ is_zero (spare row 1)
    ∷ is_zero (spare row 2)
    ∷ []

-- numbers 16 + 5d to 20 + 5d
unfoldable pub date_marks : List ℤ → ℕ → List Bool
date_marks row d =
    between (pos 0) (level row d) ten_million
    ∷ between (mid row d -ℤ ten_million) (low row d) (mid row d)
    ∷ between (mid row d) (up row d) (mid row d +ℤ ten_million)
    ∷ between (mid row d -ℤ ten_million) (outer_low row d) (low row d)
    ∷ between (up row d) (outer_up row d) (mid row d +ℤ ten_million)
    ∷ []

-- a listed row, number by number; 56 to 63 are zero
unfoldable pub listed_marks : List ℤ → List Bool
listed_marks row = term_marks row ++ (rate_marks row ++ (limit_marks row ++ (pieces (date_marks row) 0 dates ++ map is_zero (rest row))))

-- any row: an unlisted one is all zero
unfoldable pub row_marks : List ℤ → List Bool
row_marks row = cond (unlisted row) (map is_zero row) (listed_marks row)
