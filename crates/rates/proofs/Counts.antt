-- How many marks there are: one for each number of a row, of a table, of the groups; and of an own row's comparison with its clearing row.
-- Assumes nothing.
use mathlib.Core.Path.{◌≡◌, refl, ap, ◌∙◌}
use mathlib.Core.Bool.{Bool, true, false, cond, ◌&&◌}
use mathlib.Core.List.{List, ◌∷◌, map}
use Prim.Native.Nat.{ℕ, ◌-◌, ◌<◌}
use native.Mathlib.Omega.{arith}
use lib.IntN.{ℤ, pos}
use lib.ListN.{length, drop, replicate, length-append, length-drop, length-map}
use lib.Dec.{eqb}
use borrow.Author.Tests.{eqb-true}
use Rattle.whole.specs.Bounds.{is_zero}
use Rattle.whole.specs.Marks.{pieces}
use Rattle.whole.proofs.Marks.{pieces_length}
use Rattle.whole.proofs.Tests.{and_left, and_right}
use Rattle.whole.proofs.Parts.{part_length}
use Rattle.rates.specs.Units.{assets, row_length, table_length, dates, group_count}
use Rattle.rates.specs.Row.{unlisted}
use Rattle.rates.specs.Rules.{term_marks, rate_marks, limit_marks, date_marks, listed_marks, row_marks}
use Rattle.rates.specs.Stricter.{stricter_terms, stricter_rates, stricter_limits, stricter_date, stricter_row}
use Rattle.rates.specs.Lent.{Tables}
use Rattle.rates.specs.Tables.{row_of, absent, own_kind_right, own_row_marks, percent_right, clearing_marks, own_marks, table_marks, stricter_own_row, stricter_at, stricter_marks, lengths_right}

either : (t : Bool) (a b : List Bool) (n : ℕ) → length a ≡ n → length b ≡ n → length (cond t a b) ≡ n
either true a b n p q = p
either false a b n p q = q

-- ---- a row
module _ (row : List ℤ) where
  pub terms_count : length (term_marks row) ≡ 6
  unfolding term_marks
  terms_count = refl

  pub rates_count : length (rate_marks row) ≡ 4
  unfolding rate_marks
  rates_count = refl

  pub limits_count : length (limit_marks row) ≡ 6
  unfolding limit_marks
  limits_count = refl

  pub date_count : (d : ℕ) → length (date_marks row d) ≡ 5
  unfolding date_marks
  date_count d = refl

  pub dates_count : length (pieces (date_marks row) 0 dates) ≡ 40
  dates_count = pieces_length (date_marks row) 5 0 dates (λ d h. date_count d)

  module _ (long : length row ≡ row_length) where
    zeros_count : length (map is_zero row) ≡ row_length
    zeros_count = length-map row is_zero ∙ long

    pub last_count : length (map is_zero (drop 56 row)) ≡ 8
    last_count = length-map (drop 56 row) is_zero ∙ length-drop 56 row ∙ ap (λ (n : ℕ). n - 56) long

    pub listed_count : length (listed_marks row) ≡ row_length
    unfolding listed_marks
    listed_count = simp length-append (omega (arith, terms_count, rates_count, limits_count, dates_count, last_count))

    pub row_count : length (row_marks row) ≡ row_length
    unfolding row_marks
    row_count = either (unlisted row) (map is_zero row) (listed_marks row) row_length zeros_count listed_count

pub own_row_count : (own clearing : List ℤ) → length own ≡ row_length → length (own_row_marks own clearing) ≡ row_length
unfolding own_row_marks
own_row_count own clearing long =
    either (absent own) (replicate row_length true) (cond (own_kind_right own clearing) (row_marks own) (false ∷ replicate 63 true)) row_length refl
    (either (own_kind_right own clearing) (row_marks own) (false ∷ replicate 63 true) row_length (row_count own long) refl)

-- ---- an own row over its clearing row
module _ (own clearing : List ℤ) where
  pub stricter_terms_count : length (stricter_terms own clearing) ≡ 6
  unfolding stricter_terms
  stricter_terms_count = refl

  pub stricter_rates_count : length (stricter_rates own clearing) ≡ 4
  unfolding stricter_rates
  stricter_rates_count = refl

  pub stricter_limits_count : length (stricter_limits own clearing) ≡ 6
  unfolding stricter_limits
  stricter_limits_count = refl

  pub stricter_date_count : (d : ℕ) → length (stricter_date own clearing d) ≡ 5
  unfolding stricter_date
  stricter_date_count d = refl

  pub stricter_dates_count : length (pieces (stricter_date own clearing) 0 dates) ≡ 40
  stricter_dates_count = pieces_length (stricter_date own clearing) 5 0 dates (λ d h. stricter_date_count d)

  stricter_row_count : length (stricter_row own clearing) ≡ row_length
  unfolding stricter_row
  stricter_row_count = simp length-append (omega (arith, stricter_terms_count, stricter_rates_count, stricter_limits_count, stricter_dates_count))

  pub stricter_own_count : length (stricter_own_row own clearing) ≡ row_length
  unfolding stricter_own_row
  stricter_own_count = either (absent own) (replicate row_length true) (stricter_row own clearing) row_length refl stricter_row_count

-- ---- the tables
pub row_long : (table : List ℤ) → length table ≡ table_length → (a : ℕ) → a < assets → length (row_of table a) ≡ row_length
row_long table long a h = part_length (pos 0) _ row_length table (omega arith)

module _ (clearing : List ℤ) (long : length clearing ≡ table_length) where
  pub clearing_row_count : (a : ℕ) → a < assets → length (clearing_marks clearing a) ≡ row_length
  unfolding clearing_marks
  clearing_row_count a h = row_count (row_of clearing a) (row_long clearing long a h)

  pub clearing_count : length (pieces (clearing_marks clearing) 0 assets) ≡ table_length
  clearing_count = pieces_length (clearing_marks clearing) row_length 0 assets clearing_row_count

module _ (clearing own : List ℤ) (long : length own ≡ table_length) where
  pub own_marks_count : (a : ℕ) → a < assets → length (own_marks clearing own a) ≡ row_length
  unfolding own_marks
  own_marks_count a h = own_row_count (row_of own a) (row_of clearing a) (row_long own long a h)

  pub own_count : length (pieces (own_marks clearing own) 0 assets) ≡ table_length
  own_count = pieces_length (own_marks clearing own) row_length 0 assets own_marks_count

pub stricter_at_count : (clearing own : List ℤ) (a : ℕ) → length (stricter_at clearing own a) ≡ row_length
unfolding stricter_at
stricter_at_count clearing own a = stricter_own_count (row_of own a) (row_of clearing a)

pub stricter_count : (tables : Tables) → length (stricter_marks tables) ≡ table_length
stricter_count tables = pieces_length (stricter_at tables.clearing tables.own) row_length 0 assets (λ a h. stricter_at_count tables.clearing tables.own a)

module _ (tables : Tables) (right : lengths_right tables ≡ true) where
  pub long_clearing : length tables.clearing ≡ table_length
  unfolding lengths_right
  long_clearing = eqb-true (length tables.clearing) table_length (and_left _ _ right)

  past_clearing : eqb (length tables.own) table_length && eqb (length tables.groups) group_count ≡ true
  unfolding lengths_right
  past_clearing = and_right (eqb (length tables.clearing) table_length) _ right

  pub long_own : length tables.own ≡ table_length
  long_own = eqb-true (length tables.own) table_length (and_left _ _ past_clearing)

  pub long_groups : length tables.groups ≡ group_count
  long_groups = eqb-true (length tables.groups) group_count (and_right (eqb (length tables.own) table_length) _ past_clearing)

  pub table_count : length (table_marks tables) ≡ 2056
  unfolding table_marks
  table_count =
      simp length-append (omega (arith, clearing_count tables.clearing long_clearing, own_count tables.clearing tables.own long_own, length-map tables.groups percent_right, long_groups))
