-- Document 01, "Units and sizes", and document 02, #103: the clearing table, the own table and the groups, and the table check: which of their 2,056
-- numbers is the first to break its rule; where none does, which of the own table's is the first that is laxer than the clearing table's.
-- Assumes nothing.
use Rattle.std.specs.Prelude.{◌≡◌, Bool, true, false, not, cond, ◌&&◌, List, [], ◌∷◌, ◌++◌, map, ℕ, ◌+◌, ◌-◌, ◌*◌, ◌<◌, ℤ, pos, length, get_or, replicate, eqb, ltb}
use Rattle.whole.specs.Bounds.{between, equal}
use Rattle.whole.specs.Parts.{part}
use Rattle.whole.specs.Marks.{first_false, place_from, all_true, all_zero, pieces}
use Rattle.whole.specs.Refusals.{Refusal, ◌gives◌, first_code, wrong_length, broken_number, laxer_own_row}
use Rattle.rates.specs.Units.{assets, row_length, table_length, group_count}
use Rattle.rates.specs.Row.{kind, unlisted}
use Rattle.rates.specs.Rules.{row_marks}
use Rattle.rates.specs.Stricter.{stricter_row, Stricter}
use Rattle.rates.specs.Lent.{Tables}

-- the row of asset a
abbrev pub row_of : List ℤ → ℕ → List ℤ
row_of table a = part (row_length * a) row_length table

-- an asset is listed if its clearing row is
unfoldable pub listed : List ℤ → ℕ → Bool
listed clearing a = ltb a assets && not (unlisted (row_of clearing a))

-- an own row is absent if all zero
abbrev pub absent : List ℤ → Bool
absent row = all_zero row

-- a present own row has the kind of the listed clearing row; where it has not, its number 0 is broken
unfoldable pub own_kind_right : List ℤ → List ℤ → Bool
own_kind_right own clearing = equal (kind own) (kind clearing) && not (unlisted clearing)

unfoldable pub own_row_marks : List ℤ → List ℤ → List Bool
own_row_marks own clearing =
    cond (absent own) (replicate row_length true)
    (cond (own_kind_right own clearing) (row_marks own) (false ∷ replicate (row_length - 1) true))

-- a discount percent of a group
abbrev pub percent_right : ℤ → Bool
percent_right percent = between (pos 0) percent (pos 50)

-- every number in the order of its place: clearing 0 to 1023, own 1024 to 2047, groups 2048 to 2055
unfoldable pub clearing_marks : List ℤ → ℕ → List Bool
clearing_marks clearing a = row_marks (row_of clearing a)

unfoldable pub own_marks : List ℤ → List ℤ → ℕ → List Bool
own_marks clearing own a = own_row_marks (row_of own a) (row_of clearing a)

unfoldable pub table_marks : Tables → List Bool
table_marks tables =
    pieces (clearing_marks tables.clearing) 0 assets
    ++ (pieces (own_marks tables.clearing tables.own) 0 assets ++ map percent_right tables.groups)

unfoldable pub lengths_right : Tables → Bool
lengths_right tables =
    eqb (length tables.clearing) table_length && (eqb (length tables.own) table_length && eqb (length tables.groups) group_count)

-- the tables are sound: no number breaks its rule
unfoldable pub sound_tables : Tables → Bool
sound_tables tables = all_true (table_marks tables)

-- the own table's part of that
abbrev pub sound_own : List ℤ → List ℤ → Bool
sound_own clearing own = all_true (pieces (own_marks clearing own) 0 assets)

-- #103: a present own row is only stricter; an absent one is not compared
unfoldable pub stricter_own_row : List ℤ → List ℤ → List Bool
stricter_own_row own clearing = cond (absent own) (replicate row_length true) (stricter_row own clearing)

unfoldable pub stricter_at : List ℤ → List ℤ → ℕ → List Bool
stricter_at clearing own a = stricter_own_row (row_of own a) (row_of clearing a)

-- every number of the own table in the order of its place, 1024 to 2047
abbrev pub stricter_marks : Tables → List Bool
stricter_marks tables = pieces (stricter_at tables.clearing tables.own) 0 assets

unfoldable pub only_stricter : Tables → Bool
only_stricter tables = all_true (stricter_marks tables)

-- for what tables of the right lengths are refused, by the table check and by every call that is lent them: a broken number anywhere comes first
abbrev pub table_refusals : Tables → List Refusal
table_refusals tables =
    not (sound_tables tables) gives broken_number
    ∷ not (only_stricter tables) gives laxer_own_row
    ∷ []

-- what the table check answers: its code, with code 2 the place of the first broken number, and with code 13 that of the first laxer one
pub record Checked : Type 0 where
  pub code : ℕ
  pub place : ℕ

-- the answer of the table check: its refusals in their order, and the place of the first broken number, or of the first laxer one
unfoldable pub check_code : Tables → ℕ
check_code tables = first_code (not (lengths_right tables) gives wrong_length ∷ table_refusals tables)

unfoldable pub check_place : Tables → ℕ
check_place tables =
    cond (eqb (check_code tables) broken_number) (first_false (table_marks tables))
    (cond (eqb (check_code tables) laxer_own_row) (place_from table_length (stricter_marks tables)) 0)

unfoldable pub checked : Tables → Checked
checked tables = record { code = check_code tables; place = check_place tables }

-- ---- statements, which proofs/Answer and proofs/EachStricter prove
-- the place is the first broken one: the mark there is false, and each before it is true
pub record FirstBroken (marks : List Bool) (place : ℕ) : Type 0 where
  pub inside : place < length marks
  pub broken : get_or marks place true ≡ false
  pub right_before : (k : ℕ) → k < place → get_or marks k true ≡ true

abbrev pub PlaceIsFirst : Type 0
PlaceIsFirst = (tables : Tables) → check_code tables ≡ broken_number → FirstBroken (table_marks tables) (check_place tables)

-- code 13: the lengths are right, no number is broken, and the place is that of the first laxer number: of an asset's own row, with none laxer before it
-- in that row, nor in the own rows before
pub record Laxer (tables : Tables) : Type 0 where
  pub lengths : lengths_right tables ≡ true
  pub none_broken : sound_tables tables ≡ true
  pub asset : ℕ
  pub number : ℕ
  pub an_asset : asset < assets
  pub a_number : number < row_length
  pub place_is : check_place tables ≡ table_length + (row_length * asset + number)
  pub laxer : get_or (stricter_at tables.clearing tables.own asset) number true ≡ false
  pub numbers_before : (k : ℕ) → k < number → get_or (stricter_at tables.clearing tables.own asset) k true ≡ true
  pub rows_before : (a : ℕ) → a < asset → all_true (stricter_at tables.clearing tables.own a) ≡ true

abbrev pub LaxerIsFirst : Type 0
LaxerIsFirst = (tables : Tables) → check_code tables ≡ laxer_own_row → Laxer tables

-- each present own row is stricter than its clearing row, by name
abbrev pub EachStricter : Tables → Type 0
EachStricter tables = (a : ℕ) → a < assets → absent (row_of tables.own a) ≡ false → Stricter (row_of tables.own a) (row_of tables.clearing a)

-- code 0 says so; and back, sound tables of which that holds answer 0, so that the marks ask for nothing else
pub record StricterPasses : Type 0 where
  pub says : (tables : Tables) → check_code tables ≡ 0 → EachStricter tables
  pub asks_no_more : (tables : Tables) → lengths_right tables ≡ true → sound_tables tables ≡ true → EachStricter tables → check_code tables ≡ 0
