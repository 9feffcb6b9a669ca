-- Documents 01 and 02 by computation: row A keeps its rules and passes the cover test; one number that breaks its rule is the number that is named, for
-- each rule of the table; one number of an own row that is laxer than row A's is named, for each rule of #103, and a stricter one is not; and what the
-- check answers of whole tables.
-- Assumes nothing.
use mathlib.Core.Path.{◌≡◌, refl}
use mathlib.Core.Bool.{true, false}
use mathlib.Core.List.{List, [], ◌∷◌, ◌++◌, map}
use Prim.Native.Nat.{ℕ}
use lib.IntN.{ℤ, pos}
use lib.ListN.{drop, replicate, set}
use Rattle.whole.specs.Numbers.{max_ℤ}
use Rattle.whole.specs.Bounds.{between}
use Rattle.whole.specs.Parts.{part}
use Rattle.whole.specs.Marks.{first_false, place_from, all_true, all_zero, pieces}
use Rattle.whole.specs.Refusals.{first_code}
use Rattle.rates.specs.Units.{row_length}
use Rattle.rates.specs.Row.{highest_rate}
use Rattle.rates.specs.RowA.{less, row_a}
use Rattle.rates.specs.Rules.{term_marks, rate_marks, limit_marks, date_marks, listed_marks, row_marks}
use Rattle.rates.specs.Stricter.{stricter_terms, stricter_rates, stricter_limits, stricter_date, stricter_row}
use Rattle.rates.specs.Lent.{Tables}
use Rattle.rates.specs.Tables.{own_kind_right, own_row_marks, clearing_marks, own_marks, table_marks, stricter_own_row, stricter_at, lengths_right, sound_tables, only_stricter, check_code, check_place, checked}
use Rattle.rates.specs.InForce.{outer_width, cover_test, sound_row}
use Rattle.rates.specs.Tables.{Checked}

-- ---- rows
abbrev row_with : ℕ → ℤ → List ℤ
row_with k x = set row_a k x

abbrev commodity : List ℤ
commodity = set (set (row_with 0 (pos 3)) 7 (pos 2000)) 9 (pos 4000)

abbrev unlisted_row : List ℤ
unlisted_row = replicate row_length (pos 0)

-- a row, the place of a number in it, and what is put there
record Change : Type 0 where
  row : List ℤ
  at : ℕ
  put : ℤ

abbrev in_a : ℕ → ℤ → Change
in_a k x = record { row = row_a; at = k; put = x }

abbrev named : Change → ℕ
named c = first_false (row_marks (set c.row c.at c.put))

-- one number that breaks its rule, by rising number; of a date those of date 0, one mid of date 2 and the last number
abbrev broken : List Change
broken =
    in_a 0 (pos 4) ∷ in_a 0 (less 1)
    ∷ in_a 1 (pos 0) ∷ in_a 1 (pos 10000001)
    ∷ in_a 2 (pos 10001) ∷ in_a 3 (less 1)
    ∷ in_a 4 (pos 3) ∷ in_a 5 (pos 2)
    ∷ in_a 6 (pos 10001) ∷ in_a 7 (less 1) ∷ record { row = commodity; at = 7; put = pos 2001 }
    ∷ in_a 8 (pos 1999) ∷ in_a 8 (pos 10001) ∷ in_a 9 (pos 2999) ∷ record { row = commodity; at = 9; put = pos 4001 }
    ∷ in_a 10 (pos 10000001) ∷ in_a 11 (less 1) ∷ in_a 12 (pos 9)
    ∷ in_a 13 (pos 1) ∷ in_a 14 (pos 1) ∷ in_a 15 (less 1)
    ∷ in_a 16 (less 10001) ∷ in_a 26 (pos 9990001)
    ∷ in_a 17 (pos 1) ∷ in_a 17 (less 10000001)
    ∷ in_a 18 (less 1) ∷ in_a 18 (pos 10000001)
    ∷ in_a 19 (less 99) ∷ in_a 19 (less 10000001)
    ∷ in_a 20 (pos 199) ∷ in_a 20 (pos 10000001) ∷ in_a 55 (pos 199)
    ∷ in_a 56 (pos 1) ∷ in_a 63 (less 1)
    ∷ record { row = unlisted_row; at = 1; put = pos 1 } ∷ record { row = unlisted_row; at = 63; put = less 1 }
    ∷ []

broken_number_named : map named broken ≡ map (λ (c : Change). c.at) broken
unfolding first_false pieces between term_marks rate_marks limit_marks date_marks listed_marks row_marks
broken_number_named = refl

-- row A, and one number at the end of its range
abbrev kept : List (List ℤ)
kept =
    row_a ∷ commodity ∷ unlisted_row ∷ row_with 1 (pos 1) ∷ row_with 1 (pos 10000000) ∷ row_with 4 (pos 2) ∷ row_with 8 (pos 2000) ∷ row_with 8 (pos 10000) ∷ row_with 12 (pos 8)
    ∷ row_with 17 (pos 0) ∷ row_with 18 (pos 0) ∷ row_with 19 (less 10000000) ∷ row_with 20 (pos 10000000) ∷ []

sound_rows : map sound_row kept ≡ map (λ (row : List ℤ). true) kept
unfolding all_true pieces between term_marks rate_marks limit_marks date_marks listed_marks row_marks sound_row
sound_rows = refl

-- row A passes the cover test, with raised fall 9,700 it still does, with 9,800 not; an unlisted row does not
cover_tests : map cover_test (row_a ∷ row_with 8 (pos 9700) ∷ row_with 8 (pos 9800) ∷ unlisted_row ∷ []) ≡ true ∷ true ∷ false ∷ false ∷ []
unfolding between max_ℤ highest_rate outer_width cover_test
cover_tests = refl

-- ---- own rows over row A, one number changed: the first laxer number, 64 where none is
abbrev laxer_in : Change → ℕ
laxer_in c = first_false (stricter_row (set c.row c.at c.put) c.row)

-- laxer by one: what must be equal is greater or smaller; of the dates the first and the last. Where row A's number could not be laxer and sound, a row
-- that has another: pool share 9,000, special delivery set
abbrev laxer : List Change
laxer =
    in_a 1 (pos 9999) ∷ in_a 1 (pos 10001)
    ∷ in_a 2 (pos 5001) ∷ record { row = row_with 3 (pos 9000); at = 3; put = pos 9001 }
    ∷ in_a 4 (pos 1) ∷ record { row = row_with 4 (pos 2); at = 4; put = pos 1 } ∷ record { row = row_with 5 (pos 1); at = 5; put = pos 0 }
    ∷ in_a 6 (pos 1999) ∷ in_a 7 (pos 2999) ∷ in_a 8 (pos 3999) ∷ in_a 9 (pos 4999)
    ∷ in_a 10 (pos 101) ∷ in_a 11 (pos 101) ∷ in_a 12 (pos 0) ∷ in_a 12 (pos 2)
    ∷ in_a 16 (less 1) ∷ in_a 16 (pos 1) ∷ in_a 17 (less 99) ∷ in_a 18 (pos 199) ∷ in_a 19 (less 199) ∷ in_a 20 (pos 299)
    ∷ in_a 51 (less 1) ∷ in_a 51 (pos 1) ∷ in_a 52 (less 99) ∷ in_a 53 (pos 199) ∷ in_a 54 (less 199) ∷ in_a 55 (pos 299)
    ∷ []

laxer_number_named : map laxer_in laxer ≡ map (λ (c : Change). c.at) laxer
unfolding first_false pieces between stricter_terms stricter_rates stricter_limits stricter_date stricter_row
laxer_number_named = refl

-- equal, and stricter by one
abbrev stricter : List Change
stricter =
    in_a 1 (pos 10000) ∷ in_a 2 (pos 4999) ∷ in_a 3 (pos 9999) ∷ in_a 5 (pos 1) ∷ in_a 6 (pos 2001) ∷ in_a 7 (pos 3001) ∷ in_a 8 (pos 4001) ∷ in_a 9 (pos 5001)
    ∷ in_a 10 (pos 99) ∷ in_a 11 (pos 99) ∷ in_a 17 (less 101) ∷ in_a 18 (pos 201) ∷ in_a 19 (less 201) ∷ in_a 20 (pos 301)
    ∷ in_a 52 (less 101) ∷ in_a 53 (pos 201) ∷ in_a 54 (less 201) ∷ in_a 55 (pos 301) ∷ []

stricter_passed : map laxer_in stricter ≡ map (λ (c : Change). row_length) stricter
unfolding first_false pieces between stricter_terms stricter_rates stricter_limits stricter_date stricter_row
stricter_passed = refl

-- ---- whole tables, with one row at asset 1
abbrev table : List ℤ → List ℤ
table row = unlisted_row ++ row ++ replicate 896 (pos 0)

abbrev percents : List ℤ
percents = pos 25 ∷ replicate 7 (pos 50)

record Call : Type 0 where
  tables : Tables
  answer : Checked

abbrev lent : List ℤ → List ℤ → List ℤ → ℕ → ℕ → Call
lent clearing own groups code place =
    record { tables = record { clearing = table clearing; own = table own; groups = groups }; answer = record { code = code; place = place } }

-- sound without an own row, with an equal and with a stricter one; "a share of 9,000 over 5,000", and another price; two laxer numbers; a broken number
-- behind a laxer one, and a percent; a broken number of the clearing row, before one of the own row; one of the own row; an own row of another kind, one
-- of kind 0, one over an unlisted row, and one of kind 0 there; percents of 51 and −1; a number too few in each of the three
abbrev calls : List Call
calls =
    lent row_a unlisted_row percents 0 0
    ∷ lent row_a row_a percents 0 0
    ∷ lent row_a (row_with 2 (pos 4999)) percents 0 0
    ∷ lent row_a (row_with 2 (pos 9000)) percents 13 1090
    ∷ lent row_a (row_with 1 (pos 9000)) percents 13 1089
    ∷ lent row_a (set (row_with 55 (pos 299)) 6 (pos 1999)) percents 13 1094
    ∷ lent row_a (set (row_with 2 (pos 9000)) 63 (pos 1)) percents 2 1151
    ∷ lent row_a (row_with 2 (pos 9000)) (set percents 7 (pos 51)) 2 2055
    ∷ lent (row_with 8 (pos 1999)) (row_with 63 (pos 1)) percents 2 72
    ∷ lent row_a (row_with 63 (pos 1)) percents 2 1151
    ∷ lent row_a (row_with 0 (pos 2)) percents 2 1088
    ∷ lent row_a (row_with 0 (pos 0)) percents 2 1088
    ∷ lent unlisted_row row_a percents 2 1088
    ∷ lent unlisted_row (row_with 0 (pos 0)) percents 2 1088
    ∷ lent row_a unlisted_row (set percents 7 (pos 51)) 2 2055
    ∷ lent row_a row_a (set percents 0 (less 1)) 2 2048
    ∷ lent (drop 1 row_a) row_a percents 1 0
    ∷ lent row_a (drop 1 row_a) percents 1 0
    ∷ lent row_a row_a (drop 1 percents) 1 0
    ∷ []

answers : map (λ (c : Call). checked c.tables) calls ≡ map (λ (c : Call). c.answer) calls
unfolding first_false all_true all_zero pieces between part first_code term_marks rate_marks limit_marks date_marks listed_marks row_marks own_kind_right own_row_marks clearing_marks own_marks table_marks lengths_right sound_tables place_from stricter_terms stricter_rates stricter_limits stricter_date stricter_row stricter_own_row stricter_at only_stricter check_code check_place checked
answers = refl
