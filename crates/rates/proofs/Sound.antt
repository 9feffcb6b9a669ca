-- What a caller learns from code 0 of the table check: the lengths; of each asset, that its row in force is in its ranges, has the kind of its clearing
-- row, is listed if it passes the cover test and all zero if not listed, and that its own row is absent exactly where it has no kind; of each group, that
-- its percent is right.
-- Assumes nothing.
use mathlib.Core.Path.{◌≡◌, refl, sym, ap, ◌∙◌}
use mathlib.Core.Bool.{Bool, true, false, not, cond}
use mathlib.Core.List.{List, ◌∷◌, ◌++◌, map}
use Prim.Native.Nat.{ℕ, ◌<◌}
use native.Mathlib.Omega.{arith}
use lib.IntN.{ℤ, pos}
use lib.ListN.{length, replicate}
use borrow.Author.Tests.{lt-ltb, not-true}
use Rattle.whole.specs.Bounds.{between, equal, is_zero}
use Rattle.whole.specs.Marks.{all_true, pieces}
use Rattle.whole.proofs.Bounds.{equal_says, upto_by}
use Rattle.whole.proofs.Tests.{and_left, and_right, true_not_false}
use Rattle.whole.proofs.Marks.{all_left, all_right, all_piece, all_numbers}
use Rattle.rates.specs.Units.{assets, row_length}
use Rattle.rates.specs.Row.{kind, unlisted}
use Rattle.rates.specs.Rules.{row_marks}
use Rattle.rates.specs.Lent.{Tables}
use Rattle.rates.specs.Tables.{row_of, listed, absent, own_kind_right, own_row_marks, percent_right, clearing_marks, own_marks, table_marks, lengths_right, sound_tables, sound_own, check_code}
use Rattle.rates.specs.InForce.{in_force, cover_test, sound_row}
use Rattle.rates.specs.Ranges.{RowRanges, TableRanges}
use Rattle.rates.proofs.Counts.{row_long, long_clearing, long_own, long_groups}
use Rattle.rates.proofs.Answer.{code_0_says}
use Rattle.rates.proofs.Ranges.{row_ranges}
use Rattle.rates.proofs.Lookup.{of_either}
use Rattle.rates.proofs.Zeros.{absent_unlisted}

-- ---- an own row whose marks are true
module _ (own clearing : List ℤ) (e : all_true (own_row_marks own clearing) ≡ true) where
  -- where it is present, it has the clearing row's kind, and keeps the rules of a row
  module _ (present : absent own ≡ false) where
    own_right : (own_kind_right own clearing ≡ true) × (all_true (row_marks own) ≡ true)
    unfolding own_row_marks all_true
    own_right = by (own_kind_right own clearing) refl (rw present at e)
      where
        by : (b : Bool) → own_kind_right own clearing ≡ b
            → all_true (cond (own_kind_right own clearing) (row_marks own) (false ∷ replicate 63 true)) ≡ true
            → (own_kind_right own clearing ≡ true) × (all_true (row_marks own) ≡ true)
        by true k m = (k, rw k at m)
        by false k m = true_not_false (rw k at m)

    own_kind : kind own ≡ kind clearing
    unfolding own_kind_right
    own_kind = equal_says (and_left _ _ own_right.0)

    own_listed : unlisted own ≡ false
    unfolding own_kind_right
    own_listed = ap is_zero own_kind ∙ not-true (unlisted clearing) (and_right (equal (kind own) (kind clearing)) _ own_right.0)

  -- so it is absent exactly where it has no kind
  pub absent_by_kind : absent own ≡ unlisted own
  absent_by_kind = by (absent own) refl
    where
      by : (b : Bool) → absent own ≡ b → absent own ≡ unlisted own
      by true a = a ∙ sym (absent_unlisted own a)
      by false a = a ∙ sym (own_listed a)

sound_row_lem : (row : List ℤ) → length row ≡ row_length → all_true (row_marks row) ≡ true → RowRanges row
unfolding sound_row
sound_row_lem row long e = row_ranges row (rw (long, e) refl)

module _ (tables : Tables) where
  abbrev clearing : List ℤ
  clearing = tables.clearing

  abbrev own : List ℤ
  own = tables.own

  abbrev groups : List ℤ
  groups = tables.groups

  -- ---- tables that are sound: the marks part by part, and row by row
  module _ (sound : sound_tables tables ≡ true) where
    past_clearing : all_true (pieces (own_marks clearing own) 0 assets ++ map percent_right groups) ≡ true
    unfolding sound_tables table_marks
    past_clearing = all_right (pieces (clearing_marks clearing) 0 assets) _ sound

    pub own_table_right : sound_own clearing own ≡ true
    own_table_right = all_left _ (map percent_right groups) past_clearing

    percents_right : all_true (map percent_right groups) ≡ true
    percents_right = all_right (pieces (own_marks clearing own) 0 assets) _ past_clearing

    module _ (a : ℕ) (h : a < assets) where
      clearing_right : all_true (row_marks (row_of clearing a)) ≡ true
      unfolding sound_tables table_marks clearing_marks
      clearing_right =
          all_piece (clearing_marks clearing) 0 assets a (omega arith) (omega arith)
          (all_left _ (pieces (own_marks clearing own) 0 assets ++ map percent_right groups) sound)

      own_row_right : all_true (own_row_marks (row_of own a) (row_of clearing a)) ≡ true
      unfolding own_marks
      own_row_right = all_piece (own_marks clearing own) 0 assets a (omega arith) (omega arith) own_table_right

      own_kept : absent (row_of own a) ≡ false → all_true (row_marks (row_of own a)) ≡ true
      own_kept e = (own_right (row_of own a) (row_of clearing a) own_row_right e).1

      -- and with the right lengths the numbers of each row are in their ranges
      module _ (right : lengths_right tables ≡ true) where
        pub clearing_ranges : RowRanges (row_of clearing a)
        clearing_ranges = sound_row_lem (row_of clearing a) (row_long clearing (long_clearing tables right) a h) clearing_right

        pub own_ranges : absent (row_of own a) ≡ false → RowRanges (row_of own a)
        own_ranges e = sound_row_lem (row_of own a) (row_long own (long_own tables right) a h) (own_kept e)

  -- ---- code 0
  module _ (passed : check_code tables ≡ 0) where
    lengths : lengths_right tables ≡ true
    lengths = (code_0_says tables passed).0

    sound : sound_tables tables ≡ true
    sound = (code_0_says tables passed).1

    module _ (a : ℕ) (h : a < assets) where
      row_in_ranges : RowRanges (in_force clearing own a)
      row_in_ranges = of_either clearing own a RowRanges (clearing_ranges sound a h lengths) (own_ranges sound a h lengths)

      pub same_kind : kind (in_force clearing own a) ≡ kind (row_of clearing a)
      same_kind =
          of_either clearing own a (λ (row : List ℤ). kind row ≡ kind (row_of clearing a)) refl
          (own_kind (row_of own a) (row_of clearing a) (own_row_right sound a h))

      -- an asset whose row in force passes the cover test is listed
      pub cover_listed : cover_test (in_force clearing own a) ≡ true → listed clearing a ≡ true
      unfolding cover_test listed
      cover_listed e =
          rw (lt-ltb a assets h) (ap (λ (k : ℤ). not (is_zero k)) (sym same_kind) ∙ and_left (not (unlisted (in_force clearing own a))) _ e)

    pub ranges : TableRanges tables
    unfolding between
    ranges =
        record {
          clearing_long = long_clearing tables lengths;
          own_long = long_own tables lengths;
          groups_long = long_groups tables lengths;
          row = row_in_ranges;
          percent = λ g h. upto_by (omega arith) (all_numbers percent_right groups (pos 0) refl (percents_right sound) g);
        }
