-- Rows of zeros: an own row that is absent, or the row of an asset that is not listed. Assumes nothing.
use mathlib.Core.Path.{◌≡◌, refl}
use mathlib.Core.Bool.{true}
use mathlib.Core.List.{List, [], ◌∷◌, map}
use native.Mathlib.Omega.{arith}
use lib.ListN.{length, take, drop}
use lib.Seq.{drop-cons}
use lib.IntN.{ℤ, pos}
use Rattle.whole.specs.Bounds.{between, is_zero}
use Rattle.whole.specs.Marks.{all_true, all_zero}
use Rattle.whole.proofs.Marks.{all_numbers}
use Rattle.rates.specs.Units.{row_length}
use Rattle.rates.specs.Row.{unlisted, spare}
use Rattle.rates.specs.Rules.{row_marks}
use Rattle.rates.specs.Tables.{absent}

module _ (row : List ℤ) where
  -- an absent row has no kind, and keeps the rules of a row
  pub absent_unlisted : absent row ≡ true → unlisted row ≡ true
  unfolding all_zero between
  absent_unlisted e = all_numbers is_zero row (pos 0) refl e 0

  pub absent_right : absent row ≡ true → all_true (row_marks row) ≡ true
  unfolding all_zero row_marks
  absent_right e = rw (absent_unlisted e) e

  -- and a row without a kind that keeps them is all zero
  pub unlisted_zero : unlisted row ≡ true → all_true (row_marks row) ≡ true → all_zero row ≡ true
  unfolding all_zero row_marks
  unlisted_zero u e = rw u at e

-- the three numbers without a meaning, as a part of the row
pub spares : (row : List ℤ) → length row ≡ row_length → map is_zero (take 3 (drop 13 row)) ≡ is_zero (spare row 0) ∷ is_zero (spare row 1) ∷ is_zero (spare row 2) ∷ []
spares row long = rw (drop-cons row 13 (pos 0) (omega arith), drop-cons row 14 (pos 0) (omega arith), drop-cons row 15 (pos 0) (omega arith)) refl
