-- A row that keeps its rules has its numbers in the ranges of specs/Ranges, by name. An unlisted row is all zero, and so is in them too.
-- Assumes nothing.
use mathlib.Core.Path.{◌≡◌, refl, sym, ◌∙◌}
use mathlib.Core.Bool.{Bool, true, false}
use mathlib.Core.List.{List, map}
use Prim.Native.Nat.{ℕ, zero, suc, ◌+◌, ◌*◌, ◌<◌, ◌^◌}
use native.Mathlib.Omega.{arith}
use lib.IntN.{ℤ, pos}
use lib.ListN.{length, drop}
use lib.Dec.{eqb}
use borrow.Author.Tests.{eqb-true}
use Rattle.std.specs.Prelude.{Result, Ok, Err}
use Rattle.std.specs.Result.{is_ok}
use Rattle.whole.specs.Parts.{number}
use Rattle.whole.specs.Bounds.{between, ◌upto◌, is_zero}
use Rattle.whole.specs.Marks.{all_true, check_from}
use Rattle.whole.proofs.Checks.{ok_says, err_says}
use Rattle.whole.proofs.Rules.{ints}
use Rattle.whole.proofs.Bounds.{amid, equal_says, upto_by}
use Rattle.whole.proofs.Tests.{and_left, and_right, true_not_false}
use Rattle.whole.proofs.Marks.{not_all_of, all_at, all_left, all_right, all_piece, all_numbers}
use Rattle.rates.specs.Units.{the_whole, row_length, dates}
use Rattle.rates.specs.Row.{unlisted, price, base_rate, raised_rate}
use Rattle.rates.specs.Rules.{term_marks, rate_marks, limit_marks, date_marks, listed_marks, row_marks}
use Rattle.rates.specs.InForce.{sound_row}
use Rattle.rates.specs.Ranges.{SideRanges, RowRanges}
use Rattle.rates.proofs.DateRanges.{date_ranges, side_ranges}

module _ (row : List ℤ) where
  -- ---- an unlisted row, all zero
  module _ (long : length row ≡ row_length) (none : unlisted row ≡ true) (e : all_true (map is_zero row) ≡ true) where
    zero_at : (k : ℕ) → number row k ≡ pos 0
    unfolding between
    zero_at k = equal_says (all_numbers is_zero row (pos 0) refl e k)

    zero_upto : (k n : ℕ) → n < 2 ^ 63 → number row k upto n
    zero_upto k n l = let z = zero_at k in record { low = omega ints; high = omega ints; fits = omega ints }

    zero_date : (d : ℕ) → all_true (date_marks row d) ≡ true
    unfolding date_marks all_true between
    zero_date d = simp (zero_at 1, zero_at (16 + 5 * d), zero_at (16 + 5 * d + 1), zero_at (16 + 5 * d + 2), zero_at (16 + 5 * d + 3), zero_at (16 + 5 * d + 4))

    zero_side : (s : ℕ) → between (base_rate row s) (raised_rate row s) the_whole ≡ true
    unfolding between
    zero_side s = simp (zero_at (6 + s), zero_at (8 + s))

    unlisted_ranges : RowRanges row
    unlisted_ranges =
        record {
          long = long;
          kind_upto = zero_upto 0 3 (omega arith);
          price_upto = zero_upto 1 10000000 (omega arith);
          price_listed = λ f. true_not_false (sym f ∙ none);
          acceptance_upto = zero_upto 2 10000 (omega arith);
          pool_upto = zero_upto 3 10000 (omega arith);
          sales_upto = zero_upto 4 2 (omega arith);
          special_upto = zero_upto 5 1 (omega arith);
          side = λ s l. side_ranges row s (zero_upto (6 + s) 10000 (omega arith)) (zero_side s);
          market_upto = zero_upto 10 10000000 (omega arith);
          interest_upto = zero_upto 11 10000000 (omega arith);
          group_upto = zero_upto 12 8 (omega arith);
          date = λ d l. date_ranges row (zero_upto 1 10000000 (omega arith)) d (zero_date d);
        }

  -- ---- a listed row
  module _ (long : length row ≡ row_length) (e : all_true (listed_marks row) ≡ true) where
    price_upto : price row upto 10000000
    unfolding listed_marks term_marks
    price_upto = let p = amid (all_at (listed_marks row) e 1) in record { low = omega ints; high = p.to; fits = omega ints }

    both_sides : (s : ℕ) → s < 2 → SideRanges row s
    unfolding listed_marks term_marks rate_marks
    both_sides zero l =
        side_ranges row 0 (upto_by (omega arith) (all_at (listed_marks row) e 6)) (all_at (listed_marks row) e 8)
    both_sides (suc zero) l =
        side_ranges row 1 (upto_by (omega arith) (and_left _ _ (all_at (listed_marks row) e 7))) (and_left _ _ (all_at (listed_marks row) e 9))
    both_sides (suc (suc s)) l = absurd (omega arith)

    date_right : (d : ℕ) → d < dates → all_true (date_marks row d) ≡ true
    unfolding listed_marks
    date_right d l =
        all_piece (date_marks row) 0 dates d (omega arith) (omega arith)
        (all_left _ (map is_zero (drop 56 row)) (all_right (limit_marks row) _ (all_right (rate_marks row) _ (all_right (term_marks row) _ e))))

    listed_ranges : RowRanges row
    unfolding listed_marks term_marks rate_marks limit_marks
    listed_ranges =
        let mark = all_at (listed_marks row) e in
        let k = amid (mark 0) in
        record {
          long = long;
          kind_upto = record { low = omega ints; high = k.to; fits = omega ints };
          price_upto = price_upto;
          price_listed = λ f. (amid (mark 1)).from;
          acceptance_upto = upto_by (omega arith) (mark 2);
          pool_upto = upto_by (omega arith) (mark 3);
          sales_upto = upto_by (omega arith) (mark 4);
          special_upto = upto_by (omega arith) (mark 5);
          side = both_sides;
          market_upto = upto_by (omega arith) (mark 10);
          interest_upto = upto_by (omega arith) (mark 11);
          group_upto = upto_by (omega arith) (mark 12);
          date = λ d l. date_ranges row price_upto d (date_right d l);
        }

-- ---- any row
module _ (row : List ℤ) (long : length row ≡ row_length) where
  pub sound_by : (r : Result (Unit {0}) ℕ) → r ≡ check_from 0 (row_marks row) → is_ok r ≡ true → sound_row row ≡ true
  unfolding sound_row
  sound_by (Ok v) e h = rw long (ok_says 0 (row_marks row) e)
  sound_by (Err k) e h = true_not_false h

  pub broken_by : (r : Result (Unit {0}) ℕ) → r ≡ check_from 0 (row_marks row) → is_ok r ≡ false → sound_row row ≡ false
  unfolding sound_row
  broken_by (Ok v) e h = true_not_false (sym h)
  broken_by (Err k) e h = rw long (not_all_of (row_marks row) (err_says 0 (row_marks row) e).inside)

pub row_ranges : (row : List ℤ) → sound_row row ≡ true → RowRanges row
unfolding sound_row row_marks
row_ranges row sound =
    by (unlisted row) refl (eqb-true (length row) row_length (and_left _ _ sound)) (and_right (eqb (length row) row_length) _ sound)
  where
    by : (b : Bool) → unlisted row ≡ b → length row ≡ row_length → all_true (row_marks row) ≡ true → RowRanges row
    by true u long e = unlisted_ranges row long u (rw u at e)
    by false u long e = listed_ranges row long (rw u at e)
