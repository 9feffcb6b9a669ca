-- An own row whose comparison has no false mark is stricter than its clearing row by name (specs/Stricter), and back; and so of whole tables, from code 0.
-- Assumes nothing.
use mathlib.Core.Path.{◌≡◌, refl}
use mathlib.Core.Bool.{Bool, true, false}
use mathlib.Core.List.{List}
use mathlib.Core.Logic.{⊎_elim}
use Prim.Native.Nat.{ℕ, zero, suc, ◌<◌}
use native.Mathlib.Omega.{arith}
use lib.IntN.{ℤ, pos}
use lib.ListN.{replicate}
use lib.Signed.{le_z, ◌≤ℤ◌, ◌<ℤ◌}
use Rattle.whole.specs.Bounds.{◌upto◌}
use Rattle.whole.specs.Marks.{all_true, pieces}
use Rattle.whole.proofs.Rules.{ints}
use Rattle.whole.proofs.Numbers.{≤ℤ-antisym, <ℤ-or-≥ℤ}
use Rattle.whole.proofs.Bounds.{le_yes, equal_says, equal_yes}
use Rattle.whole.proofs.Marks.{all_at, all_left, all_right, all_piece, all_both, all_pieces}
use Rattle.rates.specs.Units.{assets, dates}
use Rattle.rates.specs.Row.{special_delivery, base_rate, raised_rate}
use Rattle.rates.specs.Stricter.{stricter_terms, stricter_rates, stricter_limits, stricter_date, stricter_row, StricterDate, Stricter}
use Rattle.rates.specs.Lent.{Tables}
use Rattle.rates.specs.Tables.{row_of, absent, stricter_own_row, stricter_at, lengths_right, sound_tables, only_stricter, check_code, EachStricter, StricterPasses}
use Rattle.rates.proofs.Answer.{code_0_says, code_0_by}
use Rattle.rates.proofs.Sound.{clearing_ranges, own_ranges}

le_says : {x y : ℤ} → le_z x y ≡ true → x ≤ℤ y
le_says e = omega ints

-- ---- a number that is 0 or 1 and is kept where it is 1 is no smaller
kept_says : {x y : ℤ} → x upto 1 → le_z y x ≡ true → y ≡ pos 1 → x ≡ pos 1
kept_says r e f = ≤ℤ-antisym r.high (omega ints)

kept_by : {x y : ℤ} → x upto 1 → y upto 1 → (y ≡ pos 1 → x ≡ pos 1) → le_z y x ≡ true
kept_by {x} {y} r q k = le_yes (⊎_elim not_set (λ l. set (k (≤ℤ-antisym q.high l))) (<ℤ-or-≥ℤ y (pos 1)))
  where
    not_set : y <ℤ pos 1 → y ≤ℤ x
    not_set l = let z = r.low in omega ints

    set : x ≡ pos 1 → y ≤ℤ x
    set e = let z = q.high in omega ints

module _ (own clearing : List ℤ) where
  -- ---- from the marks
  module _ (e : all_true (stricter_row own clearing) ≡ true) where
    date_marks_lem : (d : ℕ) → d < dates → all_true (stricter_date own clearing d) ≡ true
    unfolding stricter_row
    date_marks_lem d l =
        all_piece (stricter_date own clearing) 0 dates d (omega arith) (omega arith)
        (all_left _ (replicate 8 true) (all_right (stricter_limits own clearing) _ (all_right (stricter_rates own clearing) _ (all_right (stricter_terms own clearing) _ e))))

    date_says : (d : ℕ) → d < dates → StricterDate own clearing d
    unfolding stricter_date
    date_says d l = let mark = all_at (stricter_date own clearing d) (date_marks_lem d l) in record {
      same_mid = equal_says (mark 0);
      low_no_higher = le_says (mark 1);
      up_no_lower = le_says (mark 2);
      outer_low_no_higher = le_says (mark 3);
      outer_up_no_lower = le_says (mark 4);
    }

    base_says : (s : ℕ) → s < 2 → base_rate clearing s ≤ℤ base_rate own s
    unfolding stricter_row stricter_terms stricter_rates
    base_says zero l = le_says (all_at (stricter_row own clearing) e 6)
    base_says (suc zero) l = le_says (all_at (stricter_row own clearing) e 7)
    base_says (suc (suc s)) l = absurd (omega arith)

    raised_says : (s : ℕ) → s < 2 → raised_rate clearing s ≤ℤ raised_rate own s
    unfolding stricter_row stricter_terms stricter_rates
    raised_says zero l = le_says (all_at (stricter_row own clearing) e 8)
    raised_says (suc zero) l = le_says (all_at (stricter_row own clearing) e 9)
    raised_says (suc (suc s)) l = absurd (omega arith)

    stricter_says : special_delivery own upto 1 → Stricter own clearing
    unfolding stricter_row stricter_terms stricter_rates stricter_limits
    stricter_says special = let mark = all_at (stricter_row own clearing) e in record {
      same_price = equal_says (mark 1);
      acceptance_no_greater = le_says (mark 2);
      pool_no_greater = le_says (mark 3);
      same_sales = equal_says (mark 4);
      special_kept = kept_says special (mark 5);
      base_no_smaller = base_says;
      raised_no_smaller = raised_says;
      market_no_greater = le_says (mark 10);
      interest_no_greater = le_says (mark 11);
      same_group = equal_says (mark 12);
      date = date_says;
    }

  -- ---- to the marks
  module _ (s : Stricter own clearing) where
    date_by : (d : ℕ) → d < dates → all_true (stricter_date own clearing d) ≡ true
    unfolding stricter_date all_true
    date_by d l = let t = s.date d l in
        rw (equal_yes t.same_mid, le_yes t.low_no_higher, le_yes t.up_no_lower, le_yes t.outer_low_no_higher, le_yes t.outer_up_no_lower) refl

    terms_by : special_delivery own upto 1 → special_delivery clearing upto 1 → all_true (stricter_terms own clearing) ≡ true
    unfolding stricter_terms all_true
    terms_by o c =
        rw (equal_yes s.same_price, le_yes s.acceptance_no_greater, le_yes s.pool_no_greater, equal_yes s.same_sales, kept_by o c s.special_kept) refl

    rates_by : all_true (stricter_rates own clearing) ≡ true
    unfolding stricter_rates all_true
    rates_by =
        rw (le_yes (s.base_no_smaller 0 (omega arith)), le_yes (s.base_no_smaller 1 (omega arith)), le_yes (s.raised_no_smaller 0 (omega arith)), le_yes (s.raised_no_smaller 1 (omega arith))) refl

    limits_by : all_true (stricter_limits own clearing) ≡ true
    unfolding stricter_limits all_true
    limits_by = rw (le_yes s.market_no_greater, le_yes s.interest_no_greater, equal_yes s.same_group) refl

    dates_by : all_true (pieces (stricter_date own clearing) 0 dates) ≡ true
    dates_by = all_pieces (stricter_date own clearing) 0 dates (λ d l. date_by d (omega arith))

    unasked : all_true (replicate 8 true) ≡ true
    unfolding all_true
    unasked = refl

    stricter_by : special_delivery own upto 1 → special_delivery clearing upto 1 → all_true (stricter_row own clearing) ≡ true
    unfolding stricter_row
    stricter_by o c =
        all_both (stricter_terms own clearing) _ (terms_by o c)
        (all_both (stricter_rates own clearing) _ rates_by
        (all_both (stricter_limits own clearing) _ limits_by (all_both (pieces (stricter_date own clearing) 0 dates) _ dates_by unasked)))

-- ---- of whole tables
says : (tables : Tables) → check_code tables ≡ 0 → EachStricter tables
unfolding only_stricter stricter_at stricter_own_row
says tables passed a h present =
    let said = code_0_says tables passed in
    let marks = all_piece (stricter_at tables.clearing tables.own) 0 assets a (omega arith) (omega arith) said.2 in
    stricter_says (row_of tables.own a) (row_of tables.clearing a) (rw present at marks) (own_ranges tables said.1 a h said.0 present).special_upto

asks_no_more : (tables : Tables) → lengths_right tables ≡ true → sound_tables tables ≡ true → EachStricter tables → check_code tables ≡ 0
unfolding only_stricter stricter_at stricter_own_row all_true
asks_no_more tables right sound only =
    code_0_by tables right sound (all_pieces (stricter_at tables.clearing tables.own) 0 assets (λ a h. row a (omega arith)))
  where
    row : (a : ℕ) → a < assets → all_true (stricter_at tables.clearing tables.own a) ≡ true
    row a h = by (absent (row_of tables.own a)) refl
      where
        by : (b : Bool) → absent (row_of tables.own a) ≡ b → all_true (stricter_own_row (row_of tables.own a) (row_of tables.clearing a)) ≡ true
        by true e = rw e refl
        by false e =
            rw e
            (stricter_by (row_of tables.own a) (row_of tables.clearing a) (only a h e)
            (own_ranges tables sound a h right e).special_upto (clearing_ranges tables sound a h right).special_upto)

pub stricter_passes : StricterPasses
stricter_passes = record { says = says; asks_no_more = asks_no_more }
