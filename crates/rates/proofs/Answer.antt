-- The four answers of the table check: when each is given, and what each says. From code 2: the place that is named is broken, and no place before it; from
-- code 13: no place is broken, the place that is named is laxer, and none of the own table before it.
-- Assumes nothing.
use mathlib.Core.Path.{◌≡◌, refl, ap, ◌∙◌}
use mathlib.Core.Bool.{Bool, true, false, not}
use mathlib.Core.List.{[], ◌∷◌}
use Prim.Native.Nat.{ℕ, ◌+◌, ◌<◌}
use native.Mathlib.Omega.{arith}
use borrow.Author.Tests.{not-false}
use Rattle.std.specs.Prelude.{Ok, Err}
use Rattle.whole.specs.Marks.{first_false, place_from, check_from}
use Rattle.whole.specs.Refusals.{◌gives◌, first_code, wrong_length, broken_number, laxer_own_row}
use Rattle.whole.proofs.Marks.{true_before, false_at, not_all_of, some_false}
use Rattle.whole.proofs.Checks.{ok_says, err_says, err_by}
use Rattle.whole.proofs.Pieces.{in_piece}
use Rattle.whole.proofs.Refusals.{none_holds}
use Rattle.rates.specs.Units.{assets, row_length, table_length}
use Rattle.rates.specs.Lent.{Tables}
use Rattle.rates.specs.Tables.{table_marks, stricter_at, stricter_marks, lengths_right, sound_tables, only_stricter, table_refusals, check_code, check_place, checked, PlaceIsFirst, LaxerIsFirst}
use Rattle.rates.specs.Tables.{Checked}
use Rattle.rates.proofs.Counts.{table_count, stricter_at_count, stricter_count}

module _ (tables : Tables) where
  answer : {code place : ℕ} → code ≡ check_code tables → place ≡ check_place tables
      → ◌≡◌ {A = Checked} (record { code = code; place = place }) (checked tables)
  unfolding checked
  answer e f = λ i. record { code = e i; place = f i }

  pub answers_1 : lengths_right tables ≡ false → ◌≡◌ {A = Checked} (record { code = wrong_length; place = 0 }) (checked tables)
  unfolding check_code check_place first_code
  answers_1 e = answer (rw e refl) (rw e refl)

  -- from the check of the numbers, and then from that of the own rows: Ok, or the place where it stopped
  pub sound : {v : Unit {0}} → Ok v ≡ check_from 0 (table_marks tables) → sound_tables tables ≡ true
  unfolding sound_tables
  sound said = ok_says 0 (table_marks tables) said

  module _ (right : lengths_right tables ≡ true) where
    pub answers_2 : {place : ℕ} → Err place ≡ check_from 0 (table_marks tables) → ◌≡◌ {A = Checked} (record { code = broken_number; place = place }) (checked tables)
    unfolding check_code check_place first_code sound_tables
    answers_2 said =
        let stop = err_says 0 (table_marks tables) said in
        let unsound = not_all_of (table_marks tables) stop.inside in
        answer (rw (right, unsound) refl) (rw (right, unsound) (omega (arith, stop.place_is)))

    -- the same of a place that is counted
    pub answers_2_at : {broken : ℕ} → broken ≡ first_false (table_marks tables) → broken < 2056
        → ◌≡◌ {A = Checked} (record { code = broken_number; place = broken }) (checked tables)
    unfolding place_from
    answers_2_at {broken} e h =
        let q : broken ≡ place_from 0 (table_marks tables) = omega (arith, e) in
        answers_2 (ap (λ (n : ℕ). Err n) q ∙ err_by 0 (table_marks tables) (omega (arith, e, h, table_count tables right)))

    module _ (none : sound_tables tables ≡ true) where
      pub answers_13 : {place : ℕ} → Err place ≡ check_from table_length (stricter_marks tables)
          → ◌≡◌ {A = Checked} (record { code = laxer_own_row; place = place }) (checked tables)
      unfolding check_code check_place first_code only_stricter place_from
      answers_13 said =
          let stop = err_says table_length (stricter_marks tables) said in
          let lax = not_all_of (stricter_marks tables) stop.inside in
          answer (rw (right, none, lax) refl) (rw (right, none, lax) stop.place_is)

      pub answers_0 : {v : Unit {0}} → Ok v ≡ check_from table_length (stricter_marks tables) → ◌≡◌ {A = Checked} (record { code = 0; place = 0 }) (checked tables)
      unfolding check_code check_place first_code only_stricter
      answers_0 said = let strict = ok_says table_length (stricter_marks tables) said in answer (rw (right, none, strict) refl) (rw (right, none, strict) refl)

  -- ---- what code 0 says
  pub code_0_says : check_code tables ≡ 0 → (lengths_right tables ≡ true) × (sound_tables tables ≡ true) × (only_stricter tables ≡ true)
  unfolding check_code
  code_0_says e =
      let off = none_holds (not (lengths_right tables) gives wrong_length ∷ table_refusals tables) tt e in
      (not-false (lengths_right tables) (off 0), not-false (sound_tables tables) (off 1), not-false (only_stricter tables) (off 2))

  pub code_0_by : lengths_right tables ≡ true → sound_tables tables ≡ true → only_stricter tables ≡ true → check_code tables ≡ 0
  unfolding check_code first_code
  code_0_by l s o = rw (l, s, o) refl

  -- ---- what codes 2 and 13 say
  abbrev of_tests : Bool → Bool → Bool → ℕ
  of_tests l s o = first_code (not l gives wrong_length ∷ not s gives broken_number ∷ not o gives laxer_own_row ∷ [])

  code_2_says : check_code tables ≡ broken_number → sound_tables tables ≡ false
  unfolding check_code first_code
  code_2_says e = by (lengths_right tables) (sound_tables tables) (only_stricter tables) e
    where
      by : (l s o : Bool) → of_tests l s o ≡ broken_number → s ≡ false
      by true true true z = absurd (omega arith)
      by true true false z = absurd (omega arith)
      by true false o z = refl
      by false s o z = absurd (omega arith)

  code_13_says : check_code tables ≡ laxer_own_row → (lengths_right tables ≡ true) × (sound_tables tables ≡ true) × (only_stricter tables ≡ false)
  unfolding check_code first_code
  code_13_says e = by (lengths_right tables) (sound_tables tables) (only_stricter tables) e
    where
      by : (l s o : Bool) → of_tests l s o ≡ laxer_own_row → (l ≡ true) × (s ≡ true) × (o ≡ false)
      by true true true z = absurd (omega arith)
      by true true false z = (refl, refl, refl)
      by true false o z = absurd (omega arith)
      by false s o z = absurd (omega arith)

pub place_is_first : PlaceIsFirst
unfolding check_place sound_tables
place_is_first tables e =
    let marks = table_marks tables in
    let h = some_false marks (code_2_says tables e) in
    rw e (record { inside = h; broken = false_at marks h; right_before = true_before marks })

pub laxer_is_first : LaxerIsFirst
unfolding check_place only_stricter place_from
laxer_is_first tables e =
    let said = code_13_says tables e in
    let row = stricter_at tables.clearing tables.own in
    let w = in_piece row row_length assets (stricter_at_count tables.clearing tables.own) (omega (arith, some_false (stricter_marks tables) said.2, stricter_count tables)) in
    record {
      lengths = said.0;
      none_broken = said.1;
      asset = w.piece;
      number = w.mark;
      an_asset = w.inside;
      a_number = w.within_piece;
      place_is = rw e (ap (λ (n : ℕ). table_length + n) w.place_is);
      laxer = w.false_there;
      numbers_before = w.marks_before;
      rows_before = w.pieces_before;
    }
