-- `rates::tables::check_tables` meets its contract: a wrong length is refused first; then the numbers answer, and then the own rows.
-- Assumes nothing.
use mathlib.Core.Path.{◌≡◌, sym, ap, ◌∙◌}
use mathlib.Core.Bool.{true, false}
use Prim.Native.Nat.{ℕ}
use borrow.Author.Rules.{rules}
use borrow.Author.Tests.{eq-eqb, ne_eqb}
use Rattle.std.specs.Prelude.{Option, None, Result, Ok, Err}
use Rattle.std.specs.Option.{ok_or}
use Rattle.std.specs.Array.{IsWholeChunk}
use Rattle.std.proofs.lemmas.Option.{MatchOption-at_some, MatchOption-at_none}
use Rattle.std.specs.Result.{IsErrAnd, MatchResult}
use Rattle.whole.specs.Marks.{check_from}
use Rattle.whole.proofs.Tests.{both, first_out, second_out}
use Rattle.whole.proofs.Checks.{err_is, handed_on}
use Rattle.rates.specs.declared.tables.Fault.{Fault}
use Rattle.rates.specs.declared.tables.Fault.TheVariants.{WrongLength, BrokenNumber, LaxerOwnRow}
use Rattle.rates.specs.Units.{table_length}
use Rattle.rates.specs.Lent.{Tables, lent, numbers_of}
use Rattle.rates.specs.Faults.{checked_as}
use Rattle.rates.specs.Tables.{table_marks, stricter_marks, lengths_right, sound_tables, sound_own, checked}
use Rattle.rates.proofs.Answer.{answers_1, answers_2, answers_13, answers_0, sound}
use Rattle.rates.proofs.Sound.{own_table_right}
use Rattle.rates.proofs.tables.check_tables.Goals as goal
use Rattle.rates.proofs.tables.check_tables.Goals.{In_ok-groups, After-check_numbers, In_ok-map_err}

-- ---- a wrong length
refused : (tables : Tables) {A : Type 0} {o : Option A} {e : Fault} (r : Result (Unit {0}) Fault) → o ≡ None → ◌≡◌ {A = Result A Fault} (Err e) (ok_or o WrongLength) → r ≡ Err e
    → lengths_right tables ≡ false → checked_as r ≡ checked tables
refused tables {A} {o} {e} r none said p wrong = ap checked_as (p ∙ ap (λ (f : Fault). Err f) fault) ∙ answers_1 tables wrong
  where
    fault : e ≡ WrongLength
    fault = let q : ◌≡◌ {A = Result A Fault} (Err e) (Err WrongLength) = said ∙ ap (λ (o : Option A). ok_or o WrongLength) none in cc

pub returns-in_err-clearing : goal.returns-in_err-clearing
unfolding lengths_right
returns-in_err-clearing c =
    let wrong = c.in_err-clearing.ensures in
    refused _ _ wrong.ok_part wrong.value (handed_on _ c.from_residual.ensures)
    (first_out _ _ (ne_eqb _ _ (MatchOption-at_none _ _ wrong.ok_part c.as_array.ensures.cases)))

pub returns-in_err-own : goal.returns-in_err-own
unfolding lengths_right
returns-in_err-own c =
    let wrong = c.in_err-own.ensures in
    refused _ _ wrong.ok_part wrong.value (handed_on _ c.from_residual-in_err-own.ensures)
    (second_out _ _ (first_out _ _ (ne_eqb _ _ (MatchOption-at_none _ _ wrong.ok_part c.as_array-2.ensures.cases))))

pub returns-in_err-groups : goal.returns-in_err-groups
unfolding lengths_right
returns-in_err-groups c =
    let wrong = c.in_err-groups.ensures in
    refused _ _ wrong.ok_part wrong.value (handed_on _ c.from_residual-in_err-groups.ensures)
    (second_out _ _ (second_out _ _ (ne_eqb _ _ (MatchOption-at_none _ _ wrong.ok_part c.as_array-3.ensures.cases))))

-- ---- the right lengths: the tables as arrays are the tables as they are lent
module _ (c : In_ok-groups) where
  clearing_whole : IsWholeChunk c.args.tables.clearing.now c.in_ok-clearing.clearing.now 1024
  clearing_whole = MatchOption-at_some _ _ _ c.in_ok-clearing.ensures.ok_part c.as_array.ensures.cases

  own_whole : IsWholeChunk c.args.tables.own.now c.in_ok-own.own.now 1024
  own_whole = MatchOption-at_some _ _ _ c.in_ok-own.ensures.ok_part c.as_array-2.ensures.cases

  groups_whole : IsWholeChunk c.args.tables.groups.now c.in_ok-groups.groups.now 8
  groups_whole = MatchOption-at_some _ _ _ c.in_ok-groups.ensures.ok_part c.as_array-3.ensures.cases

  right : lengths_right (numbers_of c.args.tables) ≡ true
  unfolding lengths_right
  right = both _ _ (eq-eqb _ _ clearing_whole.long) (both _ _ (eq-eqb _ _ own_whole.long) (eq-eqb _ _ groups_whole.long))

  same : lent c.in_ok-clearing.clearing c.in_ok-own.own c.in_ok-groups.groups ≡ numbers_of c.args.tables
  same = λ i. record { clearing = clearing_whole.same i; own = own_whole.same i; groups = groups_whole.same i }

-- ---- what `map_err` makes of an answer: the same place, told as a fault
abbrev told_as : (ℕ → Fault) → Result (Unit {0}) ℕ → Result (Unit {0}) Fault
told_as F (Ok v) = Ok v
told_as F (Err place) = Err (F place)

told : (F : ℕ → Fault) (r : Result (Unit {0}) ℕ) (s : Result (Unit {0}) Fault) → MatchResult r (λ v. s ≡ Ok v) (λ e. IsErrAnd s (λ y. y ≡ F e)) → s ≡ told_as F r
told F (Ok v) s h = h
told F (Err e) s h = err_is s h

module _ (tables : Tables) where
  broken : lengths_right tables ≡ true → (r : Result (Unit {0}) ℕ) → r ≡ check_from 0 (table_marks tables) → {e : Fault} → told_as BrokenNumber r ≡ Err e
      → checked_as (told_as BrokenNumber r) ≡ checked tables
  broken right (Ok v) f p = cc
  broken right (Err k) f p = answers_2 tables right f

  none_broken : (r : Result (Unit {0}) ℕ) → r ≡ check_from 0 (table_marks tables) → {v : Unit {0}} → told_as BrokenNumber r ≡ Ok v → sound_tables tables ≡ true
  none_broken (Ok v) f p = sound tables f
  none_broken (Err k) f p = cc

  compared : lengths_right tables ≡ true → sound_tables tables ≡ true → (r : Result (Unit {0}) ℕ) → r ≡ check_from table_length (stricter_marks tables)
      → checked_as (told_as LaxerOwnRow r) ≡ checked tables
  compared right none (Ok v) f = answers_0 tables right none f
  compared right none (Err k) f = answers_13 tables right none f

-- the numbers answer as the marks of the tables as they are lent
numbers : (c : After-check_numbers) → c.check_numbers.result ≡ check_from 0 (table_marks (numbers_of c.args.tables))
numbers c = c.check_numbers.ensures ∙ ap (λ (tables : Tables). check_from 0 (table_marks tables)) (same c.before)

none : (c : In_ok-map_err) → sound_tables (numbers_of c.args.tables) ≡ true
none c =
    let t = told BrokenNumber c.before.before.before.check_numbers.result c.map_err.result (search rules) in
    none_broken _ _ (numbers c.before.before.before) (sym t ∙ c.in_ok-map_err.was)

pub returns-in_err-map_err : goal.returns-in_err-map_err
returns-in_err-map_err c =
    let t = told BrokenNumber c.before.before.before.before.check_numbers.result c.map_err.result (search rules) in
    ap checked_as (handed_on _ c.from_residual-in_err-map_err.ensures ∙ sym c.in_err-map_err.was ∙ t)
    ∙ broken _ (right c.before.before.before.before.before) _ (numbers c.before.before.before.before) (sym t ∙ c.in_err-map_err.was)

pub check_stricter-requires : goal.check_stricter-requires
check_stricter-requires c = ap (λ (tables : Tables). sound_own tables.clearing tables.own) (same c.before.before.before.before) ∙ own_table_right _ (none c)

pub returns : goal.returns
returns c =
    ap checked_as (told LaxerOwnRow _ _ c.map_err-2.ensures.cases)
    ∙ compared _ (right c.before.before.before.before.before.before) (none c.before.before) _ (c.check_stricter.ensures ∙ ap (λ (tables : Tables). check_from table_length (stricter_marks tables)) (same c.before.before.before.before.before.before))
