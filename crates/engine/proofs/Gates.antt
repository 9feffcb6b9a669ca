-- What a call's first refusals come to, test by test, and what they give where they let through. Assumes nothing.
use mathlib.Core.Path.{◌≡◌, refl, sym, ap, ◌∙◌}
use mathlib.Core.Bool.{true, not, ◌&&◌}
use mathlib.Core.List.{List, ◌∷◌, ◌++◌}
use Prim.Native.Nat.{ℕ}
use lib.IntN.{ℤ}
use lib.ListN.{length}
use mir.Facts.{to_z-of_z}
use mir.Syntax.{w64}
use mir.Val.{SFits}
use lib.Dec.{eqb}
use borrow.Author.Tests.{eq-eqb, eqb-true, ltb-true, not-false}
use Rattle.whole.specs.Refusals.{Refusal, ◌gives◌, first_code, wrong_length}
use Rattle.whole.proofs.Machine.{back}
use Rattle.whole.proofs.Refusals.{none, miss, code, none_holds, stops, follows, goes_on, first_zero, second_zero}
use Rattle.whole.proofs.Tests.{and_left, and_right, both, denied}
use Rattle.rates.specs.Tables.{Checked, lengths_right, table_refusals, check_code, checked}
use Rattle.rates.specs.Ranges.{TableRanges}
use Rattle.rates.proofs.Sound.{ranges}
use Rattle.book.specs.AtAccount.{InBook}
use Rattle.settlement.specs.Code.{code_right, code_holds_listed}
use Rattle.rates.specs.Lent.{Tables}
use Rattle.engine.specs.State.{State}
use Rattle.engine.specs.Refused.{place_of, account_refusals, book_gate, table_gate, holding_refusals, report_refusals}
use Rattle.engine.specs.Ranges.{Judgeable}

-- the place that a gate gives is the account's
pub at_place : {account : ℤ} {i : ℕ} → SFits w64 account → i ≡ place_of (back account) → i ≡ place_of account
at_place f e = e ∙ ap place_of (to_z-of_z f)

-- and so is the code
pub of_account : {account : ℤ} {n : ℕ} (refusals : ℕ → List Refusal) → SFits w64 account → n ≡ first_code (refusals (place_of (back account)))
    → n ≡ first_code (refusals (place_of account))
of_account refusals f e = e ∙ ap (λ (z : ℤ). first_code (refusals (place_of z))) (to_z-of_z f)

-- a book that has its length, and then the account
pub book_passes : (i : ℕ) (s : State) {n : ℕ} → length s.book ≡ 4608 → n ≡ first_code (account_refusals i) → n ≡ first_code (book_gate i s)
unfolding first_code
book_passes i s long e = e ∙ rw (eq-eqb (length s.book) 4608 long) refl

-- the refusals of the table check, and then the account's
pub checked_code : (tables : Tables) {n place : ℕ} → ◌≡◌ {A = Checked} (record { code = n; place = place }) (checked tables) → n ≡ check_code tables
unfolding checked
checked_code tables e = ap (λ (c : Checked). c.code) e

module _ (tables : Tables) (i : ℕ) (s : State) (long : length s.book ≡ 4608) where
  abbrev of_tables : List Refusal
  of_tables = not (lengths_right tables) gives wrong_length ∷ table_refusals tables

  in_two : first_code (table_gate tables i s) ≡ first_code (of_tables ++ account_refusals i)
  in_two = rw (eq-eqb (length s.book) 4608 long) refl

  pub tables_refused : {n : ℕ} → n ≡ check_code tables → (n ≡ 0 → ⊥) → n ≡ first_code (table_gate tables i s)
  unfolding check_code
  tables_refused e h = stops of_tables (account_refusals i) e h ∙ sym in_two

  pub tables_passed : {n : ℕ} → check_code tables ≡ 0 → n ≡ first_code (account_refusals i) → n ≡ first_code (table_gate tables i s)
  unfolding check_code
  tables_passed e h = follows of_tables (account_refusals i) tt e h ∙ sym in_two

-- ---- what a gate says that was passed
pub book_passed : (i : ℕ) (s : State) → first_code (book_gate i s) ≡ 0 → InBook s.book i
book_passed i s e =
    let off = none_holds (book_gate i s) tt e in
    record { long = eqb-true (length s.book) 4608 (not-false _ (off 0)); below = ltb-true i 16 (not-false _ (off 1)) }

pub record TablePassed (tables : Tables) (i : ℕ) (s : State) : Type 0 where
  pub there : InBook s.book i
  pub sound : TableRanges tables
  pub checked_0 : check_code tables ≡ 0

pub table_passed : (tables : Tables) (i : ℕ) (s : State) → first_code (table_gate tables i s) ≡ 0 → TablePassed tables i s
unfolding check_code
table_passed tables i s e =
    let sized = eqb (length s.book) 4608 in
    let off = none_holds (table_gate tables i s) tt e in
    let lengths : sized && lengths_right tables ≡ true = not-false _ (off 0) in
    let long = eqb-true (length s.book) 4608 (and_left sized (lengths_right tables) lengths) in
    let past : first_code (of_tables tables i s long ++ account_refusals i) ≡ 0 = sym (in_two tables i s long) ∙ e in
    let check : check_code tables ≡ 0 = first_zero (of_tables tables i s long) (account_refusals i) past in
    record {
      there = record { long = long; below = ltb-true i 16 (not-false _ (none_holds (account_refusals i) tt (second_zero (of_tables tables i s long) (account_refusals i) tt past) 0)) };
      sound = ranges tables check;
      checked_0 = check;
    }

-- ---- a report that answers 0
pub record ReportPassed (tables : Tables) (i : ℕ) (s : State) : Type 0 where
  pub gate_0 : first_code (table_gate tables i s) ≡ 0
  pub gate : TablePassed tables i s
  pub judgeable : Judgeable tables i s
  pub listed : code_holds_listed s.book i tables.clearing ≡ true

pub report_passed : (tables : Tables) (i : ℕ) (s : State) → first_code (report_refusals tables i s) ≡ 0 → ReportPassed tables i s
report_passed tables i s e =
    let gate = table_gate tables i s in
    let held = holding_refusals tables.clearing i s in
    let g = table_passed tables i s (first_zero gate held e) in
    let off = none_holds held tt (second_zero gate held tt e) in
    let right = code_right s.book i in
    let listed = code_holds_listed s.book i tables.clearing in
    let six = not-false (right && listed) (off 0) in
    record {
      gate_0 = first_zero gate held e;
      gate = g;
      judgeable = record {
        there = g.there;
        right = and_left right listed six;
        is_open = off 1;
        sound = g.sound;
      };
      listed = and_right right listed six;
    }

-- a state with a book of the same length, whose account may be judged and whose code holds listed assets only, answers 0 too
pub report_answers : (tables : Tables) (i : ℕ) (s other : State) → first_code (table_gate tables i s) ≡ 0 → length other.book ≡ length s.book
    → Judgeable tables i other → code_holds_listed other.book i tables.clearing ≡ true
    → first_code (report_refusals tables i other) ≡ 0
report_answers tables i s other gate long j listed =
    goes_on (table_gate tables i other) (holding_refusals tables.clearing i other) tt (rw long gate)
    ∙ sym (code (miss (denied (both (code_right other.book i) (code_holds_listed other.book i tables.clearing) j.right listed)) (miss j.is_open none)))
