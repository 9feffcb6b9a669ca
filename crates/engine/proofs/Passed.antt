-- What a call's refusals give where none of them applies. Assumes nothing.
use mathlib.Core.Path.{◌≡◌, sym, ◌∙◌}
use mathlib.Core.Logic.{⊎_elim}
use mathlib.Core.Bool.{true, not, ◌||◌}
use mathlib.Core.List.{List, [], ◌∷◌, ◌++◌}
use Prim.Native.Nat.{ℕ}
use borrow.Author.Tests.{not-false}
use lib.IntN.{ℤ, pos, nat_abs}
use Rattle.whole.specs.Bounds.{between}
use Rattle.whole.specs.Marks.{all_zero}
use Rattle.whole.specs.Refusals.{Refusal, ◌gives◌, first_code, broken_block, already_open, out_of_bounds}
use Rattle.whole.proofs.Refusals.{none_holds, first_zero, second_zero}
use Rattle.whole.proofs.Tests.{or_cases, true_not_false}
use Rattle.rates.specs.Lent.{Tables}
use Rattle.rates.specs.Tables.{listed}
use Rattle.book.specs.Block.{account_kind}
use Rattle.book.specs.Rules.{kind_right}
use Rattle.book.specs.Choices.{trade_of}
use Rattle.book.specs.Changes.{trade_out, move_out}
use Rattle.book.specs.Ranges.{TermsRanges, Bounded}
use Rattle.book.specs.Roll.{roll_out}
use Rattle.book.specs.AtAccount.{InBook}
use Rattle.book.specs.declared.terms.Terms.{Terms}
use Rattle.book.proofs.Allowed.{trade_ranges, move_in, move_asset, move_amount}
use Rattle.book.proofs.AtAccount.{block_long}
use Rattle.book.proofs.Good.{good_in_bounds}
use Rattle.settlement.proofs.Mates.{on_itself}
use Rattle.settlement.proofs.Right.{member_good}
use Rattle.engine.specs.State.{State, block_at}
use Rattle.engine.specs.Refused.{book_gate, block_refusals, open_stands, roll_refusals, report_refusals, order_checks, order_stands, move_checks, move_stands}
use Rattle.engine.specs.Ranges.{Openable, Judgeable, TradeStands, MoveStands}
use Rattle.engine.proofs.Allowed.{terms_ranges, order_listed, move_choice, move_amount_right_lem}
use Rattle.engine.proofs.Gates.{book_passed, ReportPassed, report_passed}
use Rattle.engine.proofs.Judged.{own_good}

-- ---- an open
pub open_passed : (i : ℕ) (s : State) → first_code (open_stands i s) ≡ 0 → Openable i s
open_passed i s e =
    let gate = book_gate i s in
    let b = block_at s i in
    let own : List Refusal = not (all_zero b || kind_right (account_kind b)) gives broken_block ∷ kind_right (account_kind b) gives already_open ∷ [] in
    let off = none_holds own tt (second_zero gate own tt e) in
    record {
      there = book_passed i s (first_zero gate own e);
      empty = ⊎_elim (λ z. z) (λ k. true_not_false (sym (off 1) ∙ k)) (or_cases (all_zero b) (kind_right (account_kind b)) (not-false _ (off 0)));
    }

-- ---- a roll
pub roll_passed : (i : ℕ) (s : State) → first_code (roll_refusals i s) ≡ 0 → InBook s.book i × Bounded (block_at s i)
roll_passed i s e =
    let gate = book_gate i s in
    let held = block_refusals i s in
    let nine : List Refusal = roll_out (block_at s i) gives out_of_bounds ∷ [] in
    let there = book_passed i s (first_zero gate (held ++ nine) e) in
    let off = none_holds held tt (first_zero held nine (second_zero gate (held ++ nine) tt e)) in
    let long = block_long s.book i there in
    (there, record { long = long; in_bounds = good_in_bounds (block_at s i) long (member_good s.book i i there.below (on_itself s.book i) (not-false _ (off 0))) })

-- an account that may be judged has a block in bounds
pub bounded : {tables : Tables} {i : ℕ} {s : State} → Judgeable tables i s → Bounded (block_at s i)
bounded {i = i} {s = s} j = let long = block_long s.book i j.there in record { long = long; in_bounds = good_in_bounds (block_at s i) long (own_good j) }

-- ---- an order that stands
pub record OrderStood (tables : Tables) (i : ℕ) (o : Terms) (s : State) : Type 0 where
  pub reported : ReportPassed tables i s
  pub terms : TermsRanges o
  pub asset_listed : listed tables.clearing (nat_abs o.asset) ≡ true
  pub stands : TradeStands tables i s (trade_of o)

pub order_stood : (tables : Tables) (i : ℕ) (o : Terms) (s : State) → first_code (order_stands tables i o s) ≡ 0 → OrderStood tables i o s
order_stood tables i o s e =
    let first = report_refusals tables i s in
    let checks = order_checks tables.clearing o in
    let nine : List Refusal = trade_out (block_at s i) (trade_of o) gives out_of_bounds ∷ [] in
    let past = second_zero first (checks ++ nine) tt e in
    let reported = report_passed tables i s (first_zero first (checks ++ nine) e) in
    let terms = terms_ranges tables.clearing o (first_zero checks nine past) in
    record {
      reported = reported;
      terms = terms;
      asset_listed = order_listed tables.clearing o (first_zero checks nine past);
      stands = record {
        judgeable = reported.judgeable;
        tradable = record { bounded = bounded reported.judgeable; ranges = trade_ranges o terms };
        in_bounds = not-false _ (none_holds nine tt (second_zero checks nine tt past) 0);
      };
    }

-- ---- a move that stands
pub record MoveStood (tables : Tables) (i : ℕ) (asset amount : ℤ) (s : State) : Type 0 where
  pub reported : ReportPassed tables i s
  pub asset_in : between (pos 0) asset (pos 255) ≡ true
  pub stands : MoveStands tables i s (nat_abs asset) amount

pub move_stood : (tables : Tables) (i : ℕ) (asset amount : ℤ) (s : State) → first_code (move_stands tables i asset amount s) ≡ 0
    → MoveStood tables i asset amount s
move_stood tables i asset amount s e =
    let first = report_refusals tables i s in
    let checks = move_checks tables.clearing asset amount in
    let nine : List Refusal = move_out (block_at s i) (nat_abs asset) amount gives out_of_bounds ∷ [] in
    let past = second_zero first (checks ++ nine) tt e in
    let right = first_zero checks nine past in
    let reported = report_passed tables i s (first_zero first (checks ++ nine) e) in
    let choice = move_choice tables.clearing asset amount right in
    record {
      reported = reported;
      asset_in = move_in asset choice;
      stands = record {
        judgeable = reported.judgeable;
        movable = record {
          bounded = bounded reported.judgeable;
          movable = move_asset asset choice;
          amount_within = move_amount asset amount (move_amount_right_lem tables.clearing asset amount right);
        };
        not_out = none_holds nine tt (second_zero checks nine tt past) 0;
      };
    }
