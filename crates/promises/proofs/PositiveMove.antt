-- What a move that answers 0 leaves: the book with the amount added to that collateral, and nothing else changed (specs/Deposit, PositiveMove).
-- Assumes nothing.
use mathlib.Core.Path.{◌≡◌, sym, ap, ◌∙◌}
use mathlib.Core.List.{List, [], ◌∷◌, ◌++◌}
use Prim.Native.Nat.{ℕ, ◌<◌}
use native.Mathlib.Omega.{arith}
use lib.IntN.{ℤ, pos, nat_abs}
use lib.ListN.{length}
use lib.Signed.{◌<ℤ◌}
use Rattle.whole.specs.Parts.{number}
use Rattle.whole.specs.Refusals.{◌gives◌, first_code, out_of_bounds}
use Rattle.whole.proofs.Refusals.{first_zero, changed}
use Rattle.book.specs.Block.{move_at}
use Rattle.book.specs.Rules.{good_block}
use Rattle.book.specs.Changes.{added, moved, move_out}
use Rattle.book.specs.AtAccount.{InBook, at_account}
use Rattle.book.proofs.Changed.{added_length, number_added, number_beside, put_added}
use Rattle.book.proofs.Moves.{move_inside}
use Rattle.rates.specs.Lent.{Tables}
use Rattle.engine.specs.State.{State, block_at, changed_at}
use Rattle.engine.specs.Refused.{report_refusals, move_checks, move_stands, move_judged}
use Rattle.engine.specs.Calls.{outcome_of, moving, judged_move}
use Rattle.engine.specs.Report.{report_of}
use Rattle.engine.proofs.Judged.{own_good, judgeable_moved}
use Rattle.engine.proofs.Passed.{MoveStood, move_stood}
use Rattle.engine.proofs.Reports.{answers_0}
use Rattle.promises.specs.Deposit.{collateral_in, MoreCollateral}

module _ (tables : Tables) (i : ℕ) (asset amount : ℤ) (s : State) (answers : (outcome_of (moving tables i asset amount) s).code ≡ 0) where
  abbrev left : State
  left = (outcome_of (moving tables i asset amount) s).state

  abbrev here : ℕ
  here = collateral_in i (nat_abs asset)

  stands : first_code (move_stands tables i asset amount s) ≡ 0
  unfolding outcome_of moving judged_move
  stands = first_zero (move_stands tables i asset amount s) (move_judged tables i (nat_abs asset) amount s) answers

  pub stood : MoveStood tables i asset amount s
  stood = move_stood tables i asset amount s stands

  there : InBook s.book i
  there = stood.reported.gate.there

  -- a report would have answered 0
  pub was_reported : (report_of tables i s).code ≡ 0
  was_reported =
      answers_0 tables i s
      (first_zero (report_refusals tables i s) (move_checks tables.clearing asset amount ++ (move_out (block_at s i) (nat_abs asset) amount gives out_of_bounds ∷ [])) stands)

  place_inside : move_at (nat_abs asset) < 288
  place_inside = move_inside (nat_abs asset) stood.stands.movable.movable

  left_is : left ≡ changed_at i (λ b. moved b (nat_abs asset) amount) s
  unfolding outcome_of moving judged_move
  left_is = sym (changed _ (changed_at i (λ b. moved b (nat_abs asset) amount) s) s answers)

  book_is : left.book ≡ added s.book here amount
  unfolding moved at_account
  book_is = ap (λ (q : State). q.book) left_is ∙ put_added s.book i (move_at (nat_abs asset)) amount place_inside there.long there.below

  inside_book : here < length s.book
  inside_book = omega (arith, there.long, there.below, place_inside)

  pub more_left : pos 0 <ℤ amount → MoreCollateral s left i (nat_abs asset) amount
  more_left positive = let q = stood in record {
    more = positive;
    there = ap (λ (b : List ℤ). number b here) book_is ∙ number_added s.book here amount inside_book;
    elsewhere = λ k apart. ap (λ (b : List ℤ). number b k) book_is ∙ number_beside s.book here amount k apart;
    same_length = ap length book_is ∙ added_length s.book here amount;
    in_rules =
        ap (λ (q : State). good_block (block_at q i)) left_is
        ∙ own_good (judgeable_moved tables i s (nat_abs asset) amount q.stands);
  }
