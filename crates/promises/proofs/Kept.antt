-- After a call that passed, the account's block keeps the block rules and is open, and its settlement code is right (specs/EveryCall, GoodAfter).
-- Assumes nothing.
use mathlib.Core.Path.{◌≡◌, refl, sym, ap, ◌∙◌, subst}
use mathlib.Core.Bool.{true, false, ◌&&◌}
use mathlib.Core.List.{List, [], ◌∷◌, ◌++◌}
use mathlib.Core.Logic.{inl}
use Prim.Native.Nat.{ℕ, ◌<◌}
use lib.IntN.{ℤ, nat_abs}
use borrow.Author.Tests.{not-false}
use Rattle.whole.specs.Bounds.{is_zero}
use Rattle.whole.specs.Refusals.{Refusal, ◌gives◌, first_code, out_of_bounds}
use Rattle.whole.proofs.Tests.{and_left, and_right}
use Rattle.whole.proofs.Refusals.{changed, none_holds, first_zero, second_zero}
use Rattle.rates.specs.Lent.{Tables}
use Rattle.book.specs.Block.{account_kind}
use Rattle.book.specs.Rules.{kind_right}
use Rattle.book.specs.Choices.{trade_of}
use Rattle.book.specs.Changes.{opened}
use Rattle.book.specs.Roll.{rolled, roll_out}
use Rattle.book.proofs.AtAccount.{block_long, at_block}
use Rattle.book.proofs.Opened.{opened_length, opened_open}
use Rattle.book.proofs.Rolled.{rolled_length, rolled_head, rolled_good}
use Rattle.settlement.specs.Code.{code_right}
use Rattle.settlement.proofs.Mates.{on_itself}
use Rattle.settlement.proofs.Right.{member_good}
use Rattle.engine.specs.State.{State, block_at, changed_at}
use Rattle.engine.specs.Refused.{book_gate, block_refusals, open_stands, open_judged, roll_refusals, move_stands, order_stands}
use Rattle.engine.specs.Ranges.{Judgeable}
use Rattle.engine.specs.Calls.{Call, code_of, outcome_of, opening, judged_opening, rolling, moving, ordering, judged_move, judged_trade}
use Rattle.engine.proofs.Judged.{own_good, right_still, judgeable_booked, judgeable_moved}
use Rattle.engine.proofs.Passed.{open_passed, roll_passed, move_stood, order_stood}
use Rattle.promises.specs.EveryCall.{GoodAt, Good, GoodAfter}

-- what the change leaves is what the call left
after : (i : ℕ) (call : Call) (s : State) → (code_of call s ≡ 0 → GoodAt i (call.change s)) → Good i call s
unfolding outcome_of
after i call s f e = subst (GoodAt i) (changed _ (call.change s) s e) (f e)

-- a right code has a good block
right_good : (i : ℕ) (s : State) → i < 16 → code_right s.book i ≡ true → is_zero (account_kind (block_at s i)) ≡ false → GoodAt i s
right_good i s l right is_open = record { good = member_good s.book i i l (on_itself s.book i) right; is_open = is_open; code_right = right }

-- an open: 7 asks the kind, and the code with the block opened
asked_opened : (i : ℕ) (kind code : ℤ) (s : State) → first_code (open_stands i s ++ open_judged i kind code s) ≡ 0
    → kind_right kind && code_right (changed_at i (λ b. opened b kind code) s).book i ≡ true
asked_opened i kind code s e = not-false _ (none_holds (open_judged i kind code s) tt (second_zero (open_stands i s) _ tt e) 0)

pub opened_right : (i : ℕ) (kind code : ℤ) (s : State) → first_code (open_stands i s ++ open_judged i kind code s) ≡ 0
    → code_right (changed_at i (λ b. opened b kind code) s).book i ≡ true
opened_right i kind code s e = and_right (kind_right kind) _ (asked_opened i kind code s e)

open_good : (i : ℕ) (kind code : ℤ) (s : State) → first_code (open_stands i s ++ open_judged i kind code s) ≡ 0 → GoodAt i (changed_at i (λ b. opened b kind code) s)
open_good i kind code s e =
    let block = block_at s i in
    let p = (open_passed i s (first_zero (open_stands i s) _ e)).there in
    right_good i (changed_at i (λ b. opened b kind code) s) p.below (opened_right i kind code s e)
    (ap (λ (b : List ℤ). is_zero (account_kind b)) (at_block s.book i p (λ b. opened b kind code) (opened_length block kind code))
    ∙ opened_open block kind code (block_long s.book i p) (and_left (kind_right kind) _ (asked_opened i kind code s e)))

roll_good : (i : ℕ) (s : State) → first_code (roll_refusals i s) ≡ 0 → GoodAt i (changed_at i rolled s)
roll_good i s e =
    let block = block_at s i in
    let p = roll_passed i s e in
    let nine : List Refusal = roll_out block gives out_of_bounds ∷ [] in
    let past = second_zero (book_gate i s) (block_refusals i s ++ nine) tt e in
    let off = none_holds (block_refusals i s) tt (first_zero (block_refusals i s) nine past) in
    let kept = not-false _ (none_holds nine tt (second_zero (block_refusals i s) nine tt past) 0) in
    let long = p.1.long in
    let right = not-false (code_right s.book i) (off 0) in
    let whole = rolled_length block long ∙ sym long in
    right_good i (changed_at i rolled s) p.0.below
    (right_still i s rolled p.0 whole (rolled_head block long)
    (rolled_good block long (off 1) (member_good s.book i i p.0.below (on_itself s.book i) right) kept) i p.0.below right)
    (ap (λ (b : List ℤ). is_zero (account_kind b)) (at_block s.book i p.0 rolled whole) ∙ ap is_zero (rolled_head block long 0 (inl refl)) ∙ off 1)

judged_good : {tables : Tables} {i : ℕ} {s : State} → Judgeable tables i s → GoodAt i s
judged_good j = record { good = own_good j; is_open = j.is_open; code_right = j.right }

pub good_after : GoodAfter
unfolding opening judged_opening rolling moving judged_move ordering judged_trade
good_after = record {
  opens = λ i kind code s. after i (opening i kind code) s (λ e. open_good i kind code s e);
  rolls = λ i s. after i (rolling i) s (λ e. roll_good i s (first_zero (roll_refusals i s) [] e));
  moves = λ tables i asset amount s. after i (moving tables i asset amount) s (λ e.
      judged_good (judgeable_moved tables i s (nat_abs asset) amount (move_stood tables i asset amount s (first_zero (move_stands tables i asset amount s) _ e)).stands));
  orders = λ tables i o s. after i (ordering tables i o) s (λ e.
      judged_good (judgeable_booked tables i s (trade_of o) (order_stood tables i o s (first_zero (order_stands tables i o s) _ e)).stands));
}
