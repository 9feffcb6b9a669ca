-- What a call leaves as it was in its own account's block, and what the figures do not read (specs/EveryCall). Assumes nothing.
use mathlib.Core.Path.{◌≡◌, refl, sym, ap, ◌∙◌}
use mathlib.Core.Bool.{Bool, true, false, cond}
use mathlib.Core.List.{List}
use mathlib.Core.Logic.{inl, inr, ◌≢◌}
use Prim.Native.Nat.{ℕ, ◌+◌, ◌*◌}
use native.Mathlib.Omega.{arith}
use lib.Dec.{eqb}
use lib.IntN.{ℤ, pos, nat_abs}
use lib.ListN.{length, set}
use lib.Seq.{get_or-set_other}
use borrow.Author.Tests.{eqb-true}
use Rattle.whole.specs.Parts.{number}
use Rattle.whole.specs.Sums.{Σ<}
use Rattle.whole.specs.Refusals.{leaves}
use Rattle.whole.proofs.Lists.{part_set_other}
use Rattle.whole.proofs.Refusals.{first_zero}
use Rattle.rates.specs.Lent.{Tables}
use Rattle.rates.specs.InForce.{in_force}
use Rattle.book.specs.Block.{InHead}
use Rattle.book.specs.Choices.{trade_of}
use Rattle.book.specs.Changes.{opened, moved, traded}
use Rattle.book.specs.Roll.{rolled}
use Rattle.book.specs.AtAccount.{InBook}
use Rattle.book.specs.declared.terms.Terms.{Terms}
use Rattle.book.proofs.AtAccount.{at_block}
use Rattle.book.proofs.Opened.{opened_length, opened_others}
use Rattle.book.proofs.Moved.{moved_length, moved_head}
use Rattle.book.proofs.Rolled.{rolled_length, rolled_head}
use Rattle.book.proofs.Traded.{traded_length, traded_head}
use Rattle.assets.specs.Asset.{asset_of}
use Rattle.assets.specs.Part.{part_of}
use Rattle.figures.specs.Limit.{totals_of, figures_of, rubles_of, part_in, block_figures}
use Rattle.engine.specs.State.{State, block_at, changed_at}
use Rattle.engine.specs.Refused.{open_stands, roll_refusals, move_stands, order_stands}
use Rattle.engine.specs.Calls.{Call, code_of, outcome_of, opening, judged_opening, rolling, moving, ordering, judged_move, judged_trade}
use Rattle.engine.proofs.Passed.{open_passed, roll_passed, move_stood, order_stood}
use Rattle.promises.specs.EveryCall.{Stays, Unchanged, HeadUnread}

-- a number that the change leaves where the call passes stays
stays : (i : ℕ) (call : Call) (s : State) (k : ℕ) → (code_of call s ≡ 0 → number (block_at (call.change s) i) k ≡ number (block_at s i) k) → Stays i call s k
unfolding outcome_of leaves
stays i call s k f = by (eqb (code_of call s) 0) refl
  where
    by : (b : Bool) → eqb (code_of call s) 0 ≡ b → number (block_at (cond b (call.change s) s) i) k ≡ number (block_at s i) k
    by true e = f (eqb-true _ _ e)
    by false e = refl

-- a number that a change of the block leaves
left_alone : (i : ℕ) (change : List ℤ → List ℤ) (s : State) (k : ℕ) → InBook s.book i → length (change (block_at s i)) ≡ length (block_at s i)
    → number (change (block_at s i)) k ≡ number (block_at s i) k → number (block_at (changed_at i change s) i) k ≡ number (block_at s i) k
left_alone i change s k p long e = ap (λ (b : List ℤ). number b k) (at_block s.book i p change long) ∙ e

module _ (i : ℕ) (s : State) (k : ℕ) where
  open_stays : (kind code : ℤ) → k ≢ 0 → k ≢ 13 → Stays i (opening i kind code) s k
  unfolding opening judged_opening
  open_stays kind code apart beyond = stays i (opening i kind code) s k (λ e.
      left_alone i (λ b. opened b kind code) s k (open_passed i s (first_zero (open_stands i s) _ e)).there (opened_length (block_at s i) kind code)
      (opened_others (block_at s i) kind code k apart beyond))

  module _ (head : InHead k) where
    roll_stays : Stays i (rolling i) s k
    unfolding rolling
    roll_stays = stays i (rolling i) s k (λ e.
        let p = roll_passed i s (first_zero (roll_refusals i s) _ e) in
        left_alone i rolled s k p.0 (rolled_length (block_at s i) p.1.long ∙ sym p.1.long) (rolled_head (block_at s i) p.1.long k head))

    move_stays : (tables : Tables) (asset amount : ℤ) → Stays i (moving tables i asset amount) s k
    unfolding moving judged_move
    move_stays tables asset amount = stays i (moving tables i asset amount) s k (λ e.
        let q = move_stood tables i asset amount s (first_zero (move_stands tables i asset amount s) _ e) in
        left_alone i (λ b. moved b (nat_abs asset) amount) s k q.reported.gate.there (moved_length (block_at s i) (nat_abs asset) amount)
        (moved_head (block_at s i) (nat_abs asset) amount q.stands.movable.movable k head))

    order_stays : (tables : Tables) (o : Terms) → Stays i (ordering tables i o) s k
    unfolding ordering judged_trade
    order_stays tables o = stays i (ordering tables i o) s k (λ e.
        let q = order_stood tables i o s (first_zero (order_stands tables i o s) _ e) in
        left_alone i (λ b. traded b (trade_of o)) s k q.reported.gate.there (traded_length (block_at s i) (trade_of o))
        (traded_head (block_at s i) (trade_of o) q.stands.tradable.ranges k head))

pub unchanged : Unchanged
unchanged = record {
  opens = λ i kind code s k. open_stays i s k kind code;
  rolls = λ i s k. roll_stays i s k;
  moves = λ tables i asset amount s k head. move_stays i s k head tables asset amount;
  orders = λ tables i o s k head. order_stays i s k head tables o;
}

-- ---- the figures read the kind, the rubles and the holdings
pub head_unread : HeadUnread
unfolding block_figures part_in rubles_of
head_unread block tables k x low high =
    let kind : number (set block k x) 0 ≡ number block 0 = get_or-set_other block k 0 x (pos 0) (λ e. omega arith) in
    let rubles = part_set_other 1 9 block x k (inr (omega arith)) in
    let row : ℕ → List ℤ = in_force tables.clearing tables.own in
    λ i. figures_of
    (totals_of (λ a. part_of (row a) (asset_of (nat_abs (kind i)) (row a) (part_set_other (16 + 17 * a) 17 block x k (inl (omega arith)) i))) 16)
    tables.groups (Σ< 9 (number (rubles i)))
