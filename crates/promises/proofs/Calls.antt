-- What a reader wants to know of every call that writes (specs/EveryCall), proved once of any call that sees only what it may, is let through only where
-- its account is there, and keeps its block's length; then of each call.
-- Assumes nothing.
use mathlib.Core.Path.{◌≡◌, refl, sym, ap, ap₂, ◌∙◌}
use mathlib.Core.Bool.{Bool, true, false, cond, not, ◌&&◌}
use mathlib.Core.Logic.{inr}
use mathlib.Core.List.{List, [], ◌∷◌, ◌++◌}
use Prim.Native.Nat.{ℕ, ◌<◌}
use native.Mathlib.Omega.{arith}
use lib.Dec.{T, eqb}
use lib.IntN.{ℤ, pos, nat_abs}
use lib.ListN.{length}
use lib.Signed.{lt_z}
use borrow.Author.Tests.{eqb-true}
use Rattle.whole.specs.Bounds.{is_zero}
use Rattle.whole.specs.Refusals.{Refusal, ◌gives◌, first_code, leaves, wrong_choice, broken_block, not_open, out_of_bounds, negative_limit}
use Rattle.whole.proofs.Refusals.{coded, first_zero, kept}
use Rattle.rates.specs.Lent.{Tables}
use Rattle.book.specs.Block.{account_kind, settlement_code}
use Rattle.book.specs.Rules.{kind_right}
use Rattle.book.specs.Choices.{trade_of}
use Rattle.book.specs.Changes.{opened, moved, move_out, traded, trade_out}
use Rattle.book.specs.Roll.{rolled, roll_out}
use Rattle.book.specs.AtAccount.{InBook}
use Rattle.book.specs.declared.terms.Terms.{Terms}
use Rattle.book.proofs.AtAccount.{block_long, at_block, at_others}
use Rattle.book.proofs.Opened.{opened_length}
use Rattle.book.proofs.Moved.{moved_length, moved_head}
use Rattle.book.proofs.Rolled.{rolled_length}
use Rattle.book.proofs.Traded.{traded_length, traded_head}
use Rattle.settlement.proofs.Alike.{alike_right}
use Rattle.engine.specs.State.{State, block_at, changed_at}
use Rattle.engine.specs.Refused.{book_gate, block_refusals, report_refusals, open_stands, open_judged, roll_refusals, move_checks, move_stands, move_judged}
use Rattle.engine.specs.Refused.{order_checks, order_stands, order_judged, limit_of, enough, admitted}
use Rattle.engine.specs.Calls.{Call, code_of, outcome_of, changing, ◌before◌, opening, judged_opening, rolling, moving, ordering, judged_move, judged_trade}
use Rattle.engine.proofs.Gates.{book_passed, report_passed}
use Rattle.engine.proofs.Passed.{open_passed, roll_passed, move_stood, order_stood}
use Rattle.figures.specs.declared.limit.Figures.{Figures}
use Rattle.promises.specs.EveryCall.{Alike, AlikeOpened, Promised, EveryCall}
use Rattle.promises.proofs.Alike.{two_lists, own_same, right_same, figures_same, report_same, alike_changed}

pub record Lawful (Same : State → State → Type 0) (i : ℕ) (call : Call) : Type 0 where
  pub sees : (s other : State) → Same s other → code_of call s ≡ code_of call other
  pub stays : (s : State) → code_of call s ≡ 0 → (j : ℕ) → j < 16 → (j ≡ i → ⊥) → block_at (call.change s) j ≡ block_at s j
  pub own_before : (s other : State) → Same s other → i < 16 → block_at s i ≡ block_at other i
  pub own_after : (s other : State) → Same s other → code_of call s ≡ 0 → block_at (call.change s) i ≡ block_at (call.change other) i

module _ (Same : State → State → Type 0) (i : ℕ) (call : Call) (lawful : Lawful Same i call) where
  others : (s : State) (j : ℕ) → j < 16 → (j ≡ i → ⊥) → block_at (outcome_of call s).state j ≡ block_at s j
  unfolding outcome_of leaves
  others s j l apart = by (eqb (code_of call s) 0) refl
    where
      by : (b : Bool) → eqb (code_of call s) 0 ≡ b → block_at (cond b (call.change s) s) j ≡ block_at s j
      by true e = lawful.stays s (eqb-true _ _ e) j l apart
      by false e = refl

  same_after : (s other : State) → Same s other → i < 16 → block_at (outcome_of call s).state i ≡ block_at (outcome_of call other).state i
  unfolding outcome_of leaves
  same_after s other a l = rw (sym (lawful.sees s other a)) (by (eqb (code_of call s) 0) refl)
    where
      by : (b : Bool) → eqb (code_of call s) 0 ≡ b → block_at (cond b (call.change s) s) i ≡ block_at (cond b (call.change other) other) i
      by true e = lawful.own_after s other a (eqb-true _ _ e)
      by false e = lawful.own_before s other a l

  keeps : (s : State) → ((outcome_of call s).code ≡ 0 → ⊥) → (outcome_of call s).state ≡ s
  unfolding outcome_of
  keeps s h = sym (kept (code_of call s) (call.change s) s h)

  same : (s other : State) → Same s other → (outcome_of call s).code ≡ (outcome_of call other).code
  unfolding outcome_of
  same = lawful.sees

  pub promised : Promised Same i call
  promised = record { one_outcome = λ s x y p q. p ∙ sym q; refusal_keeps = keeps; others_stay = others; same_code = same; same_block_after = same_after }

-- ---- a call with refusals before it: the account's block is changed, in a state whose account is there
changed_block : (i : ℕ) (change : List ℤ → List ℤ) → ((b : List ℤ) → length b ≡ 288 → length (change b) ≡ length b) → (s : State) → InBook s.book i
    → block_at (changed_at i change s) i ≡ change (block_at s i)
changed_block i change keeps s p = at_block s.book i p change (keeps (block_at s i) (block_long s.book i p))

lawful_before : (Same : State → State → Type 0) (first : State → List Refusal) (i : ℕ) (then : State → List Refusal) (change : List ℤ → List ℤ)
    → ((s : State) → T (coded (first s)))
    → ((s other : State) → Same s other → first_code (first s) ≡ first_code (first other))
    → ((s : State) → first_code (first s) ≡ 0 → InBook s.book i)
    → ((s other : State) → Same s other → i < 16 → block_at s i ≡ block_at other i)
    → ((s other : State) → Same s other → first_code (first s) ≡ 0 → first_code (first other) ≡ 0 → first_code (then s ++ []) ≡ first_code (then other ++ []))
    → ((b : List ℤ) → length b ≡ 288 → length (change b) ≡ length b)
    → Lawful Same i (first before then before changing i change)
lawful_before Same first i then change c same there own judged keeps = record {
  sees = λ s other a.
      two_lists (first s) (first other) (then s ++ []) (then other ++ []) (c s) (c other) (same s other a)
      (λ z. judged s other a z (sym (same s other a) ∙ z));
  stays = λ s e j l apart. let p = there s (first_zero (first s) (then s ++ []) e) in
      at_others s.book i p change (keeps (block_at s i) (block_long s.book i p)) j l apart;
  own_before = own;
  own_after = λ s other a e.
      let z = first_zero (first s) (then s ++ []) e in
      let p = there s z in
      changed_block i change keeps s p ∙ ap change (own s other a p.below) ∙ sym (changed_block i change keeps other (there other (sym (same s other a) ∙ z)));
}

-- ---- the calls
module _ (i : ℕ) where
  open_lawful : (kind code : ℤ) → Lawful (AlikeOpened i kind code) i (opening i kind code)
  unfolding opening judged_opening
  open_lawful kind code =
      lawful_before (AlikeOpened i kind code) (open_stands i) i (open_judged i kind code) (λ b. opened b kind code) (λ s. tt)
      (λ s other a. rw (a.same_length, a.same_block) refl)
      (λ s e. (open_passed i s e).there) (λ s other a l. a.same_block)
      (λ s other a z z'. ap (λ (t : Bool). first_code (not (kind_right kind && t) gives wrong_choice ∷ []))
      (alike_right i _ _ (open_passed i s z).there.below a.same_opened))
      (λ b l. opened_length b kind code)

  own : (s other : State) → Alike i s other → i < 16 → block_at s i ≡ block_at other i
  own s other a l = own_same i s other a l

  roll_sees : (s other : State) → Alike i s other → first_code (roll_refusals i s) ≡ first_code (roll_refusals i other)
  roll_sees s other a =
      let nine : State → List Refusal = λ q. roll_out (block_at q i) gives out_of_bounds ∷ [] in
      two_lists (book_gate i s) (book_gate i other) (block_refusals i s ++ nine s) (block_refusals i other ++ nine other) tt tt (rw a.same_length refl)
      (λ z.
      let l = (book_passed i s z).below in
      let right = right_same i s other a l in
      let block = own s other a l in
      λ t. first_code (not (right t) gives broken_block ∷ is_zero (account_kind (block t)) gives not_open ∷ roll_out (block t) gives out_of_bounds ∷ []))

  roll_lawful : Lawful (Alike i) i (rolling i)
  unfolding rolling
  roll_lawful =
      lawful_before (Alike i) (roll_refusals i) i (λ s. []) rolled (λ s. tt) roll_sees
      (λ s e. (roll_passed i s e).0) own (λ s other a z z'. refl) (λ b l. rolled_length b l ∙ sym l)

  module _ (tables : Tables) where
    -- codes 7, 8 and 9 behind a report's
    past_report : (rest : List ℤ → List Refusal) (s other : State) → Alike i s other
        → first_code (report_refusals tables i s ++ rest (block_at s i)) ≡ first_code (report_refusals tables i other ++ rest (block_at other i))
    past_report rest s other a =
        two_lists (report_refusals tables i s) (report_refusals tables i other) (rest (block_at s i)) (rest (block_at other i)) tt tt
        (report_same i s other a tables)
        (λ z. ap (λ (b : List ℤ). first_code (rest b)) (own s other a (report_passed tables i s z).gate.there.below))

    -- the limit with a change made
    limit_with : (change : List ℤ → List ℤ) → ((b : List ℤ) → length (change b) ≡ length b) → (s other : State) → Alike i s other
        → InBook s.book i → InBook other.book i → settlement_code (change (block_at s i)) ≡ settlement_code (block_at s i)
        → limit_of tables i (changed_at i change s) ≡ limit_of tables i (changed_at i change other)
    limit_with change keeps s other a p q e =
        ap (λ (f : Figures ℤ). f.limit)
        (figures_same i (changed_at i change s) (changed_at i change other) (alike_changed i s other a p q change (λ b l. keeps b) e) p.below tables)

    move_lawful : (asset amount : ℤ) → Lawful (Alike i) i (moving tables i asset amount)
    unfolding moving judged_move
    move_lawful asset amount =
        let change : List ℤ → List ℤ = λ b. moved b (nat_abs asset) amount in
        let stood = move_stood tables i asset amount in
        lawful_before (Alike i) (move_stands tables i asset amount) i (move_judged tables i (nat_abs asset) amount) change (λ s. tt)
        (past_report (λ b. move_checks tables.clearing asset amount ++ (move_out b (nat_abs asset) amount gives out_of_bounds ∷ [])))
        (λ s e. (stood s e).reported.gate.there) own
        (λ s other a z z'. ap (λ (x : ℤ). first_code ((lt_z amount (pos 0) && not (enough x)) gives negative_limit ∷ []))
        (limit_with change (λ b. moved_length b (nat_abs asset) amount) s other a (stood s z).reported.gate.there (stood other z').reported.gate.there
        (moved_head (block_at s i) (nat_abs asset) amount (stood s z).stands.movable.movable 13 (inr (omega arith, omega arith)))))
        (λ b l. moved_length b (nat_abs asset) amount)

    order_lawful : (o : Terms) → Lawful (Alike i) i (ordering tables i o)
    unfolding ordering judged_trade
    order_lawful o =
        let change : List ℤ → List ℤ = λ b. traded b (trade_of o) in
        let stood = order_stood tables i o in
        lawful_before (Alike i) (order_stands tables i o) i (order_judged tables i (trade_of o)) change (λ s. tt)
        (past_report (λ b. order_checks tables.clearing o ++ (trade_out b (trade_of o) gives out_of_bounds ∷ [])))
        (λ s e. (stood s e).reported.gate.there) own
        (λ s other a z z'. ap₂ (λ (x y : ℤ). first_code (not (admitted x y) gives negative_limit ∷ []))
        (ap (λ (f : Figures ℤ). f.limit) (figures_same i s other a (stood s z).reported.gate.there.below tables))
        (limit_with change (λ b. traded_length b (trade_of o)) s other a (stood s z).reported.gate.there (stood other z').reported.gate.there
        (traded_head (block_at s i) (trade_of o) (stood s z).stands.tradable.ranges 13 (inr (omega arith, omega arith)))))
        (λ b l. traded_length b (trade_of o))

pub every_call : EveryCall
every_call = record {
  opens = λ i kind code. promised (AlikeOpened i kind code) i (opening i kind code) (open_lawful i kind code);
  rolls = λ i. promised (Alike i) i (rolling i) (roll_lawful i);
  moves = λ tables i asset amount. promised (Alike i) i (moving tables i asset amount) (move_lawful i tables asset amount);
  orders = λ tables i o. promised (Alike i) i (ordering tables i o) (order_lawful i tables o);
}
