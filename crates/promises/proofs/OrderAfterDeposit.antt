-- An order on a state and on one with more collateral in a block of the account's code (specs/Deposit, OrderAfterDeposit). A report's codes are what they
-- were; 7 and 8 look at no block; 9 asks bounds, and a trade changes no collateral; 10 is not given where the limit with the order booked is zero or more,
-- and it is not lower: deposit and trade come to the same in either order, in one block or in two.
-- Assumes nothing.
use mathlib.Core.Path.{◌≡◌, refl, sym, ap, ◌∙◌, subst}
use mathlib.Core.Bool.{Bool, true, false}
use mathlib.Core.Logic.{inl, ◌≢◌}
use mathlib.Core.List.{List, [], ◌∷◌, ◌++◌}
use Prim.Native.Nat.{ℕ, ◌<◌}
use lib.Dec.{eqb}
use lib.IntN.{ℤ, pos}
use lib.ListN.{length}
use lib.Signed.{◌≤ℤ◌}
use borrow.Author.Tests.{eqb-true, eqb-false}
use Rattle.whole.specs.Refusals.{Refusal, ◌gives◌, first_code, out_of_bounds}
use Rattle.whole.proofs.Numbers.{≤ℤ-trans}
use Rattle.whole.proofs.Refusals.{none, miss, code, first_zero, second_zero, goes_on}
use Rattle.whole.proofs.Tests.{denied}
use Rattle.rates.specs.Lent.{Tables}
use Rattle.book.specs.Rules.{in_bounds, good_block}
use Rattle.book.specs.Choices.{trade_of}
use Rattle.book.specs.Changes.{moved, traded, trade_out}
use Rattle.book.specs.Ranges.{MoveAsset}
use Rattle.book.specs.AtAccount.{InBook}
use Rattle.book.specs.declared.changes.Trade.{Trade}
use Rattle.book.specs.declared.terms.Terms.{Terms}
use Rattle.book.proofs.AtAccount.{block_long, at_place, at_block, at_others}
use Rattle.book.proofs.Good.{good_in_bounds}
use Rattle.book.proofs.Moved.{moved_length}
use Rattle.book.proofs.MoveAndTrade.{traded_collateral, traded_moved, moved_bounds}
use Rattle.book.proofs.Traded.{traded_length, traded_head}
use Rattle.settlement.specs.Code.{on_code}
use Rattle.engine.specs.State.{State, block_at, changed_at}
use Rattle.engine.specs.Refused.{report_refusals, order_checks, order_stands, limit_of}
use Rattle.engine.specs.Calls.{outcome_of, ordering}
use Rattle.engine.specs.Report.{report_of}
use Rattle.engine.proofs.Gates.{report_passed}
use Rattle.engine.proofs.Judged.{own_good, head_still, on_still}
use Rattle.engine.proofs.Passed.{OrderStood, order_stood}
use Rattle.engine.proofs.Reports.{limit_reported}
use Rattle.figures.specs.declared.limit.Figures.{Figures}
use Rattle.promises.specs.Admission.{ZeroOrMore, with_order}
use Rattle.promises.proofs.Alike.{figures_same}
use Rattle.promises.proofs.Admission.{booked_reports, admission, stands_0, order_passed}
use Rattle.promises.proofs.MoreCollateral.{Counts, counts_moves, richer, not_lower, report_still}

module _ (tables : Tables) (s : State) (j : ℕ) (asset : ℕ) (amount : ℤ) (there : InBook s.book j) (counts : Counts tables asset)
    (from_zero : pos 0 ≤ℤ amount) (i : ℕ) (on : on_code s.book i j ≡ true) (o : Terms) where
  abbrev moves : MoveAsset asset
  moves = counts_moves counts

  abbrev t : Trade
  t = trade_of o

  abbrev other : State
  other = richer s j asset amount

  abbrev nine : List ℤ → List Refusal
  nine block = trade_out block t gives out_of_bounds ∷ []

  module _ (good : good_block (block_at other j) ≡ true) (stands : first_code (order_stands tables i o s) ≡ 0) where
    stood : OrderStood tables i o s
    stood = order_stood tables i o s stands

    abbrev here : InBook s.book i
    here = stood.reported.gate.there

    still : first_code (report_refusals tables i other) ≡ 0
    still = report_still s j asset amount there moves tables i stood.reported on counts good

    -- ---- the bounds: of its own block with the deposit, and of its own block where another received it
    abbrev before : List ℤ
    before = block_at s i

    abbrev after : List ℤ
    after = block_at other i

    trade_is : (b : List ℤ) → traded (moved b asset amount) t ≡ moved (traded b t) asset amount
    trade_is b = traded_moved t stood.stands.tradable.ranges asset moves b amount

    bounds_after : (b : Bool) → eqb i j ≡ b → in_bounds (traded after t) ≡ true
    bounds_after true e =
        let same : after ≡ moved before asset amount = subst (λ (k : ℕ). block_at other k ≡ moved (block_at s k) asset amount) (sym (eqb-true i j e))
        (at_block s.book j there (λ b. moved b asset amount) (moved_length (block_at s j) asset amount)) in
        let long = block_long s.book i here in
        ap (λ (b : List ℤ). in_bounds (traded b t)) same
        ∙ ap in_bounds (trade_is before)
        ∙ moved_bounds before (traded before t) asset amount moves long (traded_length before t ∙ long)
        (good_in_bounds before long (own_good stood.reported.judgeable)) stood.stands.in_bounds
        (traded_collateral t stood.stands.tradable.ranges asset moves before)
        ∙ ap in_bounds (sym same)
        ∙ good_in_bounds after (ap length same ∙ moved_length before asset amount ∙ long) (own_good (report_passed tables i other still).judgeable)
    bounds_after false e =
        ap (λ (b : List ℤ). in_bounds (traded b t))
        (at_others s.book j there (λ b. moved b asset amount) (moved_length (block_at s j) asset amount) i here.below (eqb-false i j e))
        ∙ stood.stands.in_bounds

    stands_still : first_code (order_stands tables i o other) ≡ 0
    stands_still =
        let checks = order_checks tables.clearing o in
        let right = first_zero checks (nine before) (second_zero (report_refusals tables i s) (checks ++ nine before) tt stands) in
        goes_on (report_refusals tables i other) (checks ++ nine after) tt still
        ∙ goes_on checks (nine after) tt right
        ∙ sym (code (miss (denied (bounds_after (eqb i j) refl)) none))

    -- ---- the limit: the two changes in either order, block by block
    abbrev booked : State
    booked = with_order i o s

    booked_there : InBook booked.book j
    booked_there = record { long = (at_place s.book i here (λ b. traded b t) (traded_length before t)).long; below = there.below }

    abbrev richer_booked : State
    richer_booked = richer booked j asset amount

    traded_block : (q : State) → InBook q.book i → block_at (with_order i o q) i ≡ traded (block_at q i) t
    traded_block q p = at_block q.book i p (λ b. traded b t) (traded_length (block_at q i) t)

    traded_others : (q : State) → InBook q.book i → (k : ℕ) → k < 16 → k ≢ i → block_at (with_order i o q) k ≡ block_at q k
    traded_others q p k l apart = at_others q.book i p (λ b. traded b t) (traded_length (block_at q i) t) k l apart

    moved_block : (q : State) → InBook q.book j → block_at (changed_at j (λ b. moved b asset amount) q) j ≡ moved (block_at q j) asset amount
    moved_block q p = at_block q.book j p (λ b. moved b asset amount) (moved_length (block_at q j) asset amount)

    moved_others : (q : State) → InBook q.book j → (k : ℕ) → k < 16 → k ≢ j → block_at (changed_at j (λ b. moved b asset amount) q) k ≡ block_at q k
    moved_others q p k l apart = at_others q.book j p (λ b. moved b asset amount) (moved_length (block_at q j) asset amount) k l apart

    other_there : InBook other.book i
    other_there = (report_passed tables i other still).gate.there

    same_blocks : (k : ℕ) → k < 16 → (a b : Bool) → eqb k i ≡ a → eqb k j ≡ b → block_at (with_order i o other) k ≡ block_at richer_booked k
    same_blocks k l true true e f =
        let p = eqb-true k i e in
        let q = eqb-true k j f in
        subst (λ (n : ℕ). block_at (with_order i o other) n ≡ block_at richer_booked n) (sym p)
        (traded_block other other_there
        ∙ ap (λ (b : List ℤ). traded b t) (subst (λ (n : ℕ). block_at other n ≡ moved (block_at s n) asset amount) (sym q ∙ p) (moved_block s there))
        ∙ trade_is before
        ∙ ap (λ (b : List ℤ). moved b asset amount) (sym (traded_block s here))
        ∙ sym (subst (λ (n : ℕ). block_at richer_booked n ≡ moved (block_at booked n) asset amount) (sym q ∙ p) (moved_block booked booked_there)))
    same_blocks k l true false e f =
        let p = eqb-true k i e in
        let apart : i ≢ j = λ z. eqb-false k j f (p ∙ z) in
        subst (λ (n : ℕ). block_at (with_order i o other) n ≡ block_at richer_booked n) (sym p)
        (traded_block other other_there
        ∙ ap (λ (b : List ℤ). traded b t) (moved_others s there i here.below apart)
        ∙ sym (traded_block s here)
        ∙ sym (moved_others booked booked_there i here.below apart))
    same_blocks k l false true e f =
        let q = eqb-true k j f in
        let apart : j ≢ i = λ z. eqb-false k i e (q ∙ z) in
        subst (λ (n : ℕ). block_at (with_order i o other) n ≡ block_at richer_booked n) (sym q)
        (traded_others other other_there j there.below apart
        ∙ moved_block s there
        ∙ ap (λ (b : List ℤ). moved b asset amount) (sym (traded_others s here j there.below apart))
        ∙ sym (moved_block booked booked_there))
    same_blocks k l false false e f =
        traded_others other other_there k l (eqb-false k i e)
        ∙ moved_others s there k l (eqb-false k j f)
        ∙ sym (traded_others s here k l (eqb-false k i e))
        ∙ sym (moved_others booked booked_there k l (eqb-false k j f))

    limit_is : limit_of tables i (with_order i o other) ≡ limit_of tables i richer_booked
    limit_is =
        ap (λ (f : Figures ℤ). f.limit)
        (figures_same i (with_order i o other) richer_booked
        (record {
          same_length =
              (at_place other.book i other_there (λ b. traded b t) (traded_length after t)).long
              ∙ sym (at_place booked.book j booked_there (λ b. moved b asset amount) (moved_length (block_at booked j) asset amount)).long;
          same_blocks = λ k l on. same_blocks k l (eqb k i) (eqb k j) refl refl;
        })
        here.below tables)

    -- the order leaves who is on the code as it was
    on_booked : on_code booked.book i j ≡ true
    on_booked =
        on_still i s (λ b. traded b t) (head_still i s (λ b. traded b t) here (traded_length before t) (traded_head before t stood.stands.tradable.ranges))
        i j here.below there.below
        ∙ on

    still_enough : pos 0 ≤ℤ (report_of tables i booked).figures.limit → pos 0 ≤ℤ (report_of tables i (with_order i o other)).figures.limit
    still_enough least =
        rw (limit_reported tables i (with_order i o other) (booked_reports tables i o other stands_still), limit_is)
        (≤ℤ-trans (rw (limit_reported tables i booked (booked_reports tables i o s stands)) at least)
        (not_lower booked j asset amount booked_there moves tables i here.below on_booked stood.reported.gate.sound counts from_zero))

  pub order_still : good_block (block_at other j) ≡ true → (e : (outcome_of (ordering tables i o) s).code ≡ 0)
      → ZeroOrMore (report_of tables i (outcome_of (ordering tables i o) s).state).figures.limit
      → (outcome_of (ordering tables i o) other).code ≡ 0
  order_still good e least =
      let stands = stands_0 tables i o s e in
      let booked-is = (order_passed tables i o s e).then_booked e in
      (admission tables i o other (stands_still good stands)).zero_where
      (inl (still_enough good stands (subst (λ (q : State). ZeroOrMore (report_of tables i q).figures.limit) booked-is least)))
