-- `ordering::order_gate` meets its contract: a report's codes, 7 and 8 of the numbers, then 9 of what they name. Assumes nothing.
use mathlib.Core.Path.{◌≡◌, sym, ap, ap₂, ◌∙◌, subst}
use mathlib.Core.Bool.{Bool, not}
use mathlib.Core.List.{List, [], ◌∷◌, ◌++◌}
use Prim.Native.Nat.{ℕ}
use lib.IntN.{ℤ}
use mir.Facts.{to_z-of_z}
use Rattle.whole.specs.Refusals.{Refusal, ◌gives◌, first_code, out_of_bounds}
use Rattle.whole.proofs.Refusals.{none, hit, miss, code, follows}
use Rattle.rates.specs.Lent.{Tables, numbers_of}
use Rattle.book.specs.Rules.{in_bounds}
use Rattle.book.specs.Choices.{trade_of}
use Rattle.book.specs.Changes.{traded, trade_out}
use Rattle.book.specs.Ranges.{TradeRanges, Bounded, Tradable}
use Rattle.book.specs.AtAccount.{InBook}
use Rattle.book.specs.declared.changes.Trade.{Trade}
use Rattle.book.specs.declared.terms.Terms.{Terms}
use Rattle.book.proofs.Allowed.{trade_ranges}
use Rattle.engine.specs.State.{State, state, block_at}
use Rattle.engine.specs.Refused.{place_of, report_refusals, order_checks}
use Rattle.engine.proofs.Allowed.{terms_ranges}
use Rattle.engine.proofs.Exits.{exit_stops, exit_follows}
use Rattle.engine.proofs.Gates.{at_place, report_passed}
use Rattle.engine.proofs.Passed.{bounded}
use Rattle.engine.proofs.ordering.order_gate.Goals as goal

-- what was lent, and the three lists
module _ (tables : Tables) (i : ℕ) (s : State) (o : Terms) where
  abbrev first : List Refusal
  first = report_refusals tables i s

  abbrev checks : List Refusal
  checks = order_checks tables.clearing o

  abbrev nine : List Refusal
  nine = trade_out (block_at s i) (trade_of o) gives out_of_bounds ∷ []

  -- the report's gate let through, and gave the place
  module _ (first_0 : 0 ≡ first_code first) (j : ℕ) (placed : j ≡ i) where
    there : InBook s.book j
    there = subst (InBook s.book) (sym placed) (report_passed tables i s (sym first_0)).gate.there

    tested : {b : List ℤ} {t : Trade} {r : Bool} → b ≡ block_at s j → t ≡ trade_of o → r ≡ in_bounds (traded b t)
        → trade_out (block_at s i) (trade_of o) ≡ not r
    tested lent booked e =
        ap₂ (λ (b : List ℤ) (t : Trade). not (in_bounds (traded b t))) (sym (lent ∙ ap (block_at s) placed)) (sym booked) ∙ ap not (sym e)

    -- and so did 7 and 8
    module _ (checks_0 : 0 ≡ first_code checks) where
      tradable : {b : List ℤ} {t : Trade} → b ≡ block_at s j → t ≡ trade_of o → Tradable b t
      tradable lent booked = record {
        bounded = subst Bounded (sym (lent ∙ ap (block_at s) placed)) (bounded (report_passed tables i s (sym first_0)).judgeable);
        ranges = subst TradeRanges (sym booked) (trade_ranges o (terms_ranges tables.clearing o (sym checks_0)));
      }

      last : {n : ℕ} → n ≡ first_code nine → n ≡ first_code (first ++ (checks ++ nine))
      last e = follows first (checks ++ nine) tt (sym first_0) (follows checks nine tt (sym checks_0) e)

pub returns-in_err-i-clause-code : goal.returns-in_err-i-clause-code
returns-in_err-i-clause-code c = let t = numbers_of c.args.tables in let i = place_of c.args.account in let s = state c.args.book.now in let o = c.args.o in
    exit_stops _ _ c.from_residual.ensures.1 (first t i s o) (checks t i s o ++ nine t i s o) (simp (to_z-of_z c.ranges.account) at c.in_err-i.ensures.code)

pub returns-in_err-order_checks-clause-code : goal.returns-in_err-order_checks-clause-code
returns-in_err-order_checks-clause-code c = let t = numbers_of c.args.tables in let i = place_of c.args.account in let s = state c.args.book.now in let o = c.args.o in
    exit_follows _ _ c.from_residual-in_err-order_checks.ensures.1 (first t i s o) (checks t i s o) (nine t i s o) tt
    (sym (simp (to_z-of_z c.ranges.account) at c.in_ok-i.ensures.code)) c.in_err-order_checks.ensures

pub block_of-requires : goal.block_of-requires
block_of-requires c = let a = c.args in let f = c.ranges.account in
    there (numbers_of a.tables) (place_of a.account) (state a.book.now) a.o (simp (to_z-of_z f) at c.in_ok-i.ensures.code) _ (at_place f c.in_ok-i.ensures.place)

pub trade_of-requires : goal.trade_of-requires
trade_of-requires c = terms_ranges _ _ (sym c.in_ok-order_checks.ensures)

pub trade_fits-requires : goal.trade_fits-requires
trade_fits-requires c = let a = c.args in let f = c.ranges.account in
    tradable (numbers_of a.tables) (place_of a.account) (state a.book.now) a.o (simp (to_z-of_z f) at c.in_ok-i.ensures.code) _
    (at_place f c.in_ok-i.ensures.place) c.in_ok-order_checks.ensures c.block_of.ensures.0 c.trade_of.ensures

pub returns-then-not-trade_fits-clause-code : goal.returns-then-not-trade_fits-clause-code
returns-then-not-trade_fits-clause-code c = let t = numbers_of c.args.tables in let i = place_of c.args.account in let s = state c.args.book.now in let o = c.args.o in
    let first_0 : 0 ≡ first_code (first t i s o) = simp (to_z-of_z c.ranges.account) at c.in_ok-i.ensures.code in
    let placed = at_place c.ranges.account c.in_ok-i.ensures.place in
    last t i s o first_0 _ placed c.in_ok-order_checks.ensures
    (code (hit (tested t i s o first_0 _ placed c.block_of.ensures.0 c.trade_of.ensures c.if-not-trade_fits.ensures)))

pub returns-clause-code : goal.returns-clause-code
returns-clause-code c = let t = numbers_of c.args.tables in let i = place_of c.args.account in let s = state c.args.book.now in let o = c.args.o in
    let first_0 : 0 ≡ first_code (first t i s o) = simp (to_z-of_z c.ranges.account) at c.in_ok-i.ensures.code in
    let placed = at_place c.ranges.account c.in_ok-i.ensures.place in
    last t i s o first_0 _ placed c.in_ok-order_checks.ensures
    (code (miss (tested t i s o first_0 _ placed c.block_of.ensures.0 c.trade_of.ensures c.if-not-trade_fits.ensures) none))
