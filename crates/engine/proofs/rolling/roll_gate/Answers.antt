-- `rolling::roll_gate` meets its contract: codes 1 and 3, 6 and 4 of the block, then 9 of the roll, which a good block may be asked for.
-- Assumes nothing.
use mathlib.Core.Path.{◌≡◌, sym, ap, ◌∙◌, subst}
use mathlib.Core.Bool.{Bool, not}
use mathlib.Core.List.{List, [], ◌∷◌, ◌++◌}
use Prim.Native.Nat.{ℕ}
use lib.IntN.{ℤ}
use mir.Facts.{to_z-of_z}
use borrow.Author.Tests.{not-false}
use Rattle.whole.specs.Refusals.{Refusal, ◌gives◌, first_code, out_of_bounds}
use Rattle.whole.proofs.Refusals.{none, hit, miss, code, none_holds, follows}
use Rattle.book.specs.Rules.{in_bounds}
use Rattle.book.specs.Roll.{rolled, roll_out}
use Rattle.book.specs.Ranges.{Bounded}
use Rattle.book.specs.AtAccount.{InBook}
use Rattle.book.proofs.Good.{good_in_bounds}
use Rattle.book.proofs.AtAccount.{block_long}
use Rattle.settlement.specs.Code.{code_right}
use Rattle.settlement.proofs.Mates.{on_itself}
use Rattle.settlement.proofs.Right.{member_good}
use Rattle.engine.specs.State.{State, state, block_at}
use Rattle.engine.specs.Refused.{place_of, book_gate, open_refusals, block_refusals}
use Rattle.engine.proofs.Exits.{exit_stops, exit_follows}
use Rattle.engine.proofs.Gates.{at_place, book_passed}
use Rattle.engine.proofs.rolling.roll_gate.Goals as goal

-- the three lists
module _ (i : ℕ) (s : State) where
  abbrev gate : List Refusal
  gate = book_gate i s

  abbrev held : List Refusal
  held = block_refusals i s

  abbrev nine : List Refusal
  nine = roll_out (block_at s i) gives out_of_bounds ∷ []

  -- the gate let through, and gave the place
  module _ (gate_0 : 0 ≡ first_code gate) (j : ℕ) (placed : j ≡ i) where
    there : InBook s.book j
    there = subst (InBook s.book) (sym placed) (book_passed i s (sym gate_0))

    -- the block's list, as it was asked
    heard : {n : ℕ} {right : Bool} → n ≡ first_code (open_refusals right j s) → right ≡ code_right s.book j → n ≡ first_code held
    heard e asked = e ∙ ap (λ (right : Bool). first_code (open_refusals right j s)) asked ∙ ap (λ (k : ℕ). first_code (block_refusals k s)) placed

    -- what is tested of the block
    roll_is : {b : List ℤ} {t : Bool} → b ≡ block_at s j → t ≡ in_bounds (rolled b) → roll_out (block_at s i) ≡ not t
    roll_is e t = ap (λ (b : List ℤ). not (in_bounds (rolled b))) (ap (block_at s) (sym placed) ∙ sym e) ∙ ap not (sym t)

    -- it let through too
    module _ (held_0 : 0 ≡ first_code held) where
      bounded : Bounded (block_at s j)
      bounded = subst (λ (k : ℕ). Bounded (block_at s k)) (sym placed) (
          let p = book_passed i s (sym gate_0) in
          let long = block_long s.book i p in
          record {
            long = long;
            in_bounds = good_in_bounds (block_at s i) long
                (member_good s.book i i p.below (on_itself s.book i) (not-false _ (none_holds held tt (sym held_0) 0)));
          })

      last : {n : ℕ} → n ≡ first_code nine → n ≡ first_code (gate ++ (held ++ nine))
      last e = follows gate (held ++ nine) tt (sym gate_0) (follows held nine tt (sym held_0) e)

pub returns-in_err-i-clause-code : goal.returns-in_err-i-clause-code
returns-in_err-i-clause-code c = let i = place_of c.args.account in let s = state c.args.book.now in
    exit_stops _ _ c.from_residual.ensures.1 (gate i s) (held i s ++ nine i s) (simp (to_z-of_z c.ranges.account) at c.in_err-i.ensures.code)

pub code_right-right-requires : goal.code_right-right-requires
code_right-right-requires c = let f = c.ranges.account in
    there (place_of c.args.account) (state c.args.book.now) (simp (to_z-of_z f) at c.in_ok-i.ensures.code) _ (at_place f c.in_ok-i.ensures.place)

pub block_stands-requires : goal.block_stands-requires
block_stands-requires c = let f = c.ranges.account in
    there (place_of c.args.account) (state c.args.book.now) (simp (to_z-of_z f) at c.in_ok-i.ensures.code) _ (at_place f c.in_ok-i.ensures.place)

pub block_of-requires : goal.block_of-requires
block_of-requires c = let f = c.ranges.account in
    there (place_of c.args.account) (state c.args.book.now) (simp (to_z-of_z f) at c.in_ok-i.ensures.code) _ (at_place f c.in_ok-i.ensures.place)

pub returns-in_err-block_stands-clause-code : goal.returns-in_err-block_stands-clause-code
returns-in_err-block_stands-clause-code c = let f = c.ranges.account in let i = place_of c.args.account in let s = state c.args.book.now in
    let gate_0 : 0 ≡ first_code (gate i s) = simp (to_z-of_z f) at c.in_ok-i.ensures.code in
    exit_follows _ _ c.from_residual-in_err-block_stands.ensures.1 (gate i s) (held i s) (nine i s) tt (sym gate_0)
    (heard i s gate_0 _ (at_place f c.in_ok-i.ensures.place) c.in_err-block_stands.ensures c.code_right-right.ensures)

pub roll_fits-requires : goal.roll_fits-requires
roll_fits-requires c = let f = c.ranges.account in let i = place_of c.args.account in let s = state c.args.book.now in
    let gate_0 : 0 ≡ first_code (gate i s) = simp (to_z-of_z f) at c.in_ok-i.ensures.code in
    let placed = at_place f c.in_ok-i.ensures.place in
    subst Bounded (sym c.block_of.ensures.0) (bounded i s gate_0 _ placed (heard i s gate_0 _ placed c.in_ok-block_stands.ensures c.code_right-right.ensures))

pub returns-then-not-roll_fits-clause-code : goal.returns-then-not-roll_fits-clause-code
returns-then-not-roll_fits-clause-code c = let f = c.ranges.account in let i = place_of c.args.account in let s = state c.args.book.now in
    let gate_0 : 0 ≡ first_code (gate i s) = simp (to_z-of_z f) at c.in_ok-i.ensures.code in
    let placed = at_place f c.in_ok-i.ensures.place in
    last i s gate_0 _ placed (heard i s gate_0 _ placed c.in_ok-block_stands.ensures c.code_right-right.ensures)
    (code (hit (roll_is i s gate_0 _ placed c.block_of.ensures.0 c.if-not-roll_fits.ensures)))

pub returns-clause-code : goal.returns-clause-code
returns-clause-code c = let f = c.ranges.account in let i = place_of c.args.account in let s = state c.args.book.now in
    let gate_0 : 0 ≡ first_code (gate i s) = simp (to_z-of_z f) at c.in_ok-i.ensures.code in
    let placed = at_place f c.in_ok-i.ensures.place in
    last i s gate_0 _ placed (heard i s gate_0 _ placed c.in_ok-block_stands.ensures c.code_right-right.ensures)
    (code (miss (roll_is i s gate_0 _ placed c.block_of.ensures.0 c.if-not-roll_fits.ensures) none))
