-- `moving::move_gate` meets its contract: a report's codes, 7 and 8 of the numbers, then 9 of what they name. Assumes nothing.
use mathlib.Core.Path.{◌≡◌, refl, sym, ap, ◌∙◌, subst}
use mathlib.Core.Bool.{Bool, true, false, not}
use mathlib.Core.List.{List, [], ◌∷◌, ◌++◌}
use Prim.Native.Nat.{ℕ}
use native.Mathlib.Omega.{arith}
use lib.IntN.{ℤ, nat_abs}
use mir.Facts.{to_z-of_z}
use Rattle.whole.specs.Refusals.{Refusal, ◌gives◌, first_code, out_of_bounds}
use Rattle.whole.proofs.Parameters.{index}
use Rattle.whole.proofs.Refusals.{none, hit, miss, code, follows}
use Rattle.rates.specs.Lent.{Tables, numbers_of}
use Rattle.book.specs.Changes.{move_out}
use Rattle.book.specs.Ranges.{Bounded, Movable}
use Rattle.book.specs.AtAccount.{InBook}
use Rattle.book.proofs.Allowed.{move_in, move_asset, move_amount}
use Rattle.engine.specs.State.{State, state, block_at}
use Rattle.engine.specs.Refused.{place_of, report_refusals, move_checks}
use Rattle.engine.proofs.Allowed.{move_choice, move_amount_right_lem}
use Rattle.engine.proofs.Exits.{exit_stops, exit_follows}
use Rattle.engine.proofs.Gates.{at_place, report_passed}
use Rattle.engine.proofs.Passed.{bounded}
use Rattle.engine.proofs.moving.move_gate.Goals as goal

not_not : (b : Bool) → not (not b) ≡ b
not_not true = refl
not_not false = refl

-- what was lent, and the three lists
module _ (tables : Tables) (i : ℕ) (s : State) (asset amount : ℤ) where
  abbrev first : List Refusal
  first = report_refusals tables i s

  abbrev checks : List Refusal
  checks = move_checks tables.clearing asset amount

  abbrev nine : List Refusal
  nine = move_out (block_at s i) (nat_abs asset) amount gives out_of_bounds ∷ []

  -- the report's gate let through, and gave the place
  module _ (first_0 : 0 ≡ first_code first) (j : ℕ) (placed : j ≡ i) where
    there : InBook s.book j
    there = subst (InBook s.book) (sym placed) (report_passed tables i s (sym first_0)).gate.there

    tested : {b : List ℤ} {r : Bool} → b ≡ block_at s j → r ≡ not (move_out b (nat_abs asset) amount) → move_out (block_at s i) (nat_abs asset) amount ≡ not r
    tested lent e =
        ap (λ (b : List ℤ). move_out b (nat_abs asset) amount) (sym (lent ∙ ap (block_at s) placed)) ∙ sym (not_not _) ∙ ap not (sym e)

    -- and so did 7 and 8
    module _ (checks_0 : 0 ≡ first_code checks) where
      movable : {b : List ℤ} → b ≡ block_at s j → Movable b (nat_abs asset) amount
      movable lent = record {
        bounded = subst Bounded (sym (lent ∙ ap (block_at s) placed)) (bounded (report_passed tables i s (sym first_0)).judgeable);
        movable = move_asset asset (move_choice tables.clearing asset amount (sym checks_0));
        amount_within = move_amount asset amount (move_amount_right_lem tables.clearing asset amount (sym checks_0));
      }

      last : {n : ℕ} → n ≡ first_code nine → n ≡ first_code (first ++ (checks ++ nine))
      last e = follows first (checks ++ nine) tt (sym first_0) (follows checks nine tt (sym checks_0) e)

pub returns-in_err-i-clause-code : goal.returns-in_err-i-clause-code
returns-in_err-i-clause-code c = let a = c.args in let t = numbers_of a.tables in let i = place_of a.account in let s = state a.book.now in
    exit_stops _ _ c.from_residual.ensures.1 (first t i s a.asset a.amount) (checks t i s a.asset a.amount ++ nine t i s a.asset a.amount)
    (simp (to_z-of_z c.ranges.account) at c.in_err-i.ensures.code)

pub returns-in_err-move_checks-clause-code : goal.returns-in_err-move_checks-clause-code
returns-in_err-move_checks-clause-code c = let a = c.args in let f = c.ranges in let t = numbers_of a.tables in let i = place_of a.account in let s = state a.book.now in
    exit_follows _ _ c.from_residual-in_err-move_checks.ensures.1 (first t i s a.asset a.amount) (checks t i s a.asset a.amount) (nine t i s a.asset a.amount) tt
    (sym (simp (to_z-of_z f.account) at c.in_ok-i.ensures.code)) (simp (to_z-of_z f.asset, to_z-of_z f.amount) at c.in_err-move_checks.ensures)

pub block_of-requires : goal.block_of-requires
block_of-requires c = let a = c.args in let f = c.ranges.account in
    there (numbers_of a.tables) (place_of a.account) (state a.book.now) a.asset a.amount (simp (to_z-of_z f) at c.in_ok-i.ensures.code) _
    (at_place f c.in_ok-i.ensures.place)

pub overflow_cast-asset : goal.overflow_cast-asset
overflow_cast-asset c = let a = c.args in let f = c.ranges in
    index 255 (omega arith) f.asset
    (move_in a.asset (move_choice a.tables.clearing.now a.asset a.amount (sym (simp (to_z-of_z f.asset, to_z-of_z f.amount) at c.in_ok-move_checks.ensures))))

pub move_fits-requires : goal.move_fits-requires
move_fits-requires c = let a = c.args in let f = c.ranges in
    rw (to_z-of_z f.asset, to_z-of_z f.amount)
    (movable (numbers_of a.tables) (place_of a.account) (state a.book.now) a.asset a.amount (simp (to_z-of_z f.account) at c.in_ok-i.ensures.code) _
    (at_place f.account c.in_ok-i.ensures.place) (simp (to_z-of_z f.asset, to_z-of_z f.amount) at c.in_ok-move_checks.ensures) c.block_of.ensures.0)

pub returns-then-not-move_fits-clause-code : goal.returns-then-not-move_fits-clause-code
returns-then-not-move_fits-clause-code c = let a = c.args in let f = c.ranges in let t = numbers_of a.tables in let i = place_of a.account in let s = state a.book.now in
    let first_0 : 0 ≡ first_code (first t i s a.asset a.amount) = simp (to_z-of_z f.account) at c.in_ok-i.ensures.code in
    let placed = at_place f.account c.in_ok-i.ensures.place in
    last t i s a.asset a.amount first_0 _ placed (simp (to_z-of_z f.asset, to_z-of_z f.amount) at c.in_ok-move_checks.ensures)
    (code (hit (tested t i s a.asset a.amount first_0 _ placed c.block_of.ensures.0 (simp (to_z-of_z f.asset, to_z-of_z f.amount) at c.if-not-move_fits.ensures))))

pub returns-clause-code : goal.returns-clause-code
returns-clause-code c = let a = c.args in let f = c.ranges in let t = numbers_of a.tables in let i = place_of a.account in let s = state a.book.now in
    let first_0 : 0 ≡ first_code (first t i s a.asset a.amount) = simp (to_z-of_z f.account) at c.in_ok-i.ensures.code in
    let placed = at_place f.account c.in_ok-i.ensures.place in
    last t i s a.asset a.amount first_0 _ placed (simp (to_z-of_z f.asset, to_z-of_z f.amount) at c.in_ok-move_checks.ensures)
    (code (miss (tested t i s a.asset a.amount first_0 _ placed c.block_of.ensures.0 (simp (to_z-of_z f.asset, to_z-of_z f.amount) at c.if-not-move_fits.ensures)) none))
