-- `gate::report_gate` meets its contract: codes 1, 2, 13 and 3, then 6 and 4 of the account that is there. Assumes nothing.
use mathlib.Core.Path.{◌≡◌, sym, ap, ◌∙◌, subst}
use mathlib.Core.Bool.{Bool, ◌&&◌}
use Prim.Native.Nat.{ℕ}
use mir.Facts.{to_z-of_z}
use Rattle.whole.specs.Refusals.{first_code}
use Rattle.whole.proofs.Refusals.{follows}
use Rattle.rates.specs.Lent.{Tables, numbers_of}
use Rattle.book.specs.AtAccount.{InBook}
use Rattle.settlement.specs.Code.{code_right, code_holds_listed}
use Rattle.engine.specs.State.{State, state}
use Rattle.engine.specs.Refused.{place_of, table_gate, open_refusals, holding_refusals, report_refusals}
use Rattle.engine.proofs.Exits.{exit_code, exit_stops}
use Rattle.engine.proofs.Gates.{at_place, table_passed}
use Rattle.engine.proofs.gate.report_gate.Goals as goal

-- the gate before let through, and gave the account's place
module _ (tables : Tables) (i : ℕ) (s : State) (gate_0 : 0 ≡ first_code (table_gate tables i s)) (j : ℕ) (placed : j ≡ i) where
  there : InBook s.book j
  there = subst (InBook s.book) (sym placed) (table_passed tables i s (sym gate_0)).there

  held : {n : ℕ} {right : Bool} → n ≡ first_code (open_refusals right j s) → right ≡ code_right s.book j && code_holds_listed s.book j tables.clearing
      → n ≡ first_code (report_refusals tables i s)
  held e asked =
      follows (table_gate tables i s) (holding_refusals tables.clearing i s) tt (sym gate_0)
      (e ∙ ap (λ (right : Bool). first_code (open_refusals right j s)) asked ∙ ap (λ (i : ℕ). first_code (holding_refusals tables.clearing i s)) placed)

pub returns-in_err-i-clause-code : goal.returns-in_err-i-clause-code
returns-in_err-i-clause-code c = let a = c.args in
    exit_stops _ _ c.from_residual.ensures.1 (table_gate (numbers_of a.tables) (place_of a.account) (state a.book.now))
    (holding_refusals a.tables.clearing.now (place_of a.account) (state a.book.now)) (simp (to_z-of_z c.ranges.account) at c.in_err-i.ensures.code)

pub code_stands-right-requires : goal.code_stands-right-requires
code_stands-right-requires c = let a = c.args in let f = c.ranges.account in
    there (numbers_of a.tables) (place_of a.account) (state a.book.now) (simp (to_z-of_z f) at c.in_ok-i.ensures.code) _ (at_place f c.in_ok-i.ensures.place)

pub block_stands-requires : goal.block_stands-requires
block_stands-requires c = let a = c.args in let f = c.ranges.account in
    there (numbers_of a.tables) (place_of a.account) (state a.book.now) (simp (to_z-of_z f) at c.in_ok-i.ensures.code) _ (at_place f c.in_ok-i.ensures.place)

pub returns-in_err-block_stands-clause-code : goal.returns-in_err-block_stands-clause-code
returns-in_err-block_stands-clause-code c = let a = c.args in let f = c.ranges.account in
    exit_code _ _ c.from_residual-in_err-block_stands.ensures.1
    ∙ held (numbers_of a.tables) (place_of a.account) (state a.book.now) (simp (to_z-of_z f) at c.in_ok-i.ensures.code) _
    (at_place f c.in_ok-i.ensures.place) c.in_err-block_stands.ensures c.code_stands-right.ensures

pub returns-clause-code : goal.returns-clause-code
returns-clause-code c = let a = c.args in let f = c.ranges.account in
    held (numbers_of a.tables) (place_of a.account) (state a.book.now) (simp (to_z-of_z f) at c.in_ok-i.ensures.code) _
    (at_place f c.in_ok-i.ensures.place) c.in_ok-block_stands.ensures c.code_stands-right.ensures
