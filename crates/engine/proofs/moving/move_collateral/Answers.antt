-- `moving::move_collateral` meets its contract: a code before 10 turns it away, or the move is judged. Assumes nothing.
use mathlib.Core.Path.{sym, ap, ◌∙◌, subst}
use Prim.Native.Nat.{ℕ}
use native.Mathlib.Omega.{arith}
use lib.IntN.{nat_abs}
use mir.Facts.{to_z-of_z}
use Rattle.whole.proofs.Parameters.{index}
use Rattle.rates.specs.Lent.{numbers_of}
use Rattle.engine.specs.State.{state}
use Rattle.engine.specs.Refused.{place_of, move_stands}
use Rattle.engine.specs.Calls.{outcome_of, judged_move, moving}
use Rattle.engine.specs.Ranges.{MoveStands}
use Rattle.engine.proofs.Gates.{at_place}
use Rattle.engine.proofs.Outcomes.{exit_away, let_through}
use Rattle.engine.proofs.Passed.{move_stood}
use Rattle.engine.proofs.moving.move_collateral.Goals as goal

pub returns-in_err-i : goal.returns-in_err-i
unfolding moving
returns-in_err-i c = let a = c.args in let f = c.ranges in let t = numbers_of a.tables in let i = place_of a.account in
    exit_away (move_stands t i a.asset a.amount) (judged_move t i (nat_abs a.asset) a.amount) (state a.book.now) _ _ c.from_residual.ensures.1
    (simp (to_z-of_z f.account, to_z-of_z f.asset, to_z-of_z f.amount) at c.in_err-i.ensures.code)

pub overflow_cast-asset : goal.overflow_cast-asset
overflow_cast-asset c = let a = c.args in let f = c.ranges in
    index 255 (omega arith) f.asset
    (move_stood (numbers_of a.tables) (place_of a.account) a.asset a.amount (state a.book.now)
    (sym (simp (to_z-of_z f.account, to_z-of_z f.asset, to_z-of_z f.amount) at c.in_ok-i.ensures.code))).asset_in

pub judge_move-requires : goal.judge_move-requires
judge_move-requires c = let a = c.args in let f = c.ranges in let t = numbers_of a.tables in
    let q = move_stood t (place_of a.account) a.asset a.amount (state a.book.now)
    (sym (simp (to_z-of_z f.account, to_z-of_z f.asset, to_z-of_z f.amount) at c.in_ok-i.ensures.code)) in
    rw (to_z-of_z f.asset, to_z-of_z f.amount)
    (subst (λ (i : ℕ). MoveStands t i (state a.book.now) (nat_abs a.asset) a.amount) (sym (at_place f.account c.in_ok-i.ensures.place)) q.stands)

pub returns : goal.returns
unfolding moving
returns c = let a = c.args in let f = c.ranges in let t = numbers_of a.tables in let i = place_of a.account in
    (simp (to_z-of_z f.asset, to_z-of_z f.amount) at c.judge_move.ensures)
    ∙ ap (λ (k : ℕ). outcome_of (judged_move t k (nat_abs a.asset) a.amount) (state a.book.now)) (at_place f.account c.in_ok-i.ensures.place)
    ∙ let_through (move_stands t i a.asset a.amount) (judged_move t i (nat_abs a.asset) a.amount) (state a.book.now) tt
    (sym (simp (to_z-of_z f.account, to_z-of_z f.asset, to_z-of_z f.amount) at c.in_ok-i.ensures.code))
