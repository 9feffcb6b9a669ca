-- `opening::open` meets its contract: a code turns it away, or the opening is judged. Assumes nothing.
use mathlib.Core.Path.{sym, ap, ◌∙◌}
use Prim.Native.Nat.{ℕ}
use mir.Facts.{to_z-of_z}
use Rattle.engine.specs.State.{state}
use Rattle.engine.specs.Refused.{place_of, open_stands}
use Rattle.engine.specs.Calls.{outcome_of, judged_opening, opening}
use Rattle.engine.proofs.Gates.{at_place}
use Rattle.engine.proofs.Passed.{open_passed}
use Rattle.engine.proofs.Outcomes.{exit_away, let_through}
use Rattle.engine.proofs.opening.open.Goals as goal

pub returns-in_err-i : goal.returns-in_err-i
unfolding opening
returns-in_err-i c = let a = c.args in let i = place_of a.account in
    exit_away (open_stands i) (judged_opening i a.kind a.code) (state a.book.now) _ _ c.from_residual.ensures.1
    (simp (to_z-of_z c.ranges.account) at c.in_err-i.ensures.code)

pub judge_opening-requires : goal.judge_opening-requires
judge_opening-requires c = let a = c.args in let f = c.ranges.account in
    rw (at_place f c.in_ok-i.ensures.place) (open_passed (place_of a.account) (state a.book.now) (sym (simp (to_z-of_z f) at c.in_ok-i.ensures.code)))

pub returns : goal.returns
unfolding opening
returns c = let a = c.args in let f = c.ranges in let i = place_of a.account in
    (simp (to_z-of_z f.kind, to_z-of_z f.code) at c.judge_opening.ensures)
    ∙ ap (λ (k : ℕ). outcome_of (judged_opening k a.kind a.code) (state a.book.now)) (at_place f.account c.in_ok-i.ensures.place)
    ∙ let_through (open_stands i) (judged_opening i a.kind a.code) (state a.book.now) tt (sym (simp (to_z-of_z f.account) at c.in_ok-i.ensures.code))
