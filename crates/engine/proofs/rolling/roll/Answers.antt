-- `rolling::roll` meets its contract: a code turns it away, or the block is rolled. Assumes nothing.
use mathlib.Core.Path.{sym, ap, ◌∙◌}
use mir.Facts.{to_z-of_z}
use Rattle.book.specs.Roll.{rolled}
use Rattle.book.specs.AtAccount.{at_account}
use Rattle.engine.specs.State.{state}
use Rattle.engine.specs.Refused.{place_of, roll_refusals}
use Rattle.engine.specs.Calls.{changing, rolling}
use Rattle.engine.proofs.Gates.{at_place}
use Rattle.engine.proofs.Passed.{roll_passed}
use Rattle.engine.proofs.Outcomes.{exit_away, made}
use Rattle.engine.proofs.rolling.roll.Goals as goal

pub returns-in_err-i : goal.returns-in_err-i
unfolding rolling
returns-in_err-i c = let a = c.args in let i = place_of a.account in
    exit_away (roll_refusals i) (changing i rolled) (state a.book.now) _ _ c.from_residual.ensures.1 (simp (to_z-of_z c.ranges.account) at c.in_err-i.ensures.code)

pub roll_in-requires : goal.roll_in-requires
roll_in-requires c = let a = c.args in let f = c.ranges.account in
    rw (at_place f c.in_ok-i.ensures.place) (roll_passed (place_of a.account) (state a.book.now) (sym (simp (to_z-of_z f) at c.in_ok-i.ensures.code)))

pub returns : goal.returns
unfolding rolling
returns c = let a = c.args in let f = c.ranges.account in let i = place_of a.account in
    made (roll_refusals i) i rolled (state a.book.now) tt (sym (simp (to_z-of_z f) at c.in_ok-i.ensures.code))
    (c.roll_in.ensures ∙ ap (λ (k : _). at_account a.book.now k rolled) (at_place f c.in_ok-i.ensures.place))
