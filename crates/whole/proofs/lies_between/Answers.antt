-- `whole::lies_between` meets its contract: the second test is made where the first passed.
-- Assumes nothing.
use mathlib.Core.Path.{refl, sym, ◌∙◌}
use mir.Facts.{to_z-of_z}
use Rattle.whole.specs.Bounds.{between}
use Rattle.whole.proofs.Tests.{and_then, first_out}
use Rattle.whole.proofs.lies_between.Goals as goal

pub returns-then-low-x : goal.returns-then-low-x
unfolding between
returns-then-low-x c =
    let f = c.ranges in
    simp (to_z-of_z f.x, to_z-of_z f.high) (and_then _ _ (simp (to_z-of_z f.low, to_z-of_z f.x) at c.if-low-x.true) refl)

pub returns-else-low-x : goal.returns-else-low-x
unfolding between
returns-else-low-x c =
    let f = c.ranges in
    let e = simp (to_z-of_z f.low, to_z-of_z f.x) at c.if-low-x.false in
    simp (to_z-of_z f.low, to_z-of_z f.x) (e ∙ sym (first_out _ _ e))
