-- `parts::if_so` meets its contract: the test decides as the definition's does. Assumes nothing.
use mathlib.Core.Path.{◌∙◌}
use mir.Facts.{to_z-of_z}
use Rattle.whole.proofs.Rules.{ints}
use Rattle.assets.proofs.parts.if_so.Goals as goal

pub returns-then-so : goal.returns-then-so
returns-then-so c = (to_z-of_z c.ranges.x ∙ simp c.if-so.true, omega ints)

pub returns : goal.returns
returns c = (simp c.if-so.false, omega ints)
