-- `whole::divided_down` meets its contract: from 0 up the machine's quotient rounds down. Assumes nothing.
use mathlib.Core.Path.{◌≡◌, sym, ap, ◌∙◌, subst}
use Prim.Native.Nat.{◌<◌}
use lib.IntN.{ℤ, pos, negsuc, nat_abs}
use lib.Signed.{◌≤ℤ◌, quot_z}
use mir.Syntax.{w64}
use mir.Val.{SFits, of_z}
use mir.Facts.{to_z-of_z}
use Rattle.whole.specs.Numbers.{divided_down}
use Rattle.whole.proofs.Machine.{back, clean₂, fits_back}
use Rattle.whole.proofs.Rounding.{quot_down, down_fits}
use Rattle.whole.proofs.Rules.{ints}
use Rattle.whole.proofs.divided_down.Goals as goal
use Rattle.whole.proofs.divided_down.Goals.{Start}

-- the quotient of what is read back
quotient : (c : Start) → quot_z (back c.args.x) (back c.args.by) ≡ divided_down c.args.x (nat_abs c.args.by)
quotient c = clean₂ quot_z c.ranges.x c.ranges.by ∙ quot_down c.args.x c.args.by c.requires.0 c.requires.1

fits : (c : Start) → SFits w64 (divided_down c.args.x (nat_abs c.args.by))
fits c = down_fits c.args.x (nat_abs c.args.by) c.ranges.x c.requires.0

some : (y : ℤ) → pos 1 ≤ℤ y → 0 < of_z w64 y
some (pos n) h = omega ints
some (negsuc n) h = absurd h.le

pub returns : goal.returns
returns c = (ap back (quotient c) ∙ to_z-of_z (fits c), fits_back (subst (SFits w64) (sym (quotient c)) (fits c)))

pub nonzero_div-result : goal.nonzero_div-result
nonzero_div-result c = (some c.args.by c.requires.1, subst (SFits w64) (sym (quotient c)) (fits c))
