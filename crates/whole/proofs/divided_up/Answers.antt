-- `whole::divided_up` meets its contract: rounding up is rounding down of `by − 1` more. Assumes nothing.
use mathlib.Core.Path.{ap₂, ◌∙◌}
use lib.IntN.{ℤ, nat_abs}
use mir.Facts.{to_z-of_z}
use Rattle.whole.specs.Numbers.{divided_down}
use Rattle.whole.proofs.PlusMinus.{abs_is}
use Rattle.whole.proofs.Expressions.{Expression, var, lit, ◌⊕◌, ◌⊖◌, le! }
use Rattle.whole.proofs.Machine.{Runs, need!, runs, fits_back}
use Rattle.whole.proofs.Rounding.{down_up}
use Rattle.whole.proofs.Rules.{ints}
use Rattle.whole.proofs.divided_up.Goals as goal
use Rattle.whole.proofs.divided_up.Goals.{Start}

-- what is divided
abbrev raised : Start → Expression
raised c = var c.args.x ⊕ (var c.args.by ⊖ lit 1)

ok : (c : Start) → Runs (raised c)
ok c = omega (ints, abs_is c.args.x, abs_is c.args.by)

pub returns : goal.returns
returns c =
    let s = c.before in
    let r = c.divided_down.ensures in (
      to_z-of_z r.1 ∙ r.0 ∙ ap₂ (λ (z y : ℤ). divided_down z (nat_abs y)) (runs (raised s) (ok s)) (to_z-of_z s.ranges.by) ∙ down_up s.args.x s.args.by s.requires.0 s.requires.1,
      fits_back r.1,
    )

pub overflow_sub-by : goal.overflow_sub-by
overflow_sub-by c = need! (var c.args.by ⊖ lit 1) (ok c).1

pub overflow_add-x : goal.overflow_add-x
overflow_add-x c = need! (raised c) (ok c)

pub divided_down-requires : goal.divided_down-requires
divided_down-requires c = rw (runs (raised c) (ok c), to_z-of_z c.ranges.by) (le! (lit 0) (raised c) (omega ints), c.requires.1)
