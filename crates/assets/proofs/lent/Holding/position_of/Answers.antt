-- `Holding::position_of` meets its contract: date 0 and the later dates are two laws of the definition. Assumes nothing.
use mathlib.Core.Path.{◌≡◌, refl, sym, subst}
use Prim.Native.Nat.{ℕ}
use native.Mathlib.Omega.{arith}
use lib.IntN.{◌+ℤ◌}
use mir.Facts.{to_z-of_z}
use Rattle.whole.specs.Bounds.{◌within◌}
use Rattle.whole.proofs.Rules.{ints}
use Rattle.assets.specs.Asset.{net, position}
use Rattle.assets.proofs.record.Positions.{position_first, position_later, position_within}
use Rattle.assets.proofs.lent.Holding.position_of.Goals as goal
use Rattle.assets.proofs.lent.Holding.position_of.Goals.{Start, Then-d-eq0}

bounded : (c : Start) → position c.args.self.numbers.now c.args.c c.args.d within 3000000
bounded c = position_within _ _ c.args.self.in_range 2000000 _ (omega arith) c.requires.1 c.requires.0

first : (c : Then-d-eq0) → c.net_of-traded.result +ℤ c.args.c ≡ position c.args.self.numbers.now c.args.c c.args.d
first c =
    rw c.net_of-traded.ensures.0
    (subst (λ (d : ℕ). net c.args.self.numbers.now d +ℤ c.args.c ≡ position c.args.self.numbers.now c.args.c d)
    (sym c.if-d-eq0.true) (sym (position_first c.args.self.numbers.now c.args.c)))

pub overflow_add-result : goal.overflow_add-result
overflow_add-result c = omega ints

pub returns-then-d-eq0 : goal.returns-then-d-eq0
returns-then-d-eq0 c =
    let s = c.before.before in let r = bounded s in
    rw (to_z-of_z c.net_of-traded.ensures.1.fits, to_z-of_z s.ranges.c, first c, to_z-of_z r.fits) (refl, r)

pub returns : goal.returns
returns c =
    let s = c.before.before in let r = bounded s in let e = position_later s.args.self.numbers.now s.args.c s.args.d c.if-d-eq0.false in
    rw (to_z-of_z c.net_of-traded.ensures.1.fits, c.net_of-traded.ensures.0) (sym e, rw e at r)
