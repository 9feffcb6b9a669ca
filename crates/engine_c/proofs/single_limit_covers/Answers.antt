-- `engine_c::single_limit_covers` meets its contract: an asset from 0 to 15 has the row that the lookup hands back, any other has none. Assumes nothing.
use mathlib.Core.Path.{◌≡◌, refl, sym, ap, ◌∙◌}
use mathlib.Core.Bool.{Bool, true, false, cond, ◌&&◌}
use mathlib.Core.List.{List}
use native.Mathlib.Omega.{arith}
use lib.IntN.{ℤ, nat_abs}
use mir.Facts.{to_z-of_z}
use mir.Val.{bool_byte}
use Rattle.whole.proofs.Parameters.{index}
use Rattle.rates.specs.InForce.{lookup, sound_row, cover_test}
use Rattle.book.specs.Choices.{asset_right}
use Rattle.engine_c.specs.Face.{covered}
use Rattle.engine_c.proofs.single_limit_covers.Goals as goal
use Rattle.engine_c.proofs.single_limit_covers.Goals.{After-from, Then-asset_right, then-asset_right, else-asset_right}

an_asset : (c : Then-asset_right) → asset_right c.args.asset ≡ true
an_asset c = sym (c.if-asset_right.ensures ∙ ap asset_right (to_z-of_z c.ranges.asset))

pub overflow_cast-asset : goal.overflow_cast-asset
overflow_cast-asset c = index 15 (omega arith) c.ranges.asset (an_asset c)

abbrev tested : List ℤ → Bool
tested row = sound_row row && cover_test row

covers : (c : After-from) → let a = c.args in c.if-asset_right.covers ≡ asset_right a.asset && tested (lookup a.clearing.now a.own.now (nat_abs a.asset))
covers c = let back = to_z-of_z c.ranges.asset in elim c.if-asset_right.branch [
  | then-asset_right w ↦ let e = sym (w.if-asset_right.ensures ∙ ap asset_right back) in rw e (w.covers-is ∙ w.covers-covers.ensures
      ∙ ap tested (w.row_in_force.ensures.numbers ∙ ap (λ (z : ℤ). lookup c.args.clearing.now c.args.own.now (nat_abs z)) back))
  | else-asset_right w ↦ let e = sym (w.if-asset_right.ensures ∙ ap asset_right back) in rw e (w.covers-is ∙ w.if-asset_right.false)
]

as_number : (b : Bool) → bool_byte b ≡ cond b 1 0
as_number true = refl
as_number false = refl

pub returns : goal.returns
unfolding covered
returns c = c.from.ensures ∙ as_number c.if-asset_right.covers ∙ ap (λ (b : Bool). cond b 1 0) (covers c)
