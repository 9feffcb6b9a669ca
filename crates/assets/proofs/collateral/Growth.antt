-- Laws of C' as the collateral grows from held to held' and the trades t stay as they are: C' never falls, and never grows faster than C. It is
-- what demand 3 asks of collateral; of worth, risk and limit nothing is said here.
-- Assumes nothing.
use mathlib.Core.Path.{◌≡◌}
use native.Mathlib.Omega.{arith}
use lib.IntN.{ℤ, pos, ◌+ℤ◌, ◌-ℤ◌}
use lib.Signed.{◌≤ℤ◌}
use Rattle.whole.specs.Numbers.{min_ℤ}
use Rattle.whole.specs.Bounds.{◌upto◌}
use Rattle.whole.proofs.Expressions.{Expression, var, lit, ◌⊕◌, ◌⊖◌, ◌⊓◌, value, is, le!, eq!, le?}
use Rattle.whole.proofs.Rules.{ints}
use Rattle.assets.specs.Collateral.{counted, adjusted}
use Rattle.assets.specs.Ranges.{ShareRange}
use Rattle.assets.specs.declared.collateral.Regime.{Regime}
use Rattle.assets.specs.declared.collateral.Regime.TheVariants.{Special, NotRecorded, Partial, Accepted}
use Rattle.assets.proofs.collateral.Counted.{taken, taken_rises, taken_slope, kept, counted_kept}

-- what is free grows as the collateral does
free_with : (held t : ℤ) → held +ℤ min_ℤ t (pos 0) ≡ min_ℤ (held +ℤ t) held
free_with held t = eq! (var held ⊕ var t ⊓ lit 0) ((var held ⊕ var t) ⊓ var held) (omega arith)

abbrev kept_with : ℤ → ℤ → ℤ → Expression
kept_with share t held = kept held (held +ℤ min_ℤ t (pos 0)) (taken share held)

counted_with : (share t held : ℤ) → counted share held (held +ℤ t) ≡ value (kept_with share t held)
counted_with share t held = counted_kept share held (held +ℤ t) (held +ℤ min_ℤ t (pos 0)) (free_with held t)

module _ (held held' t : ℤ) (grows : held ≤ℤ held') where
  module _ (share : ℤ) (s : share upto 10000) where
    counted_rises : counted share held (held +ℤ t) ≤ℤ counted share held' (held' +ℤ t)
    counted_rises =
        let rises = taken_rises share s held held' grows in
        rw (counted_with share t held, counted_with share t held')
        (le! (kept_with share t held) (kept_with share t held')
        (omega (ints, is (var held ⊕ var (min_ℤ t (pos 0))), is (var held' ⊕ var (min_ℤ t (pos 0))))))

    counted_slope : (counted share held' (held' +ℤ t) -ℤ counted share held (held +ℤ t)) ≤ℤ (held' -ℤ held)
    counted_slope =
        let slope = le? (var (taken share held') ⊖ var (taken share held)) (var held' ⊖ var held) (taken_slope share s held held' grows) in
        rw (counted_with share t held, counted_with share t held')
        (le! (kept_with share t held' ⊖ kept_with share t held) (var held' ⊖ var held)
        (omega (ints, is (var held ⊕ var (min_ℤ t (pos 0))), is (var held' ⊕ var (min_ℤ t (pos 0))))))

  -- C' never falls
  pub adjusted_rises : (regime : Regime) → ShareRange regime → adjusted regime held (held +ℤ t) ≤ℤ adjusted regime held' (held' +ℤ t)
  adjusted_rises Special s = omega ints
  adjusted_rises NotRecorded s = le! (lit 0 ⊓ var held) (lit 0 ⊓ var held') (omega ints)
  adjusted_rises (Partial share) s = counted_rises share s
  adjusted_rises (Accepted share) s = counted_rises share s

  -- and never grows faster than C
  pub adjusted_slope : (regime : Regime) → ShareRange regime → (adjusted regime held' (held' +ℤ t) -ℤ adjusted regime held (held +ℤ t)) ≤ℤ (held' -ℤ held)
  adjusted_slope Special s = le! (lit 0 ⊖ lit 0) (var held' ⊖ var held) (omega ints)
  adjusted_slope NotRecorded s = le! (lit 0 ⊓ var held' ⊖ lit 0 ⊓ var held) (var held' ⊖ var held) (omega ints)
  adjusted_slope (Partial share) s = counted_slope share s
  adjusted_slope (Accepted share) s = counted_slope share s
