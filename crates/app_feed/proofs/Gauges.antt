-- What the gauge's tests and its sums tell, of figures that are read back from their bits. Assumes nothing.
use mathlib.Core.Path.{◌≡◌, refl, sym, ap, ◌∙◌}
use mathlib.Core.Bool.{Bool, true, false}
use Prim.Native.Nat.{◌<◌, ◌^◌}
use native.Mathlib.Omega.{arith}
use lib.IntN.{ℤ, pos, neg_ℤ, nat_abs, ◌-ℤ◌, +ℤ_idl}
use lib.Signed.{le_z, lt_z, ◌≤ℤ◌}
use lib.Ieee.{Float, binary64, div}
use mir.Facts.{to_z-of_z}
use Rattle.whole.proofs.PlusMinus.{abs_is, one_is_zero}
use Rattle.whole.proofs.Rules.{ints}
use Rattle.whole.proofs.Machine.{back, held, Runs, runs}
use Rattle.whole.proofs.Expressions.{Expression, var, lit, ◌⊕◌, ◌⊖◌, is}
use Rattle.figures.specs.Ranges.{Below2^53}
use Rattle.figures.specs.declared.limit.Figures.{Figures}
use Rattle.app_feed.specs.Floats.{float}
use Rattle.app_feed.specs.Gauge.{used, gauge_of, Balanced}
use Rattle.app_feed.specs.declared.gauge.Gauge.{Gauge}
use Rattle.app_feed.specs.declared.gauge.Gauge.TheVariants.{Empty, Over, Used}
use Rattle.app_feed.proofs.Exact.{fits_small, cast}

tested : (test : ℤ → Bool) (z : ℤ) {b : Bool} → nat_abs z < 2 ^ 53 → test (back z) ≡ b → test z ≡ b
tested test z h e = sym (ap test (to_z-of_z (fits_small z h))) ∙ e

-- what is used is from zero to the valuation where the limit is not negative
share_small : (u v l : ℤ) → pos 0 ≤ℤ u → l ≡ v -ℤ u → lt_z l (pos 0) ≡ false → nat_abs v < 2 ^ 53 → nat_abs u < 2 ^ 53
share_small u v l low e h s = omega (ints, s, abs_is u, abs_is v, one_is_zero u, one_is_zero v)

-- the shortfall and the sums, as the code works them out
abbrev pub shortfall : Figures ℤ → Expression
shortfall f = lit 0 ⊖ var f.limit

abbrev pub risks : Figures ℤ → Expression
risks f = var f.market ⊕ var f.interest

abbrev pub used_up : Figures ℤ → Expression
used_up f = risks f ⊖ var f.discount

module _ {f : Figures ℤ} (below : Below2^53 f) where
  pub shortfall_runs : Runs (shortfall f)
  shortfall_runs =
      let l = below.limit_below in
      let a = abs_is f.limit in
      (omega arith, (fits_small f.limit l).sfits, (omega arith, omega arith))

  pub risks_run : Runs (risks f)
  risks_run =
      let m = below.market_below in
      let i = below.interest_below in
      let a = abs_is f.market in
      let b = abs_is f.interest in
      ((fits_small f.market m).sfits, (fits_small f.interest i).sfits, (omega arith, omega arith))

  pub used_runs : Runs (used_up f)
  used_runs =
      let m = below.market_below in
      let i = below.interest_below in
      let d = below.discount_below in
      let a = abs_is f.market in
      let b = abs_is f.interest in
      let e = abs_is f.discount in
      (risks_run, (fits_small f.discount d).sfits, (omega arith, omega arith))

  pub shortfall_small : nat_abs (held (shortfall f)) < 2 ^ 53
  shortfall_small =
      let l = below.limit_below in
      rw (runs (shortfall f) shortfall_runs) (omega (arith, l, is (shortfall f), abs_is f.limit, abs_is (pos 0 -ℤ f.limit), one_is_zero (pos 0 -ℤ f.limit)))

  -- a valuation of zero or less, and one above
  is_empty : le_z (back f.valuation) (pos 0) ≡ true → le_z f.valuation (pos 0) ≡ true
  is_empty = tested (λ z. le_z z (pos 0)) f.valuation below.valuation_below

  pub not_empty : le_z (back f.valuation) (pos 0) ≡ false → le_z f.valuation (pos 0) ≡ false
  not_empty = tested (λ z. le_z z (pos 0)) f.valuation below.valuation_below

  -- a limit below zero, and one that is not
  pub is_over : lt_z (back f.limit) (pos 0) ≡ true → lt_z f.limit (pos 0) ≡ true
  is_over = tested (λ z. lt_z z (pos 0)) f.limit below.limit_below

  pub not_over : lt_z (back f.limit) (pos 0) ≡ false → lt_z f.limit (pos 0) ≡ false
  not_over = tested (λ z. lt_z z (pos 0)) f.limit below.limit_below

pub ruleset gauges = (not_empty, is_over, not_over)

-- ---- the three cases, and what the last one casts
pub shows_nothing : (f : Figures ℤ) → Below2^53 f → le_z (back f.valuation) (pos 0) ≡ true → gauge_of f ≡ Empty
unfolding gauge_of
shows_nothing f below e = rw (is_empty below e) refl

pub shows_over : (f : Figures ℤ) {x : Float} → Below2^53 f → le_z f.valuation (pos 0) ≡ false → lt_z f.limit (pos 0) ≡ true → x ≡ float (held (shortfall f))
    → ◌≡◌ {A = Gauge} (Over x) (gauge_of f)
unfolding gauge_of
shows_over f below above over e =
    rw (above, over) (ap Over (e ∙ ap float (runs (shortfall f) (shortfall_runs below) ∙ +ℤ_idl (neg_ℤ f.limit))))

pub used_small : (f : Figures ℤ) → Below2^53 f → Balanced f → lt_z (back f.limit) (pos 0) ≡ false → nat_abs (held (used_up f)) < 2 ^ 53
used_small f below balanced e =
    rw (runs (used_up f) (used_runs below)) (share_small (used f) f.valuation f.limit balanced.used_from_zero balanced.limit_is (not_over below e) below.valuation_below)

pub shows_share : (f : Figures ℤ) {x y : Float} → Below2^53 f → le_z f.valuation (pos 0) ≡ false → lt_z f.limit (pos 0) ≡ false
    → x ≡ float (held (used_up f)) → y ≡ float (back f.valuation)
    → ◌≡◌ {A = Gauge} (Used (div binary64 x y)) (gauge_of f)
unfolding gauge_of
shows_share f {x} {y} below above within e v =
    let d : x ≡ float (used f) = e ∙ ap float (runs (used_up f) (used_runs below)) in
    let w : y ≡ float f.valuation = cast (fits_small f.valuation below.valuation_below) v in
    rw (above, within) (λ i. Used (div binary64 (d i) (w i)))
