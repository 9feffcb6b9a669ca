-- What the cover test says and pays for, and its arithmetic on a row in its ranges: no step overflows, so what code holds is what the definition
-- says; and the width is from 0 to 10^7.
-- Assumes nothing.
use mathlib.Core.Path.{◌≡◌, ap₂}
use mathlib.Core.Bool.{true, not}
use mathlib.Core.List.{List}
use native.Mathlib.Omega.{arith}
use lib.IntN.{ℤ, pos, ◌+ℤ◌, ◌-ℤ◌, ◌*ℤ◌}
use lib.Signed.{le_z, ◌≤ℤ◌}
use mir.Syntax.{w64}
use mir.Val.{SFits}
use Rattle.whole.specs.Numbers.{max_ℤ, divided_up}
use Rattle.whole.specs.Bounds.{◌upto◌}
use Rattle.whole.proofs.Expressions.{Expression, var, lit, ◌⊕◌, ◌⊖◌, ◌⊛◌, ◌⊔◌, is, le!, eq!, le?, eq?}
use Rattle.whole.proofs.Machine.{back, Runs, fits!, need!, runs}
use Rattle.whole.proofs.Bounds.{upto_within, product_within}
use Rattle.whole.proofs.Numbers.{*ℤ-mono, *ℤ-monoʳ}
use Rattle.whole.proofs.Rounding.{up_least}
use Rattle.whole.proofs.Rules.{ints}
use Rattle.whole.proofs.Tests.{and_right}
use Rattle.rates.specs.Units.{the_whole}
use Rattle.rates.specs.Row.{unlisted, price, fall, highest_rate, mid, outer_low, outer_up, level}
use Rattle.rates.specs.InForce.{outer_width, cover_test}
use Rattle.rates.specs.Ranges.{DateRanges, RowRanges}

-- ---- what it says
pub cover_says : (row : List ℤ) → cover_test row ≡ true → (highest_rate row fall *ℤ price row) ≤ℤ (the_whole *ℤ (level row 0 -ℤ outer_width row 0))
unfolding cover_test
cover_says row e =
    let test = and_right (not (unlisted row)) (le_z (highest_rate row fall *ℤ price row) (the_whole *ℤ (level row 0 -ℤ outer_width row 0))) e in omega ints

-- it pays for the highest rate of a fall of n units, rounded up, out of what δ units have left, where n is at most δ
pub cover_pays : (row : List ℤ) → RowRanges row → cover_test row ≡ true → (n δ : ℤ) → n ≤ℤ δ → pos 0 ≤ℤ δ
    → divided_up (highest_rate row fall *ℤ n *ℤ price row) 10000 ≤ℤ (δ *ℤ (level row 0 -ℤ outer_width row 0))
cover_pays row r e n δ h z =
    let R = highest_rate row fall in
    let q = price row in
    let left = level row 0 -ℤ outer_width row 0 in
    let charged = R *ℤ n *ℤ q in
    let most = R *ℤ δ *ℤ q in
    let turned = R *ℤ q *ℤ δ in
    up_least 10000 (omega arith) charged (δ *ℤ left)
    (le! (var charged) (lit 10000 ⊛ (var δ ⊛ var left))
    (omega (
      arith,
      le? (var charged) (var most) (*ℤ-monoʳ q (R *ℤ n) (R *ℤ δ) r.price_upto.low (*ℤ-mono R n δ (r.side fall (omega arith)).highest_upto.low h)),
      eq? (var most) (var turned) (eq! (var R ⊛ var δ ⊛ var q) (var R ⊛ var q ⊛ var δ) (omega arith)),
      le? (var turned) (lit 10000 ⊛ var left ⊛ var δ) (*ℤ-monoʳ δ (R *ℤ q) (the_whole *ℤ left) z (cover_says row e)),
    )))

-- ---- as code works it out: no step leaves the range, and the test is the definition's
module _ (row : List ℤ) (r : RowRanges row) where
  today : DateRanges row 0
  today = r.date 0 (omega arith)

  -- ---- the width
  abbrev below : Expression
  below = var (mid row 0) ⊖ var (outer_low row 0)

  abbrev above : Expression
  above = var (outer_up row 0) ⊖ var (mid row 0)

  below_runs : Runs below
  below_runs = let m = today.mid_within in let l = today.outer_low_within in (m.fits.sfits, l.fits.sfits, omega ints)

  above_runs : Runs above
  above_runs = let m = today.mid_within in let u = today.outer_up_within in (u.fits.sfits, m.fits.sfits, omega ints)

  pub below_fits : SFits w64 (back (mid row 0) -ℤ back (outer_low row 0))
  below_fits = need! below below_runs

  pub above_fits : SFits w64 (back (outer_up row 0) -ℤ back (mid row 0))
  above_fits = need! above above_runs

  pub width_back : max_ℤ (back (back (mid row 0) -ℤ back (outer_low row 0))) (back (back (outer_up row 0) -ℤ back (mid row 0))) ≡ outer_width row 0
  unfolding outer_width
  width_back = ap₂ max_ℤ (runs below below_runs) (runs above above_runs)

  pub width_upto : outer_width row 0 upto 10000000
  unfolding outer_width
  width_upto =
      let least = le? (lit 0) below today.outer_below.low in
      let most = le? below (lit 10000000) today.outer_below.high in
      let most-above = le? above (lit 10000000) today.outer_above.high in
      record { low = le! (lit 0) (below ⊔ above) (omega ints); high = le! (below ⊔ above) (lit 10000000) (omega ints); fits = fits! (below ⊔ above) (omega ints) }

  -- ---- the two sides: the charge of a fall, and what is left of the level
  module _ (rate : ℤ) (most : rate upto 10000) where
    abbrev charge : Expression
    charge = var rate ⊛ var (price row)

    charge_runs : Runs charge
    charge_runs =
        let p = product_within (upto_within most) (upto_within r.price_upto) (omega arith) in
        (most.fits.sfits, r.price_upto.fits.sfits, omega (ints, is charge))

    pub charge_fits : SFits w64 (back rate *ℤ back (price row))
    charge_fits = need! charge charge_runs

  pub level_fits : SFits w64 (back (price row) +ℤ back (mid row 0))
  level_fits = let p = r.price_upto in let m = today.mid_within in need! (var (price row) ⊕ var (mid row 0)) (p.fits.sfits, m.fits.sfits, omega ints)

  module _ (w : ℤ) (wide : w upto 10000000) where
    abbrev left : Expression
    left = lit 10000 ⊛ (var (price row) ⊕ var (mid row 0) ⊖ var w)

    left_runs : Runs left
    left_runs =
        let p = r.price_upto in
        let m = today.mid_within in
        (omega arith, ((p.fits.sfits, m.fits.sfits, omega ints), wide.fits.sfits, omega ints), omega ints)

    pub lower_fits : SFits w64 (back (back (price row) +ℤ back (mid row 0)) -ℤ back w)
    lower_fits = need! (var (price row) ⊕ var (mid row 0) ⊖ var w) left_runs.1

    pub left_fits : SFits w64 (the_whole *ℤ back (back (back (price row) +ℤ back (mid row 0)) -ℤ back w))
    left_fits = need! left left_runs

  pub test_back : {rate w : ℤ} → rate upto 10000 → w upto 10000000
      → le_z (back (back rate *ℤ back (price row))) (back (the_whole *ℤ back (back (back (price row) +ℤ back (mid row 0)) -ℤ back w)))
      ≡ le_z (rate *ℤ price row) (the_whole *ℤ (level row 0 -ℤ w))
  test_back {rate} {w} most wide = ap₂ le_z (runs (charge rate most) (charge_runs rate most)) (runs (left w wide) (left_runs w wide))

pub ruleset fits = (charge_fits, level_fits, lower_fits, left_fits)
