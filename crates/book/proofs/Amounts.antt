-- What the machine makes of amounts: sums and negatives of numbers of a size of at most 10^14 fit, and are read back as they are.
-- Assumes nothing.
use mathlib.Core.Path.{◌≡◌, ◌∙◌}
use Prim.Native.Nat.{ℕ}
use lib.IntN.{ℤ, pos, neg_ℤ, ◌+ℤ◌, ◌-ℤ◌}
use native.Mathlib.Omega.{arith}
use mir.Syntax.{w64}
use mir.Val.{SFits}
use Rattle.whole.specs.Bounds.{◌within◌}
use Rattle.whole.proofs.PlusMinus.{neg_is}
use Rattle.whole.proofs.Expressions.{var, lit, neg, ◌⊕◌, ◌⊖◌, eq! }
use Rattle.whole.proofs.Machine.{Runs, back, need!, runs}
use Rattle.whole.proofs.Rules.{ints}

-- 10^14, the greatest size of any number of a block
abbrev pub large : ℕ
large = 100000000000000

module _ {x : ℤ} (h : x within large) where
  negative : Runs (lit 0 ⊖ var x)
  negative = (omega arith, h.fits.sfits, omega ints)

  pub negative_fits : SFits w64 (pos 0 -ℤ back x)
  negative_fits = need! (lit 0 ⊖ var x) negative

  pub negated : back (pos 0 -ℤ back x) ≡ neg_ℤ x
  negated = runs (lit 0 ⊖ var x) negative ∙ eq! (lit 0 ⊖ var x) (neg (var x)) (omega arith)

  pub negative_within : neg_ℤ x within large
  negative_within = omega (ints, neg_is x)

module _ {x y : ℤ} (h : x within large) (k : y within large) where
  sum : Runs (var x ⊕ var y)
  sum = (h.fits.sfits, k.fits.sfits, omega ints)

  pub sum_fits : SFits w64 (back x +ℤ back y)
  sum_fits = need! (var x ⊕ var y) sum

  pub summed : back (back x +ℤ back y) ≡ x +ℤ y
  summed = runs (var x ⊕ var y) sum

  -- and a third taken from it
  module _ {z : ℤ} (l : z within large) where
    difference : Runs (var x ⊕ var y ⊖ var z)
    difference = (sum, l.fits.sfits, omega ints)

    pub difference_fits : SFits w64 (back (back x +ℤ back y) -ℤ back z)
    difference_fits = need! (var x ⊕ var y ⊖ var z) difference

    pub differed : back (back (back x +ℤ back y) -ℤ back z) ≡ x +ℤ y -ℤ z
    differed = runs (var x ⊕ var y ⊖ var z) difference
