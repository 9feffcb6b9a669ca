-- What the comparisons of a row come to, where its numbers are read back from their bits: nothing overflows, since the price and then the mid are
-- known to be near 0. And which comparisons of a date's numbers say all the others.
-- Assumes nothing.
use mathlib.Core.Path.{◌≡◌, refl, ap, ◌∙◌}
use mathlib.Core.Bool.{Bool, true, false, ◌&&◌, and-true, and-false}
use lib.IntN.{ℤ, pos, ◌+ℤ◌, ◌-ℤ◌}
use lib.Signed.{le_z}
use mir.Syntax.{w64}
use mir.Val.{SFits}
use mir.Facts.{to_z-of_z}
use Rattle.whole.specs.Bounds.{between, ◌within◌, ◌upto◌}
use Rattle.whole.proofs.Expressions.{var, lit, ◌⊕◌, ◌⊖◌, le!, le?}
use Rattle.whole.proofs.Machine.{back, fits! }
use Rattle.whole.proofs.Bounds.{amid, le_yes, between_same, between_back}
use Rattle.whole.proofs.Numbers.{≤ℤ-trans}
use Rattle.whole.proofs.Rules.{ints}
use Rattle.rates.specs.Units.{ten_million}

-- the level, price + mid, asked of the mid
module _ {price : ℤ} (p : price upto 10000000) where
  pub near_mid : (mid : ℤ) → between (pos 0) (price +ℤ mid) ten_million ≡ true → mid within 10000000
  near_mid mid e = let l = amid e in omega (ints, le? (lit 0) (var price ⊕ var mid) l.from, le? (var price ⊕ var mid) (lit 10000000) l.to)

  pub from_fits : SFits w64 (pos 0 -ℤ back price)
  from_fits = rw (to_z-of_z p.fits) (fits! (lit 0 ⊖ var price) (omega ints))

  pub to_fits : SFits w64 (ten_million -ℤ back price)
  to_fits = rw (to_z-of_z p.fits) (fits! (lit 10000000 ⊖ var price) (omega ints))

  pub level_back : {mid : ℤ} → SFits w64 mid
      → between (back (pos 0 -ℤ back price)) (back mid) (back (ten_million -ℤ back price)) ≡ between (pos 0) (price +ℤ mid) ten_million
  level_back {mid} f = between_back from_fits f to_fits ∙ rw (to_z-of_z p.fits) (between_same _ _ _ _ _ _
      (λ h. le! (lit 0) (var price ⊕ var mid) (omega (ints, le? (lit 0 ⊖ var price) (var mid) h)))
      (λ h. le! (lit 0 ⊖ var price) (var mid) (omega (ints, le? (lit 0) (var price ⊕ var mid) h)))
      (λ h. le! (var price ⊕ var mid) (lit 10000000) (omega (ints, le? (var mid) (lit 10000000 ⊖ var price) h)))
      (λ h. le! (var mid) (lit 10000000 ⊖ var price) (omega (ints, le? (var price ⊕ var mid) (lit 10000000) h))))

-- 10^7 below and above the mid
module _ {mid : ℤ} (near : mid within 10000000) where
  pub lowest_fits : SFits w64 (back mid -ℤ ten_million)
  lowest_fits = rw (to_z-of_z near.fits) (fits! (var mid ⊖ lit 10000000) (omega ints))

  pub highest_fits : SFits w64 (back mid +ℤ ten_million)
  highest_fits = rw (to_z-of_z near.fits) (fits! (var mid ⊕ lit 10000000) (omega ints))

  module _ {x y : ℤ} (f : SFits w64 x) (g : SFits w64 y) where
    pub below_back : between (back (back mid -ℤ ten_million)) (back x) (back y) ≡ between (mid -ℤ ten_million) x y
    below_back = between_back lowest_fits f g ∙ ap (λ (z : ℤ). between (z -ℤ ten_million) x y) (to_z-of_z near.fits)

    pub above_back : between (back x) (back y) (back (back mid +ℤ ten_million)) ≡ between x y (mid +ℤ ten_million)
    above_back = between_back f g highest_fits ∙ ap (λ (z : ℤ). between x y (z +ℤ ten_million)) (to_z-of_z near.fits)

-- ---- tests that others say: `s` where `a` passed, `t` where `b` did
said : (a b p q s t : Bool) → (a ≡ true → s ≡ true) → (b ≡ true → t ≡ true) → a && (p && (q && b)) ≡ (s && p) && ((q && t) && (a && b))
said true true p q s t f g = rw (f refl, g refl) (simp and-true refl)
said true false p q s t f g = simp and-false refl
said false b p q s t f g = simp and-false refl

across : (low x high : ℤ) → between low x high ≡ true → le_z low high ≡ true
across low x high e = let a = amid e in le_yes (≤ℤ-trans a.from a.to)

-- outer low, low, mid, up and outer up in this order, the outer two between the bounds: so the inner two are
pub in_order : (lowest outer-low low mid up outer-up highest : ℤ)
    → between lowest outer-low low && (le_z low mid && (le_z mid up && between up outer-up highest))
    ≡ between lowest low mid && (between mid up highest && (between lowest outer-low low && between up outer-up highest))
unfolding between
in_order lowest outer-low low mid up outer-up highest = said _ _ (le_z low mid) (le_z mid up) _ _ (across lowest outer-low low) (across up outer-up highest)
