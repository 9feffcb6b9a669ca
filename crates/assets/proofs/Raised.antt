-- An asset whose position of date 0 is raised by some δ from 0 up, and its worth with it: where the row in force passes the cover test and the regime is
-- not special delivery, its part of the sums is better. Worth gains δ × (price + mid); interest risk grows by at most δ × w; market risk above 0 grows by at
-- most the highest fall rate × price × δ / 10,000 rounded up, which the cover test pays for, as δ × (price + mid − w) is a whole number.
-- Assumes nothing.
use mathlib.Core.Path.{◌≡◌, refl, ap, ◌∙◌}
use mathlib.Core.Bool.{true, false}
use mathlib.Core.List.{List}
use mathlib.Core.Logic.{◌≢◌}
use Prim.Native.Nat.{ℕ, ◌<◌}
use native.Mathlib.Omega.{arith}
use lib.IntN.{ℤ, pos, ◌+ℤ◌, ◌-ℤ◌, ◌*ℤ◌}
use lib.Signed.{◌≤ℤ◌}
use Rattle.whole.specs.Numbers.{divided_up}
use Rattle.whole.specs.Sums.{Σ<}
use Rattle.whole.specs.Parts.{number}
use Rattle.whole.proofs.Expressions.{Expression, var, lit, neg, size, ◌⊕◌, ◌⊖◌, ◌⊛◌, ◌⊔◌, le!, eq!, le?, eq?}
use Rattle.whole.proofs.Sums.{sum_one}
use Rattle.whole.proofs.Rules.{ints}
use Rattle.rates.specs.Row.{price, fall, rise, highest_rate, level}
use Rattle.rates.specs.InForce.{outer_width, cover_test}
use Rattle.rates.specs.Ranges.{RowRanges}
use Rattle.rates.proofs.CoverTest.{cover_pays}
use Rattle.assets.specs.Collateral.{is_special}
use Rattle.assets.specs.Risk.{long, short, side_risk, position_sum, market_risk, fall_charge, rise_charge, interest_of, interest_risk}
use Rattle.assets.specs.Part.{long_risk, short_risk, part_of}
use Rattle.assets.specs.declared.record.Asset.{Asset}
use Rattle.assets.specs.declared.parts.Part.{Part}
use Rattle.assets.proofs.risk.Sides.{side_mono, side_step, interest_mono, interest_step, market_by_sides, long_risk_is, short_risk_is}

-- part q is better than p: its long risk is not lower, its short risk not higher, and its worth pays for what both risks grow by and for what the short
-- risk falls by, since the discount falls by no more than that
pub record Better (p q : Part) : Type 0 where
  pub same_group : q.group ≡ p.group
  pub longer : p.long ≤ℤ q.long
  pub less_short : q.short ≤ℤ p.short
  pub pays : (p.worth +ℤ q.market +ℤ q.interest +ℤ p.short) ≤ℤ (q.worth +ℤ p.market +ℤ p.interest +ℤ q.short)

-- y is x with date 0 raised by δ
pub record Raised (row : List ℤ) (δ : ℤ) (x y : Asset) : Type 0 where
  pub from_zero : pos 0 ≤ℤ δ
  pub same_regime : y.regime ≡ x.regime
  pub worth_gains : y.worth ≡ x.worth +ℤ δ *ℤ level row 0
  pub first : number y.positions 0 ≡ number x.positions 0 +ℤ δ
  pub later : (d : ℕ) → d < 8 → d ≢ 0 → number y.positions d ≡ number x.positions d

module _ (row : List ℤ) (r : RowRanges row) (δ : ℤ) (x y : Asset) (up : Raised row δ x y) where
  abbrev p : List ℤ
  p = x.positions

  abbrev q : List ℤ
  q = y.positions

  abbrev S : Expression
  S = var (position_sum p)

  abbrev T : Expression
  T = var (position_sum q)

  sum_raised : position_sum q ≡ position_sum p +ℤ δ
  unfolding position_sum
  sum_raised =
      let a = var (number p 0) in
      let b = var (number q 0) in
      eq! T (S ⊕ var δ)
      (omega (arith, eq? (T ⊕ a) (S ⊕ b) (sum_one 8 0 (number p) (number q) (omega arith) up.later), eq? b (a ⊕ var δ) up.first))

  -- interest risk grows by at most the greater width for each unit
  interest_raised : interest_risk row q ≤ℤ (interest_risk row p +ℤ outer_width row 0 *ℤ δ)
  unfolding interest_risk interest_of
  interest_raised =
      let I = var (Σ< 8 (interest_of row p)) in
      let J = var (Σ< 8 (interest_of row q)) in
      let i = var (interest_of row p 0) in
      let j = var (interest_of row q 0) in
      let a = var (number p 0) in
      let b = var (number q 0) in
      let more : number p 0 ≤ℤ number q 0 = omega (ints, up.first, up.from_zero) in
      let by : number q 0 -ℤ number p 0 ≡ δ = eq! (b ⊖ a) (var δ) (omega (arith, eq? b (a ⊕ var δ) up.first)) in
      let most = var (outer_width row 0 *ℤ δ) in
      le! (size J) (size I ⊕ most)
      (omega (
        arith,
        eq? (J ⊕ i) (I ⊕ j) (sum_one 8 0 (interest_of row p) (interest_of row q) (omega arith)
            (λ d l h. ap (λ (z : ℤ). fall_charge row d (long z) -ℤ rise_charge row d (short z)) (up.later d l h))),
        le? i j (interest_mono row r 0 (omega arith) (number p 0) (number q 0) more),
        le? j (i ⊕ most) (rw by at (interest_step row r 0 (omega arith) (number p 0) (number q 0) more)),
      ))

  module _ (plain : is_special x.regime ≡ false) where
    plain_too : is_special y.regime ≡ false
    plain_too = ap is_special up.same_regime ∙ plain

    more_long : long (position_sum p) ≤ℤ long (position_sum q)
    more_long = le! (lit 0 ⊔ S) (lit 0 ⊔ T) (omega (ints, sum_raised, up.from_zero))

    less_short : short (position_sum q) ≤ℤ short (position_sum p)
    less_short = le! (lit 0 ⊔ neg T) (lit 0 ⊔ neg S) (omega (ints, sum_raised, up.from_zero))

    long_rises : long_risk row x ≤ℤ long_risk row y
    long_rises = rw (long_risk_is row r x plain, long_risk_is row r y plain_too) (side_mono row r fall (omega arith) _ _ more_long)

    short_falls : short_risk row y ≤ℤ short_risk row x
    short_falls = rw (short_risk_is row r x plain, short_risk_is row r y plain_too) (side_mono row r rise (omega arith) _ _ less_short)

    module _ (cover : cover_test row ≡ true) where
      long_paid : long_risk row y ≤ℤ (long_risk row x +ℤ δ *ℤ (level row 0 -ℤ outer_width row 0))
      long_paid =
          let n = long (position_sum p) in
          let m = long (position_sum q) in
          let left = δ *ℤ (level row 0 -ℤ outer_width row 0) in
          let grown = divided_up (highest_rate row fall *ℤ (m -ℤ n) *ℤ price row) 10000 in
          let most = le! (lit 0 ⊔ T ⊖ lit 0 ⊔ S) (var δ) (omega (ints, sum_raised, up.from_zero)) in
          let step = side_step row r fall (omega arith) n m more_long in
          let paid = cover_pays row r cover (m -ℤ n) δ most up.from_zero in
          rw (long_risk_is row r x plain, long_risk_is row r y plain_too)
          (le! (var (side_risk row fall m)) (var (side_risk row fall n) ⊕ var left)
          (omega (arith, le? (var (side_risk row fall m)) (var (side_risk row fall n) ⊕ var grown) step, le? (var grown) (var left) paid)))

      -- market risk is the long and the short risk together
      by_side : (z : Asset) → is_special z.regime ≡ false → market_risk row z ≡ long_risk row z +ℤ short_risk row z
      by_side z e = rw (long_risk_is row r z e, short_risk_is row r z e) (market_by_sides row r z e)

      all_paid : (x.worth +ℤ market_risk row y +ℤ interest_risk row q +ℤ short_risk row x) ≤ℤ (y.worth +ℤ market_risk row x +ℤ interest_risk row p +ℤ short_risk row y)
      all_paid =
          let v = var x.worth in
          let w = var y.worth in
          let m = var (market_risk row x) in
          let n = var (market_risk row y) in
          let i = var (interest_risk row p) in
          let j = var (interest_risk row q) in
          let a = var (long_risk row x) in
          let b = var (long_risk row y) in
          let s = var (short_risk row x) in
          let t = var (short_risk row y) in
          let u = var (level row 0) in
          let o = var (outer_width row 0) in
          le! (v ⊕ n ⊕ j ⊕ s) (w ⊕ m ⊕ i ⊕ t)
          (omega (
            arith,
            eq? w (v ⊕ var δ ⊛ u) up.worth_gains,
            eq? m (a ⊕ s) (by_side x plain),
            eq? n (b ⊕ t) (by_side y plain_too),
            le? j (i ⊕ o ⊛ var δ) interest_raised,
            le? b (a ⊕ var δ ⊛ (u ⊖ o)) long_paid,
          ))

      pub raised_better : Better (part_of row x) (part_of row y)
      unfolding part_of
      raised_better = record { same_group = refl; longer = long_rises; less_short = short_falls; pays = all_paid }
