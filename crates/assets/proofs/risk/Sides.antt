-- Laws of the two sides of a position: the market risk of a side and the interest of a date, under a row in its ranges. Assumes nothing.
use mathlib.Core.Path.{◌≡◌, refl, sym, ap, ap₂, ◌∙◌, subst}
use mathlib.Core.Bool.{Bool, true, false, cond}
use mathlib.Core.List.{List}
use Prim.Native.Nat.{ℕ, zero, suc, ◌+◌, ◌*◌, ◌<◌, ◌^◌}
use native.Mathlib.Omega.{arith}
use lib.IntN.{ℤ, pos, neg_ℤ, ◌+ℤ◌, ◌-ℤ◌, ◌*ℤ◌, +ℤ_idl, +ℤ_idr}
use lib.Signed.{◌≤ℤ◌, lt_z}
use Rattle.whole.specs.Numbers.{max_ℤ, abs_ℤ, divided_up}
use Rattle.whole.specs.Bounds.{◌within◌, ◌upto◌}
use Rattle.whole.specs.Parts.{number}
use Rattle.whole.specs.Sums.{Σ<}
use Rattle.whole.proofs.Expressions.{le!, eq!, is, var, lit, neg, size, ◌⊕◌, ◌⊖◌, ◌⊛◌, ◌⊔◌}
use Rattle.whole.proofs.Numbers.{≤ℤ-trans, *ℤ-monoʳ, *ℤ-distribʳ}
use Rattle.whole.proofs.Rounding.{up_mono, up_add, up_least}
use Rattle.whole.proofs.Rules.{ints}
use Rattle.whole.proofs.Sums.{sum_same, sum_add, sum_from_zero, sum_within}
use Rattle.rates.specs.Row.{price, fall, rise, highest_rate, interest_limit, mid, low, up, outer_low, outer_up}
use Rattle.rates.specs.Ranges.{RowRanges}
use Rattle.rates.specs.InForce.{outer_width}
use Rattle.assets.specs.Collateral.{is_special}
use Rattle.assets.specs.Risk.{long, short, side_of, charge, units_charge, market_charge, side_risk, position_sum, long_sum, short_sum, market_risk, fall_charge, rise_charge, interest_of}
use Rattle.assets.specs.Part.{long_risk, short_risk}
use Rattle.assets.specs.Ranges.{PositionRanges}
use Rattle.assets.specs.declared.record.Asset.{Asset}
use Rattle.whole.proofs.Bounds.{within_fits, upto_within}
use Rattle.whole.proofs.PlusMinus.{abs_is, one_is_zero}
use Rattle.whole.proofs.InRange.{neg_size, product_upto, upto_size}
use Rattle.assets.proofs.risk.Charge.{Slope, charge_slope, charge_turned, slope_upto, signed_mono, signed_step, charge_within}

-- ---- the two sides of a number: one is its size, the other 0
pub long_same : {x : ℤ} → pos 0 ≤ℤ x → long x ≡ x
long_same {x} h = eq! (lit 0 ⊔ var x) (var x) (omega ints)

pub short_none : {x : ℤ} → pos 0 ≤ℤ x → short x ≡ pos 0
short_none {x} h = eq! (lit 0 ⊔ neg (var x)) (lit 0) (omega ints)

pub long_none : {x : ℤ} → x ≤ℤ pos 0 → long x ≡ pos 0
long_none {x} h = eq! (lit 0 ⊔ var x) (lit 0) (omega ints)

pub short_same : {x : ℤ} → x ≤ℤ pos 0 → short x ≡ neg_ℤ x
short_same {x} h = eq! (lit 0 ⊔ neg (var x)) (neg (var x)) (omega ints)

-- and its size is that of the side that it is on
size_long : {x : ℤ} → pos 0 ≤ℤ x → abs_ℤ x ≡ x
size_long {x} h = eq! (size (var x)) (var x) (omega ints)

size_short : {x : ℤ} → x ≤ℤ pos 0 → abs_ℤ x ≡ neg_ℤ x
size_short {x} h = eq! (size (var x)) (neg (var x)) (omega ints)

pub size_upto : {x : ℤ} {k : ℕ} → x within k → k < 2 ^ 63 → abs_ℤ x upto k
size_upto {x} {k} h l =
    let m = is (size (var x)) in let a = abs_is x in let o = one_is_zero x in
    let low : pos 0 ≤ℤ abs_ℤ x = omega ints in let high : abs_ℤ x ≤ℤ pos k = omega (ints, h) in record { low = low; high = high; fits = omega ints }

-- ---- the short dates: what the long dates have above the sum of all
module _ (positions : List ℤ) where
  pub shorts_are : long_sum positions -ℤ position_sum positions ≡ short_sum positions
  unfolding long_sum short_sum position_sum
  shorts_are =
      let p = number positions in
      let e = sum_same 8 (λ d. long (p d)) (λ d. short (p d) +ℤ p d) (λ d l. eq! (lit 0 ⊔ var (p d)) (lit 0 ⊔ neg (var (p d)) ⊕ var (p d)) (omega ints))
      ∙ sum_add 8 (λ d. short (p d)) p in
      eq! (var (Σ< 8 (λ d. long (p d))) ⊖ var (Σ< 8 p)) (var (Σ< 8 (λ d. short (p d)))) (omega (ints, e))

  pub shorts_upto : PositionRanges positions → short_sum positions upto 64000000
  unfolding short_sum
  shorts_upto r =
      upto_size (sum_from_zero 8 _ (λ d l. omega (ints, is (lit 0 ⊔ neg (var (number positions d))))))
      (sum_within 8000000 8 _ (omega arith) (λ d l. let h = r.each d l in omega (ints, is (lit 0 ⊔ neg (var (number positions d)))))).size (omega arith)

turned_within : {x : ℤ} {k : ℕ} → x upto k → k < 2 ^ 63 → neg_ℤ x within k
turned_within {x} {k} h l = within_fits (neg_ℤ x) k (rw (neg_size x) (upto_within h).size) l

-- ---- market risk of n units of a side
module _ (row : List ℤ) (r : RowRanges row) (side : ℕ) (h : side < 2) where
  pub side_slope : Slope (highest_rate row side) (units_charge row side)
  unfolding units_charge
  side_slope =
      let s = r.side side h in
      charge_slope _ _ _ _ s.base_upto.low s.base_highest s.raised_upto.low s.raised_highest r.market_upto.low

  -- it grows by at most the highest rate times the price for each unit, rounded up
  pub side_step : (n m : ℤ) → n ≤ℤ m → side_risk row side m ≤ℤ (side_risk row side n +ℤ divided_up (highest_rate row side *ℤ (m -ℤ n) *ℤ price row) 10000)
  unfolding side_risk market_charge
  side_step n m q =
      ≤ℤ-trans (up_mono 10000 (omega arith) _ _ (rw *ℤ-distribʳ at (*ℤ-monoʳ (price row) _ _ r.price_upto.low (side_slope.step n m q))))
      (up_add 10000 (omega arith) _ _)

  -- it never falls as the units grow
  pub side_mono : (n m : ℤ) → n ≤ℤ m → side_risk row side n ≤ℤ side_risk row side m
  unfolding side_risk market_charge
  side_mono n m q = up_mono 10000 (omega arith) _ _ (*ℤ-monoʳ (price row) _ _ r.price_upto.low (side_slope.mono n m q))

  -- no units, no risk
  pub side_none : side_risk row side (pos 0) ≡ pos 0
  unfolding side_risk market_charge divided_up
  side_none = ap (λ (c : ℤ). divided_up (c *ℤ price row) 10000) side_slope.none ∙ ap (λ (c : ℤ). divided_up c 10000) (eq! (lit 0 ⊛ var (price row)) (lit 0) (omega arith))

  -- it is from 0 to ten million kopecks for each unit
  pub side_upto : {n : ℤ} {k : ℕ} → n upto k → 10000000 * k < 900000000000000 → side_risk row side n upto (10000000 * k)
  unfolding side_risk market_charge
  side_upto {n} {k} u l =
      let charged = slope_upto 10000 side_slope (r.side side h).highest_upto.high u (omega arith) in
      let whole = product_upto charged r.price_upto (omega arith) in
      let low = side_mono (pos 0) n u.low in
      let none = side_none in
      let high = up_least 10000 (omega arith) _ (pos (10000000 * k)) (le! (var (market_charge row side n)) (lit 10000 ⊛ lit (10000000 * k)) (omega ints)) in
      record { low = omega ints; high = high; fits = omega ints }

-- ---- market risk of an asset: of special delivery, of a sum from 0 up, of a sum from 0 down
module _ (row : List ℤ) (r : RowRanges row) (x : Asset) where
  abbrev sum : ℤ
  sum = position_sum x.positions

  pub market_special : is_special x.regime ≡ true
      → market_risk row x ≡ max_ℤ (side_risk row fall (long_sum x.positions)) (side_risk row rise (short_sum x.positions))
  unfolding market_risk
  market_special e = rw e refl

  module _ (plain : is_special x.regime ≡ false) where
    pub market_by_sides : market_risk row x ≡ side_risk row fall (long sum) +ℤ side_risk row rise (short sum)
    unfolding market_risk
    market_by_sides = rw plain refl

    pub market_long : pos 0 ≤ℤ sum → market_risk row x ≡ side_risk row fall sum
    market_long h =
        market_by_sides ∙ ap₂ (λ (n m : ℤ). side_risk row fall n +ℤ side_risk row rise m) (long_same h) (short_none h)
        ∙ ap (λ (z : ℤ). side_risk row fall sum +ℤ z) (side_none row r rise (omega arith)) ∙ +ℤ_idr _

    pub market_short : sum ≤ℤ pos 0 → market_risk row x ≡ side_risk row rise (neg_ℤ sum)
    market_short h =
        market_by_sides ∙ ap₂ (λ (n m : ℤ). side_risk row fall n +ℤ side_risk row rise m) (long_none h) (short_same h)
        ∙ ap (λ (z : ℤ). z +ℤ side_risk row rise (neg_ℤ sum)) (side_none row r fall (omega arith)) ∙ +ℤ_idl _

    -- as code makes it: the risk of the sum's size, on the side that the sum is on
    pub market_by_side : side_risk row (side_of sum) (abs_ℤ sum) ≡ market_risk row x
    unfolding side_of
    market_by_side = by (lt_z sum (pos 0)) refl
      where
        by : (t : Bool) → lt_z sum (pos 0) ≡ t → side_risk row (cond t rise fall) (abs_ℤ sum) ≡ market_risk row x
        by true e = ap (side_risk row rise) (size_short (omega ints)) ∙ sym (market_short (omega ints))
        by false e = ap (side_risk row fall) (size_long (omega ints)) ∙ sym (market_long (omega ints))

    -- on the long side stands the fall risk of the long units, on the short side the rise risk of the short units
    pub long_risk_is : long_risk row x ≡ side_risk row fall (long sum)
    unfolding long_risk
    long_risk_is = by (lt_z (pos 0) sum) refl
      where
        by : (t : Bool) → lt_z (pos 0) sum ≡ t → cond t (market_risk row x) (pos 0) ≡ side_risk row fall (long sum)
        by true e = market_long (omega ints) ∙ ap (side_risk row fall) (sym (long_same (omega ints)))
        by false e = sym (ap (side_risk row fall) (long_none (omega ints)) ∙ side_none row r fall (omega arith))

    pub short_risk_is : short_risk row x ≡ side_risk row rise (short sum)
    unfolding short_risk
    short_risk_is = by (lt_z sum (pos 0)) refl
      where
        by : (t : Bool) → lt_z sum (pos 0) ≡ t → cond t (market_risk row x) (pos 0) ≡ side_risk row rise (short sum)
        by true e = market_short (omega ints) ∙ ap (side_risk row rise) (sym (short_same {x = sum} (omega ints)))
        by false e = sym (ap (side_risk row rise) (short_none {x = sum} (omega ints)) ∙ side_none row r rise (omega arith))

-- ---- interest charges of n units of date d
module _ (row : List ℤ) (r : RowRanges row) (d : ℕ) (h : d < 8) where
  -- the greater width of a date is at most ten million
  pub width_below : outer_width row d ≤ℤ pos 10000000
  unfolding outer_width
  width_below =
      let t = r.date d h in
      let a = t.outer_below.high in
      let b = t.outer_above.high in
      le! (var (mid row d -ℤ outer_low row d) ⊔ var (outer_up row d -ℤ mid row d)) (lit 10000000) (omega ints)

  pub fall_slope : Slope (outer_width row d) (fall_charge row d)
  unfolding outer_width fall_charge
  fall_slope =
      let t = r.date d h in
      let inner = le! (var (mid row d) ⊖ var (low row d)) ((var (mid row d) ⊖ var (outer_low row d)) ⊔ (var (outer_up row d) ⊖ var (mid row d))) (omega (ints, t.outer_lower)) in
      charge_slope _ _ _ _ t.below.low inner
      t.outer_below.low (le! (var (mid row d -ℤ outer_low row d)) (var (mid row d -ℤ outer_low row d) ⊔ var (outer_up row d -ℤ mid row d)) (omega arith)) r.interest_upto.low

  pub rise_slope : Slope (outer_width row d) (rise_charge row d)
  unfolding outer_width rise_charge
  rise_slope =
      let t = r.date d h in
      let inner = le! (var (up row d) ⊖ var (mid row d)) ((var (mid row d) ⊖ var (outer_low row d)) ⊔ (var (outer_up row d) ⊖ var (mid row d))) (omega (ints, t.outer_higher)) in
      charge_slope _ _ _ _ t.above.low inner
      t.outer_above.low (le! (var (outer_up row d -ℤ mid row d)) (var (mid row d -ℤ outer_low row d) ⊔ var (outer_up row d -ℤ mid row d)) (omega arith)) r.interest_upto.low

  -- the interest of a date never falls as its position grows, and grows by at most the greater width for each unit
  module _ (x y : ℤ) (q : x ≤ℤ y) where
    pub interest_mono : (fall_charge row d (long x) -ℤ rise_charge row d (short x)) ≤ℤ (fall_charge row d (long y) -ℤ rise_charge row d (short y))
    interest_mono = signed_mono _ _ _ fall_slope rise_slope x y q

    pub interest_step : (fall_charge row d (long y) -ℤ rise_charge row d (short y)) ≤ℤ (fall_charge row d (long x) -ℤ rise_charge row d (short x) +ℤ outer_width row d *ℤ (y -ℤ x))
    interest_step = signed_step _ _ _ fall_slope rise_slope x y q

  -- the interest of a date whose position is from 0 up, and from 0 down
  pub interest_long : (positions : List ℤ) → pos 0 ≤ℤ number positions d → interest_of row positions d ≡ fall_charge row d (number positions d)
  unfolding interest_of
  interest_long positions q =
      ap₂ (λ (n m : ℤ). fall_charge row d n -ℤ rise_charge row d m) (long_same q) (short_none q)
      ∙ ap (λ (z : ℤ). fall_charge row d (number positions d) -ℤ z) rise_slope.none ∙ +ℤ_idr _

  pub interest_short : (positions : List ℤ) → number positions d ≤ℤ pos 0 → interest_of row positions d ≡ neg_ℤ (rise_charge row d (neg_ℤ (number positions d)))
  unfolding interest_of
  interest_short positions q =
      ap₂ (λ (n m : ℤ). fall_charge row d n -ℤ rise_charge row d m) (long_none q) (short_same q)
      ∙ ap (λ (z : ℤ). z -ℤ rise_charge row d (neg_ℤ (number positions d))) fall_slope.none ∙ +ℤ_idl _

  -- as code makes it: the charge of the position's size at the widths of its side, which are negative where the position is
  abbrev pub width_of : ℕ → ℕ → ℤ
  width_of k side = mid row d -ℤ number row (16 + 5 * d + k + side)

  long_width : (k : ℕ) → width_of k 0 ≡ mid row d -ℤ number row (16 + 5 * d + k)
  long_width k = ap (λ (j : ℕ). mid row d -ℤ number row j) (omega arith)

  short_width : (k : ℕ) → width_of k 1 ≡ neg_ℤ (number row (16 + 5 * d + (k + 1)) -ℤ mid row d)
  short_width k =
      ap (λ (j : ℕ). mid row d -ℤ number row j) (omega arith)
      ∙ eq! (var (mid row d) ⊖ var (number row (16 + 5 * d + (k + 1)))) (neg (var (number row (16 + 5 * d + (k + 1))) ⊖ var (mid row d))) (omega arith)

  pub widths_within : (side : ℕ) → side < 2 → (width_of 1 side within 10000000) × (width_of 3 side within 10000000)
  widths_within zero l = let t = r.date d h in rw (long_width 1, long_width 3) (upto_within t.below, upto_within t.outer_below)
  widths_within (suc zero) l = let t = r.date d h in rw (short_width 1, short_width 3) (turned_within t.above (omega arith), turned_within t.outer_above (omega arith))
  widths_within (suc (suc s)) l = absurd (omega arith)

  pub interest_by_side : (positions : List ℤ) → let x = number positions d in
      charge (width_of 1 (side_of x)) (width_of 3 (side_of x)) (interest_limit row) (abs_ℤ x) ≡ interest_of row positions d
  unfolding side_of fall_charge rise_charge
  interest_by_side positions = by (lt_z (number positions d) (pos 0)) refl
    where
      by : (t : Bool) → lt_z (number positions d) (pos 0) ≡ t
          → charge (width_of 1 (cond t rise fall)) (width_of 3 (cond t rise fall)) (interest_limit row) (abs_ℤ (number positions d)) ≡ interest_of row positions d
      by true e =
          (λ i. charge (short_width 1 i) (short_width 3 i) (interest_limit row) (size_short {x = number positions d} (omega ints) i))
          ∙ charge_turned (up row d -ℤ mid row d) (outer_up row d -ℤ mid row d) (interest_limit row) (neg_ℤ (number positions d))
          ∙ sym (interest_short positions (omega ints))
      by false e =
          (λ i. charge (long_width 1 i) (long_width 3 i) (interest_limit row) (size_long {x = number positions d} (omega ints) i))
          ∙ sym (interest_long positions (omega ints))

  side_below : (x : ℤ) → side_of x < 2
  unfolding side_of
  side_below x = by (lt_z x (pos 0))
    where
      by : (t : Bool) → cond t rise fall < 2
      by true = omega arith
      by false = omega arith

  -- so it is at most ten million for each unit
  pub interest_within : (positions : List ℤ) → number positions d within 8000000 → interest_of row positions d within 80000000000000
  interest_within positions held =
      let w = widths_within (side_of (number positions d)) (side_below (number positions d)) in
      subst (λ (z : ℤ). z within 80000000000000) (interest_by_side positions)
      (charge_within w.0 w.1 r.interest_upto.low (size_upto held (omega arith)) (omega arith))

-- the long units of a position within k
pub long_upto : {x : ℤ} {k : ℕ} → x within k → k < 2 ^ 63 → long x upto k
long_upto {x} {k} h l = let m = is (lit 0 ⊔ var x) in record { low = omega ints; high = omega ints; fits = omega ints }
