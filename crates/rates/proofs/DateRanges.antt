-- The ranges of a date's five numbers, and of a side's two rates, from their rules. Assumes nothing.
use mathlib.Core.Path.{◌≡◌}
use mathlib.Core.Bool.{true}
use mathlib.Core.List.{List}
use Prim.Native.Nat.{ℕ}
use native.Mathlib.Omega.{arith}
use lib.IntN.{ℤ, ◌+ℤ◌, ◌-ℤ◌}
use lib.Signed.{◌≤ℤ◌, ≤ℤ_refl}
use Rattle.whole.specs.Bounds.{between, ◌within◌, ◌upto◌}
use Rattle.whole.specs.Marks.{all_true}
use Rattle.whole.proofs.Expressions.{var, lit, ◌⊕◌, ◌⊖◌, le!, le?}
use Rattle.whole.proofs.Machine.{fits! }
use Rattle.whole.proofs.Numbers.{≤ℤ-trans}
use Rattle.whole.proofs.Bounds.{amid, upto_by}
use Rattle.whole.proofs.Marks.{all_at}
use Rattle.whole.proofs.Rules.{ints}
use Rattle.rates.specs.Units.{ten_million, the_whole}
use Rattle.rates.specs.Row.{price, base_rate, raised_rate, highest_rate, mid, low, up, outer_low, outer_up}
use Rattle.rates.specs.Rules.{date_marks}
use Rattle.rates.specs.Ranges.{DateRanges, SideRanges}

-- how far a number stands below or above the mid
below_upto : (m x : ℤ) → (m -ℤ ten_million) ≤ℤ x → x ≤ℤ m → (m -ℤ x) upto 10000000
below_upto m x h k = let l = le? (var m ⊖ lit 10000000) (var x) h in
    record { low = le! (lit 0) (var m ⊖ var x) (omega ints); high = le! (var m ⊖ var x) (lit 10000000) (omega ints); fits = fits! (var m ⊖ var x) (omega ints) }

above_upto : (m x : ℤ) → m ≤ℤ x → x ≤ℤ (m +ℤ ten_million) → (x -ℤ m) upto 10000000
above_upto m x h k = let l = le? (var x) (var m ⊕ lit 10000000) k in
    record { low = le! (lit 0) (var x ⊖ var m) (omega ints); high = le! (var x ⊖ var m) (lit 10000000) (omega ints); fits = fits! (var x ⊖ var m) (omega ints) }

-- a number that stands so from a mid near 0
below_within : (m x : ℤ) → m within 10000000 → (m -ℤ x) upto 10000000 → x within 20000000
below_within m x h k = omega (ints, le? (lit 0) (var m ⊖ var x) k.low, le? (var m ⊖ var x) (lit 10000000) k.high)

above_within : (m x : ℤ) → m within 10000000 → (x -ℤ m) upto 10000000 → x within 20000000
above_within m x h k = omega (ints, le? (lit 0) (var x ⊖ var m) k.low, le? (var x ⊖ var m) (lit 10000000) k.high)

level_within : (p m : ℤ) → p upto 10000000 → (p +ℤ m) upto 10000000 → m within 10000000
level_within p m h k = omega (ints, le? (lit 0) (var p ⊕ var m) k.low, le? (var p ⊕ var m) (lit 10000000) k.high)

-- a raised rate, from its base rate up
raised_upto : (x y : ℤ) → x upto 10000 → between x y the_whole ≡ true → y upto 10000
raised_upto x y h e = let a = amid e in record { low = omega ints; high = a.to; fits = omega ints }

-- ---- the numbers of a date whose marks are true, and the rates of a side
module _ (row : List ℤ) where
  pub date_ranges : price row upto 10000000 → (d : ℕ) → all_true (date_marks row d) ≡ true → DateRanges row d
  unfolding date_marks
  date_ranges p d e =
      let mark = all_at (date_marks row d) e in
      let worth = upto_by (omega arith) (mark 0) in
      let near = level_within (price row) (mid row d) p worth in
      let low-in = amid (mark 1) in
      let up_in = amid (mark 2) in
      let outer-low-in = amid (mark 3) in
      let outer-up-in = amid (mark 4) in
      let fall = below_upto (mid row d) (low row d) low-in.from low-in.to in
      let rise = above_upto (mid row d) (up row d) up_in.from up_in.to in
      let outer-fall = below_upto (mid row d) (outer_low row d) outer-low-in.from (≤ℤ-trans outer-low-in.to low-in.to) in
      let outer-rise = above_upto (mid row d) (outer_up row d) (≤ℤ-trans up_in.from outer-up-in.from) outer-up-in.to in
      record {
        mid_within = near;
        low_within = below_within (mid row d) (low row d) near fall;
        up_within = above_within (mid row d) (up row d) near rise;
        outer_low_within = below_within (mid row d) (outer_low row d) near outer-fall;
        outer_up_within = above_within (mid row d) (outer_up row d) near outer-rise;
        level_upto = worth;
        below = fall;
        above = rise;
        outer_below = outer-fall;
        outer_above = outer-rise;
        outer_lower = outer-low-in.to;
        outer_higher = outer-up-in.from;
      }

  pub side_ranges : (s : ℕ) → base_rate row s upto 10000 → between (base_rate row s) (raised_rate row s) the_whole ≡ true → SideRanges row s
  unfolding highest_rate
  side_ranges s b e =
      let raised = raised_upto (base_rate row s) (raised_rate row s) b e in
      record {
        base_upto = b;
        raised_upto = raised;
        highest_upto = raised;
        base_raised = (amid e).from;
        base_highest = (amid e).from;
        raised_highest = ≤ℤ_refl (raised_rate row s);
      }
