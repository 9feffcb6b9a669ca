-- The discount of a group as its two sides move. Assumes nothing.
use mathlib.Core.List.{List}
use Prim.Native.Nat.{ℕ, ◌+◌, ◌*◌, ◌<◌, ◌^◌}
use native.Mathlib.Omega.{arith}
use lib.IntN.{ℤ, pos, ◌+ℤ◌, ◌-ℤ◌, ◌*ℤ◌}
use lib.Signed.{◌≤ℤ◌}
use Rattle.whole.specs.Numbers.{min_ℤ, divided_down}
use Rattle.whole.specs.Bounds.{◌upto◌}
use Rattle.whole.specs.Parts.{number}
use Rattle.whole.proofs.Expressions.{var, lit, ◌⊕◌, ◌⊖◌, ◌⊛◌, ◌⊓◌, is, le!, le?}
use Rattle.whole.proofs.Numbers.{*ℤ-mono, *ℤ-monoʳ, *ℤ-nonneg}
use Rattle.whole.proofs.Rounding.{down_below, down_greatest}
use Rattle.whole.proofs.Rules.{ints}
use Rattle.rates.specs.Lent.{Tables}
use Rattle.rates.specs.Ranges.{TableRanges}
use Rattle.figures.specs.Limit.{discount_of}
use Rattle.figures.specs.Ranges.{GroupRanges, PercentRanges}
use Rattle.whole.proofs.InRange.{product_upto}

-- the percents of groups that pass the check
pub percent_ranges : {tables : Tables} → TableRanges tables → PercentRanges tables.groups
percent_ranges t = record { size = t.groups_long; each = t.percent }

-- of a percent q and a smaller side m
abbrev pub discounted : ℤ → ℤ → ℤ
discounted q m = divided_down (pos 2 *ℤ q *ℤ m) 100

-- twice a percent from 0 to 50
pub twice_upto : {q : ℤ} → q upto 50 → (pos 2 *ℤ q) upto 100
twice_upto {q} h = let e = is (lit 2 ⊛ var q) in record { low = omega ints; high = omega ints; fits = omega ints }

-- a discount is from 0 to the smaller side
pub discount_upto : {q m : ℤ} {k : ℕ} → q upto 50 → m upto k → 100 * k < 2 ^ 63 → discounted q m upto k
discount_upto {q} {m} {k} h n l =
    let x = pos 2 *ℤ q *ℤ m in
    let whole = product_upto (twice_upto h) n l in
    let below = le? (lit 100 ⊛ var (divided_down x 100)) (var x) (down_below 100 (omega arith) x) in
    let low = down_greatest 100 (omega arith) x (pos 0) whole.low in
    record { low = low; high = omega ints; fits = omega ints }

pub discount_from_zero : (q m : ℤ) → q upto 50 → pos 0 ≤ℤ m → pos 0 ≤ℤ discounted q m
discount_from_zero q m h n = down_greatest 100 (omega arith) _ (pos 0) (*ℤ-nonneg (pos 2 *ℤ q) m (twice_upto h).low n)

-- it falls by no more than the smaller side falls
pub discount_step : (q m m' k : ℤ) → q upto 50 → m ≤ℤ (m' +ℤ k) → pos 0 ≤ℤ k → discounted q m ≤ℤ (discounted q m' +ℤ k)
discount_step q m m' k h n z =
    let t = twice_upto h in
    let x = pos 2 *ℤ q *ℤ m in
    let x' = pos 2 *ℤ q *ℤ m' in
    let d = divided_down x 100 in
    let more = le? (var (pos 2 *ℤ q) ⊛ var m) (var (pos 2 *ℤ q) ⊛ (var m' ⊕ var k)) (*ℤ-mono (pos 2 *ℤ q) m (m' +ℤ k) t.low n) in
    let most = le? (var (pos 2 *ℤ q) ⊛ var k) (lit 100 ⊛ var k) (*ℤ-monoʳ k (pos 2 *ℤ q) (pos 100) z t.high) in
    let near = down_greatest 100 (omega arith) x' (d -ℤ k)
    (le! (lit 100 ⊛ (var d ⊖ var k)) (var (pos 2 *ℤ q) ⊛ var m')
    (omega (arith, more, most, le? (lit 100 ⊛ var d) (var (pos 2 *ℤ q) ⊛ var m) (down_below 100 (omega arith) x)))) in
    le! (var d) (var (divided_down x' 100) ⊕ var k) (omega (arith, le? (var d ⊖ var k) (var (divided_down x' 100)) near))

pub discount_below : (q m : ℤ) → q upto 50 → pos 0 ≤ℤ m → discounted q m ≤ℤ m
discount_below q m h n =
    let d = divided_down (pos 2 *ℤ q *ℤ m) 100 in
    let below = le? (lit 100 ⊛ var d) (var (pos 2 *ℤ q) ⊛ var m) (down_below 100 (omega arith) _) in
    le! (var d) (var m) (omega (arith, below, le? (var (pos 2 *ℤ q) ⊛ var m) (lit 100 ⊛ var m) (*ℤ-monoʳ m (pos 2 *ℤ q) (pos 100) n (twice_upto h).high)))

-- of two sides, neither of which falls by more than k
pub smaller_step : (x y x' y' k : ℤ) → x ≤ℤ (x' +ℤ k) → y ≤ℤ (y' +ℤ k) → min_ℤ x y ≤ℤ (min_ℤ x' y' +ℤ k)
smaller_step x y x' y' k h l = le! (var x ⊓ var y) (var x' ⊓ var y' ⊕ var k) (omega (arith, le? (var x) (var x' ⊕ var k) h, le? (var y) (var y' ⊕ var k) l))

pub group_discount_step : (groups longs shorts longs' shorts' : List ℤ) (g : ℕ) (k : ℤ) → PercentRanges groups → g < 8 → pos 0 ≤ℤ k
    → number longs (1 + g) ≤ℤ (number longs' (1 + g) +ℤ k) → number shorts (1 + g) ≤ℤ (number shorts' (1 + g) +ℤ k)
    → discount_of groups longs shorts g ≤ℤ (discount_of groups longs' shorts' g +ℤ k)
unfolding discount_of
group_discount_step groups longs shorts longs' shorts' g k r h z a b = discount_step _ _ _ k (r.each g h) (smaller_step _ _ _ _ k a b) z

-- the discount of a group of sixteen assets: at most the smaller side
smaller_upto : {x y : ℤ} {k : ℕ} → x upto k → y upto k → k < 2 ^ 63 → min_ℤ x y upto k
smaller_upto {x} {y} {k} h l b = let m = is (var x ⊓ var y) in record { low = omega ints; high = omega ints; fits = omega ints }

pub group_discount_upto : {groups longs shorts : List ℤ} → PercentRanges groups → GroupRanges 16 longs → GroupRanges 16 shorts → (g : ℕ) → g < 8
    → discount_of groups longs shorts g upto 10240000000000000
unfolding discount_of
group_discount_upto p l s g h = discount_upto (p.each g h) (smaller_upto (l.each (1 + g) (omega arith)) (s.each (1 + g) (omega arith)) (omega arith)) (omega arith)
