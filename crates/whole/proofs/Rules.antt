-- Rules for `omega`: each turns a hypothesis over ℤ into one over its two natural parts (`..-says`), or a goal into one (`..-by`). With
-- them `omega ints` proves a linear fact over ℤ outright. `omega` applies the first rule that fits, so special ones stand before general.
-- Assumes nothing.
use mathlib.Core.Path.{◌≡◌, sym, subst}
use mathlib.Core.Bool.{Bool, true, false, not}
use Prim.Native.Nat.{ℕ, suc, ◌+◌, ◌*◌, ◌-◌, ◌/◌, ◌<◌, ◌≤◌, ◌^◌, min, max}
use native.Mathlib.Omega.{arith}
use lib.Dec.{T}
use lib.IntN.{ℤ, pos, negsuc, neg_ℤ, ◌+ℤ◌, ◌-ℤ◌, ◌*ℤ◌}
use lib.Signed.{le_z, lt_z, lt_z_no}
use mir.Syntax.{w64}
use mir.Val.{SFits}
use mir.Facts.{to_z-of_z}
use Rattle.whole.specs.Numbers.{min_ℤ, max_ℤ, abs_ℤ, divided_down, divided_up, ceiling}
use Rattle.whole.specs.Bounds.{◌within◌, ◌upto◌}
use Rattle.whole.proofs.PlusMinus.{plus, minus, le_says, le_by, lt_says, lt_by, not_le_says, eq_says, eq_by, abs_is, one_is_zero}
use Rattle.whole.proofs.Expressions.{var, lit, neg, size, ◌⊕◌, ◌⊖◌, ◌⊛◌, ◌⊓◌, ◌⊔◌, ◌÷↓◌, ◌÷↑◌, eq?}
use Rattle.whole.proofs.Machine.{back, fits!, non_neg_by, index_by}

-- ---- bounds
pub within_says : (x : ℤ) (k : ℕ) → x within k → plus x + minus x ≤ k
within_says x k h = let s = h.size in omega (arith, abs_is x)

pub within_by : (x : ℤ) (k : ℕ) → (plus x - minus x) + (minus x - plus x) ≤ min k 9223372036854775807 → x within k
within_by x k h = record { size = omega (arith, abs_is x, one_is_zero x); fits = fits! (var x) (omega arith) }

pub upto_says : (x : ℤ) (k : ℕ) → x upto k → plus x + suc k * minus x ≤ k
upto_says (pos n) k h = let a = le_says (pos n) (pos k) h.high in omega arith
upto_says (negsuc n) k h = absurd h.low.le

-- ---- tests: of a branch, and `between`
test : {b : Bool} → b ≡ true → T b
test e = subst T (sym e) tt

no_test : {b : Bool} → b ≡ false → T (not b)
no_test e = subst (λ (b : Bool). T (not b)) (sym e) tt

pub lt_test_says : (x y : ℤ) → lt_z x y ≡ true → plus x + minus y < plus y + minus x
lt_test_says x y e = lt_says x y (record { lt = test e })

pub lt_test_denies : (x y : ℤ) → lt_z x y ≡ false → plus y + minus x ≤ plus x + minus y
lt_test_denies x y e = le_says y x (lt_z_no (no_test e))

pub le_test_says : (x y : ℤ) → le_z x y ≡ true → plus x + minus y ≤ plus y + minus x
le_test_says x y e = le_says x y (record { le = test e })

pub le_test_denies : (x y : ℤ) → le_z x y ≡ false → plus y + minus x < plus x + minus y
le_test_denies x y e = not_le_says x y (no_test e)

-- ---- what fits is read back from its bits, and what is read back is what was made
pub fits_add_says : (x y : ℤ) → SFits w64 (x +ℤ y) → plus (back (x +ℤ y)) + (minus x + minus y) ≡ (plus x + plus y) + minus (back (x +ℤ y))
fits_add_says x y f = eq? (var (back (x +ℤ y))) (var x ⊕ var y) (to_z-of_z f)

pub fits_sub_says : (x y : ℤ) → SFits w64 (x -ℤ y) → plus (back (x -ℤ y)) + (minus x + plus y) ≡ (plus x + minus y) + minus (back (x -ℤ y))
fits_sub_says x y f = eq? (var (back (x -ℤ y))) (var x ⊖ var y) (to_z-of_z f)

pub fits_multiple_says : (k : ℕ) (y : ℤ) → SFits w64 (pos k *ℤ y) → plus (back (pos k *ℤ y)) + k * minus y ≡ k * plus y + minus (back (pos k *ℤ y))
fits_multiple_says k y f = let e = eq? (var (back (pos k *ℤ y))) (lit k ⊛ var y) (to_z-of_z f) in omega arith

pub fits_says : (x : ℤ) → SFits w64 x → plus (back x) + minus x ≡ plus x + minus (back x)
fits_says x f = eq_says (back x) x (to_z-of_z f)

pub fits_add_by : (x y : ℤ) → ((plus x + plus y) - (minus x + minus y)) + ((minus x + minus y) - (plus x + plus y)) < 2 ^ 63 → SFits w64 (x +ℤ y)
fits_add_by x y h = fits! (var x ⊕ var y) (omega arith)

pub fits_sub_by : (x y : ℤ) → ((plus x + minus y) - (minus x + plus y)) + ((minus x + plus y) - (plus x + minus y)) < 2 ^ 63 → SFits w64 (x -ℤ y)
fits_sub_by x y h = fits! (var x ⊖ var y) (omega arith)

pub fits_multiple_by : (k : ℕ) (y : ℤ) → (k * plus y - k * minus y) + (k * minus y - k * plus y) < 2 ^ 63 → SFits w64 (pos k *ℤ y)
fits_multiple_by k y h = fits! (lit k ⊛ var y) (omega arith)

pub fits_by : (x : ℤ) → (plus x - minus x) + (minus x - plus x) < 2 ^ 63 → SFits w64 x
fits_by x h = fits! (var x) (omega arith)

-- ---- a number that is known as an operation's result: two operations before one, a multiple, a quotient
pub sub_sub_says : (r x y z : ℤ) → r ≡ x -ℤ y -ℤ z → plus r + (minus x + plus y + plus z) ≡ (plus x + minus y + minus z) + minus r
sub_sub_says r x y z e = omega (arith, eq? (var r) (var x ⊖ var y ⊖ var z) e)

pub add_sub_says : (r x y z : ℤ) → r ≡ x +ℤ y -ℤ z → plus r + (minus x + minus y + plus z) ≡ (plus x + plus y + minus z) + minus r
add_sub_says r x y z e = omega (arith, eq? (var r) (var x ⊕ var y ⊖ var z) e)

pub sub_add_says : (r x y z : ℤ) → r ≡ x -ℤ y +ℤ z → plus r + (minus x + plus y + minus z) ≡ (plus x + minus y + plus z) + minus r
sub_add_says r x y z e = omega (arith, eq? (var r) (var x ⊖ var y ⊕ var z) e)

pub add_add_says : (r x y z : ℤ) → r ≡ x +ℤ y +ℤ z → plus r + (minus x + minus y + minus z) ≡ (plus x + plus y + plus z) + minus r
add_add_says r x y z e = omega (arith, eq? (var r) (var x ⊕ var y ⊕ var z) e)

pub sub_says : (r x y : ℤ) → r ≡ x -ℤ y → plus r + (minus x + plus y) ≡ (plus x + minus y) + minus r
sub_says r x y e = eq? (var r) (var x ⊖ var y) e

pub add_says : (r x y : ℤ) → r ≡ x +ℤ y → plus r + (minus x + minus y) ≡ (plus x + plus y) + minus r
add_says r x y e = eq? (var r) (var x ⊕ var y) e

pub neg_says : (r x : ℤ) → r ≡ neg_ℤ x → plus r + plus x ≡ minus x + minus r
neg_says r x e = eq? (var r) (neg (var x)) e

pub multiple_says : (r y : ℤ) (k : ℕ) → r ≡ pos k *ℤ y → plus r + k * minus y ≡ k * plus y + minus r
multiple_says r y k e = let h = eq? (var r) (lit k ⊛ var y) e in omega arith

pub min_says : (r x y : ℤ) → r ≡ min_ℤ x y → plus r + (minus x + minus y) ≡ min (plus x + minus y) (plus y + minus x) + minus r
min_says r x y e = eq? (var r) (var x ⊓ var y) e

pub max_says : (r x y : ℤ) → r ≡ max_ℤ x y → plus r + (minus x + minus y) ≡ max (plus x + minus y) (plus y + minus x) + minus r
max_says r x y e = eq? (var r) (var x ⊔ var y) e

pub abs_says : (r x : ℤ) → r ≡ abs_ℤ x → plus r + (plus x + minus x) ≡ max (plus x + plus x) (minus x + minus x) + minus r
abs_says r x e = eq? (var r) (size (var x)) e

pub down_says : (r x : ℤ) (k : ℕ) → r ≡ divided_down x k → plus r + ceiling (minus x - plus x) k ≡ (plus x - minus x) / k + minus r
down_says r x k e = eq? (var r) (var x ÷↓ k) e

pub up_says : (r x : ℤ) (k : ℕ) → r ≡ divided_up x k → plus r + (minus x - plus x) / k ≡ ceiling (plus x - minus x) k + minus r
up_says r x k e = eq? (var r) (var x ÷↑ k) e

pub ruleset ints = (
  arith,
  within_says,
  within_by,
  upto_says,
  le_says,
  le_by,
  lt_says,
  lt_by,
  fits_sub_says,
  fits_add_says,
  fits_multiple_says,
  fits_says,
  fits_sub_by,
  fits_add_by,
  fits_multiple_by,
  fits_by,
  non_neg_by,
  index_by,
  lt_test_says,
  lt_test_denies,
  le_test_says,
  le_test_denies,
  min_says,
  max_says,
  abs_says,
  down_says,
  up_says,
  sub_sub_says,
  add_sub_says,
  sub_add_says,
  add_add_says,
  sub_says,
  add_says,
  multiple_says,
  neg_says,
  eq_says,
  eq_by,
)
