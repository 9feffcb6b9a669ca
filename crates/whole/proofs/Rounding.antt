-- Laws of the two quotients, for any divisor: each is the nearest whole number on its side. The rest follows from that.
-- Assumes nothing.
use mathlib.Core.Path.{◌≡◌, refl, ap}
use Prim.Native.Nat.{ℕ, suc, ◌+◌, ◌*◌, ◌-◌, ◌<◌, ◌≤◌}
use native.Mathlib.Nat.{mul-div-le, lt-mul-div-succ, div-le_self, lt_of_le_of_lt}
use native.Mathlib.Omega.{arith}
use lib.IntN.{ℤ, pos, negsuc, nat_abs, ◌+ℤ◌, ◌-ℤ◌, ◌*ℤ◌}
use lib.Signed.{◌≤ℤ◌, ◌<ℤ◌, quot_z}
use mir.Syntax.{w64}
use mir.Val.{SFits}
use Rattle.whole.specs.Numbers.{divided_down, divided_up, ceiling}
use Rattle.whole.proofs.PlusMinus.{plus, minus}
use Rattle.whole.proofs.Expressions.{var, lit, ◌⊕◌, ◌⊖◌, ◌⊛◌, le!, lt!, eq!, le?, lt?, ceiling_zero, down_plus, down_minus, up_plus, up_minus}
use Rattle.whole.proofs.Numbers.{≤ℤ-trans, *ℤ-cancel}
use Rattle.whole.proofs.Rules.{ints}

ceiling_above : (k : ℕ) → 0 < k → (m : ℕ) → m ≤ k * ceiling m k
ceiling_above k one m = omega (arith, lt-mul-div-succ (m + (k - 1)) one)

module _ (k : ℕ) (one : 0 < k) where
  -- times k: what each part of a quotient comes to
  times : {m n : ℕ} → m ≡ n → k * m ≡ k * n
  times e = ap (λ (t : ℕ). k * t) e

  pub down_below : (x : ℤ) → (pos k *ℤ divided_down x k) ≤ℤ x
  down_below x = le! (lit k ⊛ var (divided_down x k)) (var x)
      (omega (arith, times (down_plus x k), times (down_minus x k), mul-div-le (plus x) k, ceiling_above k one (minus x)))

  pub down_near : (x : ℤ) → x <ℤ (pos k *ℤ divided_down x k +ℤ pos k)
  down_near (pos n) = lt! (lit n) (lit k ⊛ var (divided_down (pos n) k) ⊕ lit k)
      (omega (arith, times (down_plus (pos n) k), times (down_minus (pos n) k), times (ceiling_zero k), lt-mul-div-succ n one))
  down_near (negsuc n) = lt! (var (negsuc n)) (lit k ⊛ var (divided_down (negsuc n) k) ⊕ lit k)
      (omega (arith, times (down_minus (negsuc n) k), mul-div-le (suc n + (k - 1)) k))

  pub up_above : (x : ℤ) → x ≤ℤ (pos k *ℤ divided_up x k)
  up_above x = le! (var x) (lit k ⊛ var (divided_up x k))
      (omega (arith, times (up_plus x k), times (up_minus x k), ceiling_above k one (plus x), mul-div-le (minus x) k))

  pub up_near : (x : ℤ) → (pos k *ℤ divided_up x k) <ℤ (x +ℤ pos k)
  up_near (pos n) = lt! (lit k ⊛ var (divided_up (pos n) k)) (lit n ⊕ lit k)
      (omega (arith, times (up_plus (pos n) k), mul-div-le (n + (k - 1)) k))
  up_near (negsuc n) = lt! (lit k ⊛ var (divided_up (negsuc n) k)) (var (negsuc n) ⊕ lit k)
      (omega (arith, times (up_plus (negsuc n) k), times (up_minus (negsuc n) k), times (ceiling_zero k), lt-mul-div-succ (suc n) one))

  -- the greatest whole number that is not above, and the least that is not below
  pub down_greatest : (x q : ℤ) → (pos k *ℤ q) ≤ℤ x → q ≤ℤ divided_down x k
  down_greatest x q h = *ℤ-cancel k q (divided_down x k) one
      (lt! (lit k ⊛ var q) (lit k ⊛ var (divided_down x k) ⊕ lit k)
      (omega (arith, le? (lit k ⊛ var q) (var x) h, lt? (var x) (lit k ⊛ var (divided_down x k) ⊕ lit k) (down_near x))))

  pub up_least : (x q : ℤ) → x ≤ℤ (pos k *ℤ q) → divided_up x k ≤ℤ q
  up_least x q h = *ℤ-cancel k (divided_up x k) q one
      (lt! (lit k ⊛ var (divided_up x k)) (lit k ⊛ var q ⊕ lit k)
      (omega (arith, le? (var x) (lit k ⊛ var q) h, lt? (lit k ⊛ var (divided_up x k)) (var x ⊕ lit k) (up_near x))))

  pub down_mono : (x y : ℤ) → x ≤ℤ y → divided_down x k ≤ℤ divided_down y k
  down_mono x y h = down_greatest y (divided_down x k) (≤ℤ-trans (down_below x) h)

  pub up_mono : (x y : ℤ) → x ≤ℤ y → divided_up x k ≤ℤ divided_up y k
  up_mono x y h = up_least x (divided_up y k) (≤ℤ-trans h (up_above y))

  pub up_add : (x y : ℤ) → divided_up (x +ℤ y) k ≤ℤ (divided_up x k +ℤ divided_up y k)
  up_add x y = up_least (x +ℤ y) (divided_up x k +ℤ divided_up y k) (le! (var x ⊕ var y) (lit k ⊛ (var (divided_up x k) ⊕ var (divided_up y k)))
      (omega (arith, le? (var x) (lit k ⊛ var (divided_up x k)) (up_above x), le? (var y) (lit k ⊛ var (divided_up y k)) (up_above y))))

-- as code works them out, from 0 up: the machine's quotient rounds down there, and rounding up is rounding down of k − 1 more
pub quot_down : (x y : ℤ) → pos 0 ≤ℤ x → pos 1 ≤ℤ y → quot_z x y ≡ divided_down x (nat_abs y)
unfolding divided_down
quot_down (pos a) (pos b) h l = refl
quot_down (pos a) (negsuc b) h l = absurd l.le
quot_down (negsuc a) y h l = absurd h.le

pub down_up : (x y : ℤ) → pos 0 ≤ℤ x → pos 1 ≤ℤ y → divided_down (x +ℤ (y -ℤ pos 1)) (nat_abs y) ≡ divided_up x (nat_abs y)
unfolding divided_down divided_up
down_up (pos a) (pos b) h l = ap (λ (z : ℤ). divided_down z b) (eq! (lit a ⊕ (lit b ⊖ lit 1)) (lit (a + (b - 1))) (omega (ints, l)))
down_up (pos a) (negsuc b) h l = absurd l.le
down_up (negsuc a) y h l = absurd h.le

-- a quotient of a number that fits fits
pub down_fits : (x : ℤ) (k : ℕ) → SFits w64 x → pos 0 ≤ℤ x → SFits w64 (divided_down x k)
unfolding divided_down
down_fits (pos a) k f h = record { sfits = lt_of_le_of_lt (div-le_self a k) f.sfits }
down_fits (negsuc a) k f h = absurd h.le
