-- Laws of ℤ that the library lacks: the ring, the order, and the size.
-- Assumes nothing.
use mathlib.Core.Path.{◌≡◌, refl}
use mathlib.Core.Bool.{Bool, true, false, not, cond}
use mathlib.Core.Logic.{◌⊎◌, inl, inr, ⊎_elim}
use Prim.Native.Nat.{ℕ, zero, suc, ◌+◌, ◌*◌, ◌<◌, ◌≤◌}
use native.Mathlib.Nat.{mul-le-mul_left}
use native.Mathlib.Decide.{dec_lt}
use native.Mathlib.Omega.{arith}
use lib.IntN.{ℤ, pos, negsuc, neg_ℤ, nat_abs, ◌+ℤ◌, ◌-ℤ◌, ◌*ℤ◌, *ℤ_comm}
use lib.Signed.{le_z, lt_z, ◌≤ℤ◌, ◌<ℤ◌}
use Rattle.std.proofs.lemmas.Bool.Decides.{nat_tests}
use Rattle.std.specs.Int.{int_min, int_max}
use Rattle.whole.specs.Numbers.{min_ℤ, max_ℤ, abs_ℤ}
use Rattle.whole.proofs.PlusMinus.{plus, minus, le_says, le_by, lt_by, abs_is, one_is_zero}
use Rattle.whole.proofs.Expressions.{var, lit, ◌⊕◌, ◌⊖◌, ◌⊛◌, is, le!, eq!, le?}
use Rattle.whole.proofs.Rules.{ints}

-- ---- the ring
pub *ℤ-distribˡ : (x y z : ℤ) → x *ℤ (y +ℤ z) ≡ x *ℤ y +ℤ x *ℤ z
*ℤ-distribˡ x y z = eq! (var x ⊛ (var y ⊕ var z)) (var x ⊛ var y ⊕ var x ⊛ var z) (omega arith)

pub *ℤ-distribʳ : (x y z : ℤ) → (x +ℤ y) *ℤ z ≡ x *ℤ z +ℤ y *ℤ z
*ℤ-distribʳ x y z = eq! ((var x ⊕ var y) ⊛ var z) (var x ⊛ var z ⊕ var y ⊛ var z) (omega arith)

-- ---- the order
pub ≤ℤ-trans : {x y z : ℤ} → x ≤ℤ y → y ≤ℤ z → x ≤ℤ z
≤ℤ-trans {x} {y} {z} h k = omega ints

pub ≤ℤ-antisym : {x y : ℤ} → x ≤ℤ y → y ≤ℤ x → x ≡ y
≤ℤ-antisym {x} {y} h k = omega ints

pub lt_or_ge : (a b : ℕ) → (a < b) ⊎ (b ≤ a)
lt_or_ge a b = pick (dec_lt a b)
  where
    pick : Dec (a < b) → (a < b) ⊎ (b ≤ a)
    pick (yes h) = inl h
    pick (no f) = inr (omega arith)

pub <ℤ-or-≥ℤ : (x y : ℤ) → (x <ℤ y) ⊎ (y ≤ℤ x)
<ℤ-or-≥ℤ x y = ⊎_elim (λ h. inl (lt_by x y h)) (λ h. inr (le_by y x h)) (lt_or_ge (plus x + minus y) (plus y + minus x))

pub +ℤ-mono : {a b c d : ℤ} → a ≤ℤ b → c ≤ℤ d → (a +ℤ c) ≤ℤ (b +ℤ d)
+ℤ-mono {a} {b} {c} {d} h k = le! (var a ⊕ var c) (var b ⊕ var d) (omega ints)

-- by a number from 0 up
pub *ℤ-mono : (c a b : ℤ) → pos 0 ≤ℤ c → a ≤ℤ b → (c *ℤ a) ≤ℤ (c *ℤ b)
*ℤ-mono (pos k) a b p h = le! (lit k ⊛ var a) (lit k ⊛ var b) (omega (arith, mul-le-mul_left k (le_says a b h)))
*ℤ-mono (negsuc k) a b p h = absurd p.le

pub *ℤ-monoʳ : (c a b : ℤ) → pos 0 ≤ℤ c → a ≤ℤ b → (a *ℤ c) ≤ℤ (b *ℤ c)
*ℤ-monoʳ c a b p h = rw (*ℤ_comm a c, *ℤ_comm b c) (*ℤ-mono c a b p h)

pub *ℤ-nonneg : (x y : ℤ) → pos 0 ≤ℤ x → pos 0 ≤ℤ y → pos 0 ≤ℤ (x *ℤ y)
*ℤ-nonneg (pos a) (pos b) h k = omega ints
*ℤ-nonneg (pos a) (negsuc b) h k = absurd k.le
*ℤ-nonneg (negsuc a) y h k = absurd h.le

-- a positive factor on both sides goes
pub *ℤ-cancel : (k : ℕ) (a b : ℤ) → 0 < k → (pos k *ℤ a) <ℤ (pos k *ℤ b +ℤ pos k) → a ≤ℤ b
*ℤ-cancel k a b one h = ⊎_elim (λ (l : b <ℤ a). absurd (clash l)) (λ (l : a ≤ℤ b). l) (<ℤ-or-≥ℤ b a)
  where
    clash : b <ℤ a → ⊥
    clash l = omega (ints, is (lit k ⊛ var b ⊕ lit k), is (lit k ⊛ var a), mul-le-mul_left k (le? (var b ⊕ lit 1) (var a) (le! (var b ⊕ lit 1) (var a) (omega ints))))

-- a product grows by at most W for each unit, where its first factor is from 0 to W
pub *ℤ-step : (W x y z : ℤ) → pos 0 ≤ℤ x → x ≤ℤ W → y ≤ℤ z → (x *ℤ z) ≤ℤ (x *ℤ y +ℤ W *ℤ (z -ℤ y))
*ℤ-step W x y z l h k = let m = *ℤ-monoʳ (z -ℤ y) x W (le! (lit 0) (var z ⊖ var y) (omega ints)) h in
    le! (var x ⊛ var z) (var x ⊛ var y ⊕ var W ⊛ (var z ⊖ var y)) (omega (arith, le? (var x ⊛ (var z ⊖ var y)) (var W ⊛ (var z ⊖ var y)) m))

-- ---- the size
pub abs_add : (x y : ℤ) → nat_abs (x +ℤ y) ≤ nat_abs x + nat_abs y
abs_add x y = let s = is (var x ⊕ var y) in omega (arith, one_is_zero (x +ℤ y), abs_is (x +ℤ y), abs_is x, abs_is y)

neg_size : (n : ℕ) → nat_abs (neg_ℤ (pos n)) ≡ n
neg_size zero = refl
neg_size (suc n) = refl

pub abs_mul : (x y : ℤ) → nat_abs (x *ℤ y) ≡ nat_abs x * nat_abs y
abs_mul (pos a) (pos b) = refl
abs_mul (pos a) (negsuc b) = neg_size (a * suc b)
abs_mul (negsuc a) (pos b) = neg_size (suc a * b)
abs_mul (negsuc a) (negsuc b) = refl

-- the library's size, lesser and greater are the definitions'
after : (x y : ℤ) → lt_z y x ≡ not (le_z x y)
after (pos a) (pos b) = grind (arith, nat_tests)
after (pos a) (negsuc b) = refl
after (negsuc a) (pos b) = refl
after (negsuc a) (negsuc b) = grind (arith, nat_tests)

turned : (t : Bool) (x y : ℤ) → cond (not t) x y ≡ cond t y x
turned true x y = refl
turned false x y = refl

pub min_same : (x y : ℤ) → int_min x y ≡ min_ℤ x y
unfolding min_ℤ
min_same x y = rw (after x y) (turned (le_z x y) y x)

pub max_same : (x y : ℤ) → int_max x y ≡ max_ℤ x y
unfolding max_ℤ
max_same x y = rw (after x y) (turned (le_z x y) x y)

pub abs_same : (x : ℤ) → pos (nat_abs x) ≡ abs_ℤ x
unfolding abs_ℤ
abs_same x = refl
