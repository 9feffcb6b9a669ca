-- Expressions over ℤ with their value and, beside it, two natural numbers whose difference it is: what `omega` reads. A fact about a
-- nested term is proved by naming the two expressions: `le! (var x ⊕ var y) (var z) (omega ints)`; products are multiplied out.
-- Assumes nothing.
use mathlib.Core.Path.{◌≡◌, refl, sym, ap, ◌∙◌}
use Prim.Native.Nat.{ℕ, zero, suc, ◌+◌, ◌*◌, ◌-◌, ◌/◌, ◌<◌, ◌≤◌, min, max}
use native.Mathlib.Nat.{zero-div, div-eq_of_lt}
use native.Mathlib.Omega.{arith}
use lib.IntN.{ℤ, pos, negsuc, neg_ℤ, ◌+ℤ◌, ◌-ℤ◌, ◌*ℤ◌}
use lib.Signed.{le_z, ◌≤ℤ◌, ◌<ℤ◌}
use Rattle.whole.specs.Numbers.{min_ℤ, max_ℤ, abs_ℤ, divided_down, divided_up, ceiling}
use Rattle.whole.proofs.PlusMinus.{plus, minus, le_says, le_by, lt_says, lt_by, not_le_says, eq_says, eq_by, either_way, add_is, neg_is, sub_is, neg_plus, neg_minus, abs_is, one_is_zero}

infixl 6 ◌⊕◌ ◌⊖◌
infixl 7 ◌⊛◌
infixl 8 ◌⊓◌ ◌⊔◌ ◌÷↓◌ ◌÷↑◌
pub data Expression : Type 0 where
  var : ℤ → Expression
  lit : ℕ → Expression
  neg size : Expression → Expression
  ◌⊕◌ ◌⊖◌ ◌⊛◌ ◌⊓◌ ◌⊔◌ : Expression → Expression → Expression
  ◌÷↓◌ ◌÷↑◌ : Expression → ℕ → Expression

abbrev pub value : Expression → ℤ
value (var x) = x
value (lit n) = pos n
value (neg a) = neg_ℤ (value a)
value (size a) = abs_ℤ (value a)
value (a ⊕ b) = value a +ℤ value b
value (a ⊖ b) = value a -ℤ value b
value (a ⊛ b) = value a *ℤ value b
value (a ⊓ b) = min_ℤ (value a) (value b)
value (a ⊔ b) = max_ℤ (value a) (value b)
value (a ÷↓ k) = divided_down (value a) k
value (a ÷↑ k) = divided_up (value a) k

pub record Difference : Type 0 where
  pub p : ℕ
  pub n : ℕ

abbrev pub split : Expression → Difference
split (var x) = record { p = plus x; n = minus x }
split (lit k) = record { p = k; n = 0 }
split (neg a) = record { p = (split a).n; n = (split a).p }
split (size a) = record { p = max ((split a).p + (split a).p) ((split a).n + (split a).n); n = (split a).p + (split a).n }
split (a ⊕ b) = record { p = (split a).p + (split b).p; n = (split a).n + (split b).n }
split (a ⊖ b) = record { p = (split a).p + (split b).n; n = (split a).n + (split b).p }
split (a ⊛ b) = record { p = (split a).p * (split b).p + (split a).n * (split b).n; n = (split a).p * (split b).n + (split a).n * (split b).p }
split (a ⊓ b) = record { p = min ((split a).p + (split b).n) ((split b).p + (split a).n); n = (split a).n + (split b).n }
split (a ⊔ b) = record { p = max ((split a).p + (split b).n) ((split b).p + (split a).n); n = (split a).n + (split b).n }
split (a ÷↓ k) = record { p = ((split a).p - (split a).n) / k; n = ceiling ((split a).n - (split a).p) k }
split (a ÷↑ k) = record { p = ceiling ((split a).p - (split a).n) k; n = ((split a).n - (split a).p) / k }

-- z is the difference p − n
abbrev Is : ℤ → ℕ → ℕ → Type 0
Is z p n = plus z + n ≡ p + minus z

is_size : (x : ℤ) (p n : ℕ) → Is x p n → Is (abs_ℤ x) (max (p + p) (n + n)) (p + n)
unfolding abs_ℤ
is_size x p n h = omega (arith, abs_is x, one_is_zero x)

is_min : (x y : ℤ) (p n q m : ℕ) → Is x p n → Is y q m → Is (min_ℤ x y) (min (p + m) (q + n)) (n + m)
unfolding min_ℤ
is_min x y p n q m h k = either_way (le_z x y) x y (λ z. Is z (min (p + m) (q + n)) (n + m))
    (λ t. let w = le_says x y (record { le = t }) in omega arith) (λ t. let w = not_le_says x y t in omega arith)

is_max : (x y : ℤ) (p n q m : ℕ) → Is x p n → Is y q m → Is (max_ℤ x y) (max (p + m) (q + n)) (n + m)
unfolding max_ℤ
is_max x y p n q m h k = either_way (le_z x y) y x (λ z. Is z (max (p + m) (q + n)) (n + m))
    (λ t. let w = le_says x y (record { le = t }) in omega arith) (λ t. let w = not_le_says x y t in omega arith)

mul_plus : (x y : ℤ) → plus (x *ℤ y) ≡ plus x * plus y + minus x * minus y
mul_plus (pos a) (pos b) = omega arith
mul_plus (pos a) (negsuc b) = neg_plus (a * suc b) ∙ omega arith
mul_plus (negsuc a) (pos b) = neg_plus (suc a * b) ∙ omega arith
mul_plus (negsuc a) (negsuc b) = omega arith

mul_minus : (x y : ℤ) → minus (x *ℤ y) ≡ plus x * minus y + minus x * plus y
mul_minus (pos a) (pos b) = omega arith
mul_minus (pos a) (negsuc b) = neg_minus (a * suc b) ∙ omega arith
mul_minus (negsuc a) (pos b) = neg_minus (suc a * b) ∙ omega arith
mul_minus (negsuc a) (negsuc b) = omega arith

-- two differences multiply crosswise
cross : (a b p n c d q m : ℕ) → a + n ≡ p + b → c + m ≡ q + d → (a * c + b * d) + (p * m + n * q) ≡ (p * q + n * m) + (a * d + b * c)
cross a b p n c d q m h k = omega (arith, ap (λ (t : ℕ). t * c) h, ap (λ (t : ℕ). t * d) h, ap (λ (t : ℕ). p * t) k, ap (λ (t : ℕ). n * t) k)

is_mul : (x y : ℤ) (p n q m : ℕ) → Is x p n → Is y q m → Is (x *ℤ y) (p * q + n * m) (p * m + n * q)
is_mul x y p n q m h k = omega (arith, mul_plus x y, mul_minus x y, cross (plus x) (minus x) p n (plus y) (minus y) q m h k)

-- quotients: the parts of a quotient are the quotients of the parts
pub ceiling_zero : (k : ℕ) → ceiling 0 k ≡ 0
ceiling_zero zero = refl
ceiling_zero (suc k) = ap (λ (t : ℕ). t / suc k) (let e : 0 + (suc k - 1) ≡ k = omega arith in e) ∙ less k
  where
    less : (k : ℕ) → k / suc k ≡ 0
    less k = div-eq_of_lt (let h : k < suc k = omega arith in h)

pub down_plus : (x : ℤ) (k : ℕ) → plus (divided_down x k) ≡ plus x / k
unfolding divided_down
down_plus (pos n) k = refl
down_plus (negsuc n) k = neg_plus (ceiling (suc n) k) ∙ sym (zero-div k)

pub down_minus : (x : ℤ) (k : ℕ) → minus (divided_down x k) ≡ ceiling (minus x) k
unfolding divided_down
down_minus (pos n) k = sym (ceiling_zero k)
down_minus (negsuc n) k = neg_minus (ceiling (suc n) k)

pub up_plus : (x : ℤ) (k : ℕ) → plus (divided_up x k) ≡ ceiling (plus x) k
unfolding divided_up
up_plus (pos n) k = refl
up_plus (negsuc n) k = neg_plus (suc n / k) ∙ sym (ceiling_zero k)

pub up_minus : (x : ℤ) (k : ℕ) → minus (divided_up x k) ≡ minus x / k
unfolding divided_up
up_minus (pos n) k = sym (zero-div k)
up_minus (negsuc n) k = neg_minus (suc n / k)

-- a difference of which the greater is taken from the less leaves the parts
plus_of : (x : ℤ) (p n : ℕ) → Is x p n → plus x ≡ p - n
plus_of x p n h = omega (arith, one_is_zero x)

minus_of : (x : ℤ) (p n : ℕ) → Is x p n → minus x ≡ n - p
minus_of x p n h = omega (arith, one_is_zero x)

-- two parts that are each equal make a difference that is
parts : (z : ℤ) (p n : ℕ) → plus z ≡ p → minus z ≡ n → Is z p n
parts z p n h k = omega arith

pub is : (e : Expression) → Is (value e) (split e).p (split e).n
is (var x) = omega arith
is (lit k) = omega arith
is (neg a) = let h = is a in omega (arith, neg_is (value a))
is (size a) = is_size (value a) (split a).p (split a).n (is a)
is (a ⊕ b) = let h = is a in let k = is b in omega (arith, add_is (value a) (value b))
is (a ⊖ b) = let h = is a in let k = is b in omega (arith, sub_is (value a) (value b))
is (a ⊛ b) = is_mul (value a) (value b) (split a).p (split a).n (split b).p (split b).n (is a) (is b)
is (a ⊓ b) = is_min (value a) (value b) (split a).p (split a).n (split b).p (split b).n (is a) (is b)
is (a ⊔ b) = is_max (value a) (value b) (split a).p (split a).n (split b).p (split b).n (is a) (is b)
is (a ÷↓ k) = parts (divided_down (value a) k) (((split a).p - (split a).n) / k) (ceiling ((split a).n - (split a).p) k)
    (down_plus (value a) k ∙ ap (λ (t : ℕ). t / k) (plus_of (value a) (split a).p (split a).n (is a)))
    (down_minus (value a) k ∙ ap (λ (t : ℕ). ceiling t k) (minus_of (value a) (split a).p (split a).n (is a)))
is (a ÷↑ k) = parts (divided_up (value a) k) (ceiling ((split a).p - (split a).n) k) (((split a).n - (split a).p) / k)
    (up_plus (value a) k ∙ ap (λ (t : ℕ). ceiling t k) (plus_of (value a) (split a).p (split a).n (is a)))
    (up_minus (value a) k ∙ ap (λ (t : ℕ). t / k) (minus_of (value a) (split a).p (split a).n (is a)))

-- what is proved of two expressions, and what a fact about them says
pub le! : (e f : Expression) → (split e).p + (split f).n ≤ (split f).p + (split e).n → value e ≤ℤ value f
le! e f h = le_by (value e) (value f) (omega (arith, is e, is f))

pub lt! : (e f : Expression) → (split e).p + (split f).n < (split f).p + (split e).n → value e <ℤ value f
lt! e f h = lt_by (value e) (value f) (omega (arith, is e, is f))

pub eq! : (e f : Expression) → (split e).p + (split f).n ≡ (split f).p + (split e).n → value e ≡ value f
eq! e f h = eq_by (value e) (value f) (omega (arith, is e, is f))

pub le? : (e f : Expression) → value e ≤ℤ value f → (split e).p + (split f).n ≤ (split f).p + (split e).n
le? e f h = omega (arith, le_says (value e) (value f) h, is e, is f)

pub lt? : (e f : Expression) → value e <ℤ value f → (split e).p + (split f).n < (split f).p + (split e).n
lt? e f h = omega (arith, lt_says (value e) (value f) h, is e, is f)

pub eq? : (e f : Expression) → value e ≡ value f → (split e).p + (split f).n ≡ (split f).p + (split e).n
eq? e f h = omega (arith, eq_says (value e) (value f) h, is e, is f)
