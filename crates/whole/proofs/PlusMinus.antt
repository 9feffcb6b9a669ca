-- Each whole number z as plus z − minus z, two natural numbers of which one is 0. `omega` reads natural numbers alone; at a variable
-- the two are stuck, so they are its unknowns. Here is what orders, sums and sizes say of them: `..-says` reads a hypothesis over ℤ,
-- `..-by` proves a goal over ℤ, `..-is` is what an operation comes to.
-- Assumes nothing.
use mathlib.Core.Path.{◌≡◌, refl, ap}
use mathlib.Core.Bool.{Bool, true, false, not, cond}
use Prim.Native.Nat.{ℕ, zero, suc, ◌+◌, ◌-◌, ◌<◌, ◌≤◌, min}
use native.Mathlib.Omega.{arith}
use lib.Dec.{T, ltb, ltb→lt, nltb→le, leb→le, nleb→lt, le→leb, lt→ltb}
use lib.IntN.{ℤ, pos, negsuc, neg_ℤ, nat_abs, sub_ℕ, ◌+ℤ◌, ◌-ℤ◌}
use lib.Signed.{le_z, ◌≤ℤ◌, ◌<ℤ◌}

abbrev pub plus : ℤ → ℕ
plus (pos n) = n
plus (negsuc n) = 0

abbrev pub minus : ℤ → ℕ
minus (pos n) = 0
minus (negsuc n) = suc n

pub one_is_zero : (x : ℤ) → min (plus x) (minus x) ≡ 0
one_is_zero (pos n) = omega arith
one_is_zero (negsuc n) = omega arith

-- the order
pub le_says : (x y : ℤ) → x ≤ℤ y → plus x + minus y ≤ plus y + minus x
le_says (pos a) (pos b) h = let k = leb→le a b h.le in omega arith
le_says (pos a) (negsuc b) h = absurd h.le
le_says (negsuc a) (pos b) h = omega arith
le_says (negsuc a) (negsuc b) h = let k = leb→le b a h.le in omega arith

pub le_by : (x y : ℤ) → plus x + minus y ≤ plus y + minus x → x ≤ℤ y
le_by (pos a) (pos b) h = record { le = le→leb a b (omega arith) }
le_by (pos a) (negsuc b) h = absurd (omega arith)
le_by (negsuc a) (pos b) h = record { le = tt }
le_by (negsuc a) (negsuc b) h = record { le = le→leb b a (omega arith) }

pub lt_says : (x y : ℤ) → x <ℤ y → plus x + minus y < plus y + minus x
lt_says (pos a) (pos b) h = let k = ltb→lt a b h.lt in omega arith
lt_says (pos a) (negsuc b) h = absurd h.lt
lt_says (negsuc a) (pos b) h = omega arith
lt_says (negsuc a) (negsuc b) h = let k = ltb→lt b a h.lt in omega arith

pub lt_by : (x y : ℤ) → plus x + minus y < plus y + minus x → x <ℤ y
lt_by (pos a) (pos b) h = record { lt = lt→ltb a b (omega arith) }
lt_by (pos a) (negsuc b) h = absurd (omega arith)
lt_by (negsuc a) (pos b) h = record { lt = tt }
lt_by (negsuc a) (negsuc b) h = record { lt = lt→ltb b a (omega arith) }

pub not_le_says : (x y : ℤ) → T (not (le_z x y)) → plus y + minus x < plus x + minus y
not_le_says (pos a) (pos b) t = let k = nleb→lt a b t in omega arith
not_le_says (pos a) (negsuc b) t = omega arith
not_le_says (negsuc a) (pos b) t = absurd t
not_le_says (negsuc a) (negsuc b) t = let k = nleb→lt b a t in omega arith

pub eq_says : (x y : ℤ) → x ≡ y → plus x + minus y ≡ plus y + minus x
eq_says x y e = let p = ap plus e in let n = ap minus e in omega arith

pub eq_by : (x y : ℤ) → plus x + minus y ≡ plus y + minus x → x ≡ y
eq_by (pos a) (pos b) h = ap pos (omega arith)
eq_by (pos a) (negsuc b) h = absurd (omega arith)
eq_by (negsuc a) (pos b) h = absurd (omega arith)
eq_by (negsuc a) (negsuc b) h = ap negsuc (omega arith)

-- a choice by a test, whichever way the test goes
pub either_way : (c : Bool) (x y : ℤ) (Q : ℤ → Type 0) → (T c → Q x) → (T (not c) → Q y) → Q (cond c x y)
either_way true x y Q f g = f tt
either_way false x y Q f g = g tt

-- sums, differences, the negative
subℕ_is : (a b : ℕ) → plus (sub_ℕ a b) + b ≡ a + minus (sub_ℕ a b)
subℕ_is a b = either_way (ltb a b) (negsuc (b - suc a)) (pos (a - b)) (λ z. plus z + b ≡ a + minus z)
    (λ t. let k = ltb→lt a b t in omega arith) (λ t. let k = nltb→le a b t in omega arith)

pub add_is : (x y : ℤ) → plus (x +ℤ y) + (minus x + minus y) ≡ (plus x + plus y) + minus (x +ℤ y)
add_is (pos a) (pos b) = omega arith
add_is (pos a) (negsuc b) = omega (arith, subℕ_is a (suc b))
add_is (negsuc a) (pos b) = omega (arith, subℕ_is b (suc a))
add_is (negsuc a) (negsuc b) = omega arith

pub neg_is : (x : ℤ) → plus (neg_ℤ x) + plus x ≡ minus x + minus (neg_ℤ x)
neg_is (pos zero) = omega arith
neg_is (pos (suc n)) = omega arith
neg_is (negsuc n) = omega arith

pub sub_is : (x y : ℤ) → plus (x -ℤ y) + (minus x + plus y) ≡ (plus x + minus y) + minus (x -ℤ y)
sub_is x y = omega (arith, add_is x (neg_ℤ y), neg_is y)

-- the negative of a natural number
pub neg_plus : (n : ℕ) → plus (neg_ℤ (pos n)) ≡ 0
neg_plus zero = refl
neg_plus (suc n) = refl

pub neg_minus : (n : ℕ) → minus (neg_ℤ (pos n)) ≡ n
neg_minus zero = refl
neg_minus (suc n) = refl

-- the size
pub abs_is : (x : ℤ) → nat_abs x ≡ plus x + minus x
abs_is (pos n) = omega arith
abs_is (negsuc n) = omega arith
