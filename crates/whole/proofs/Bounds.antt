-- Laws of the bounds, and what the test `between` says. Assumes nothing.
use mathlib.Core.Path.{◌≡◌, refl, sym, ap, ◌∙◌, subst}
use mathlib.Core.Bool.{Bool, true, false, ◌&&◌}
use mathlib.Core.Logic.{◌≢◌}
use Prim.Native.Nat.{ℕ, ◌*◌, ◌≤◌, ◌<◌, ◌^◌}
use native.Mathlib.Omega.{arith}
use lib.Dec.{T, eqb}
use lib.IntN.{ℤ, pos, nat_abs, ◌*ℤ◌}
use lib.Signed.{le_z, ◌≤ℤ◌}
use native.Mathlib.Nat.{mul-le-mul}
use borrow.Author.Tests.{eqb-true, eq-eqb}
use mir.Syntax.{w64}
use mir.Val.{SFits, of_z, to_z}
use mir.Facts.{to_z-of_z}
use Rattle.whole.specs.Bounds.{between, equal, ◌within◌, ◌upto◌}
use Rattle.whole.proofs.PlusMinus.{abs_is, one_is_zero}
use Rattle.whole.proofs.Expressions.{var}
use Rattle.whole.proofs.Machine.{back, fits! }
use Rattle.whole.proofs.Numbers.{≤ℤ-antisym, abs_mul}
use Rattle.whole.proofs.Rules.{ints}

pub within_fits : (x : ℤ) (k : ℕ) → nat_abs x ≤ k → k < 2 ^ 63 → x within k
within_fits x k h l = record { size = h; fits = fits! (var x) (omega (arith, abs_is x)) }

pub wider : {x : ℤ} {k : ℕ} (m : ℕ) → x within k → k ≤ m → x within m
wider m h l = record { size = let s = h.size in omega arith; fits = h.fits }

pub upto_within : {x : ℤ} {k : ℕ} → x upto k → x within k
upto_within {x} {k} h = record { size = omega (ints, abs_is x, one_is_zero x); fits = h.fits }

pub product_within : {x y : ℤ} {A B : ℕ} → x within A → y within B → A * B < 2 ^ 63 → (x *ℤ y) within (A * B)
product_within {x} {y} {A} {B} h k l = within_fits (x *ℤ y) (A * B) (rw (abs_mul x y) (mul-le-mul h.size k.size)) l

-- ---- what `between` says: hand `amid e` to `omega ints`
pub record Amid (low x high : ℤ) : Type 0 where
  pub from : low ≤ℤ x
  pub to : x ≤ℤ high

both : (a b : Bool) → a && b ≡ true → T a × T b
both true true e = (tt, tt)
both true false e = absurd (subst T (sym e) tt)
both false b e = absurd (subst T (sym e) tt)

pub amid : {low x high : ℤ} → between low x high ≡ true → Amid low x high
unfolding between
amid {low} {x} {high} e = let t = both (le_z low x) (le_z x high) e in record { from = record { le = t.0 }; to = record { le = t.1 } }

pub between_yes : {low x high : ℤ} → low ≤ℤ x → x ≤ℤ high → between low x high ≡ true
unfolding between
between_yes {low} {x} {high} h k = yes (le_z low x) (le_z x high) h.le k.le
  where
    yes : (a b : Bool) → T a → T b → a && b ≡ true
    yes true true s t = refl
    yes true false s t = absurd t
    yes false b s t = absurd s

pub le_yes : {x y : ℤ} → x ≤ℤ y → le_z x y ≡ true
le_yes {x} {y} h = yes (le_z x y) h.le
  where
    yes : (a : Bool) → T a → a ≡ true
    yes true t = refl
    yes false t = absurd t

-- two tests that ask the same
pub between_same : (low x high low' x' high' : ℤ) → (low ≤ℤ x → low' ≤ℤ x') → (low' ≤ℤ x' → low ≤ℤ x) → (x ≤ℤ high → x' ≤ℤ high') → (x' ≤ℤ high' → x ≤ℤ high)
    → between low x high ≡ between low' x' high'
unfolding between
between_same low x high low' x' high' a b c d =
    and_same (same (le_z low x) (le_z low' x') (λ t. (a (record { le = t })).le) (λ t. (b (record { le = t })).le))
    (same (le_z x high) (le_z x' high') (λ t. (c (record { le = t })).le) (λ t. (d (record { le = t })).le))
  where
    same : (s t : Bool) → (T s → T t) → (T t → T s) → s ≡ t
    same true true f g = refl
    same true false f g = absurd (f tt)
    same false true f g = absurd (g tt)
    same false false f g = refl

    and_same : {s t s' t' : Bool} → s ≡ s' → t ≡ t' → s && t ≡ s' && t'
    and_same e f = rw (e, f) refl

pub equal_says : {x y : ℤ} → equal x y ≡ true → x ≡ y
equal_says e = let a = amid e in ≤ℤ-antisym a.to a.from

pub equal_yes : {x y : ℤ} → x ≡ y → equal x y ≡ true
equal_yes {x} {y} e = between_yes (omega (ints, e)) (omega (ints, e))

pub not_equal : {x y : ℤ} → x ≢ y → equal x y ≡ false
not_equal {x} {y} h = no (equal x y) refl
  where
    no : (a : Bool) → equal x y ≡ a → a ≡ false
    no true e = absurd (h (equal_says e))
    no false e = refl

pub upto_by : {x : ℤ} {k : ℕ} → k < 2 ^ 63 → between (pos 0) x (pos k) ≡ true → x upto k
upto_by {x} {k} l e = let a = amid e in record { low = a.from; high = a.to; fits = omega ints }

-- three numbers that fit, read back
pub between_back : {low x high : ℤ} → SFits w64 low → SFits w64 x → SFits w64 high → between (back low) (back x) (back high) ≡ between low x high
between_back f g h = simp (to_z-of_z f, to_z-of_z g, to_z-of_z h)

-- two numbers that fit are one exactly where their bits are
pub same_bits : {x y : ℤ} → SFits w64 x → SFits w64 y → eqb (of_z w64 x) (of_z w64 y) ≡ equal x y
same_bits {x} {y} f g = by (eqb (of_z w64 x) (of_z w64 y)) (equal x y) refl refl
  where
    by : (a b : Bool) → eqb (of_z w64 x) (of_z w64 y) ≡ a → equal x y ≡ b → a ≡ b
    by true b e h = sym (equal_yes (sym (to_z-of_z f) ∙ ap (to_z w64) (eqb-true (of_z w64 x) (of_z w64 y) e) ∙ to_z-of_z g)) ∙ h
    by false true e h = sym e ∙ eq-eqb (of_z w64 x) (of_z w64 y) (ap (of_z w64) (equal_says h))
    by false false e h = refl

pub same_literal : {x : ℤ} (n : ℕ) → n < 2 ^ 63 → SFits w64 x → eqb (of_z w64 x) n ≡ equal x (pos n)
same_literal n l f = same_bits f (record { sfits = l })
