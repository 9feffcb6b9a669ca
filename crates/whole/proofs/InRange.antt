-- Laws of numbers in range: products, the greater and choices of numbers from 0 to k, and what code makes of a sign or of a sum.
-- Assumes nothing.
use mathlib.Core.Path.{◌≡◌, sym, ap, ◌∙◌, subst}
use mathlib.Core.Bool.{Bool, true, false, cond}
use Prim.Native.Nat.{ℕ, ◌+◌, ◌*◌, ◌≤◌, ◌<◌, ◌^◌}
use native.Mathlib.Omega.{arith}
use lib.IntN.{ℤ, pos, neg_ℤ, nat_abs, ◌-ℤ◌, ◌*ℤ◌, +ℤ_idl}
use lib.Signed.{◌≤ℤ◌}
use mir.Syntax.{w64}
use mir.Val.{SFits}
use mir.Facts.{to_z-of_z}
use Rattle.whole.specs.Numbers.{max_ℤ}
use Rattle.whole.specs.Bounds.{◌within◌, ◌upto◌}
use Rattle.whole.proofs.PlusMinus.{abs_is, one_is_zero}
use Rattle.whole.proofs.Expressions.{var, neg, ◌⊕◌, ◌⊔◌, is}
use Rattle.whole.proofs.Machine.{Runs, back}
use Rattle.whole.proofs.Numbers.{≤ℤ-trans, *ℤ-mono, *ℤ-monoʳ, *ℤ-nonneg}
use Rattle.whole.proofs.Rules.{ints}

pub neg_size : (x : ℤ) → nat_abs (neg_ℤ x) ≡ nat_abs x
neg_size x = omega (arith, is (neg (var x)), abs_is x, abs_is (neg_ℤ x), one_is_zero x, one_is_zero (neg_ℤ x))

-- ---- bounds
pub upto_size : {x : ℤ} {k : ℕ} → pos 0 ≤ℤ x → nat_abs x ≤ k → k < 2 ^ 63 → x upto k
upto_size {x} {k} h l m = let a = abs_is x in record { low = h; high = omega ints; fits = omega ints }

pub zero_upto : (k : ℕ) → pos 0 upto k
zero_upto k = record { low = omega ints; high = omega ints; fits = omega ints }

pub product_upto : {x y : ℤ} {A B : ℕ} → x upto A → y upto B → A * B < 2 ^ 63 → (x *ℤ y) upto (A * B)
product_upto {x} {y} {A} {B} h k l =
    let low = *ℤ-nonneg x y h.low k.low in
    let high = ≤ℤ-trans (*ℤ-monoʳ y x (pos A) k.low h.high) (*ℤ-mono (pos A) y (pos B) (omega ints) k.high) in
    record { low = low; high = high; fits = omega ints }

pub max_upto : {x y : ℤ} {k : ℕ} → x upto k → y upto k → k < 2 ^ 63 → max_ℤ x y upto k
max_upto {x} {y} {k} h l b = let m = is (var x ⊔ var y) in record { low = omega ints; high = omega ints; fits = omega ints }

pub choice_upto : (t : Bool) {x y : ℤ} {k : ℕ} → x upto k → y upto k → cond t x y upto k
choice_upto true h l = h
choice_upto false h l = l

pub upto_wider : {x : ℤ} {k : ℕ} (m : ℕ) → x upto k → k ≤ m → x upto m
upto_wider {x} {k} m h l = record { low = h.low; high = omega ints; fits = h.fits }

pub upto_back : {x : ℤ} {k : ℕ} → x upto k → back x upto k
upto_back {x} {k} h = subst (λ (z : ℤ). z upto k) (sym (to_z-of_z h.fits)) h

-- ---- what code makes of `-x`, and of `x + y`
pub negated : {x : ℤ} → SFits w64 x → SFits w64 (pos 0 -ℤ back x) → back (pos 0 -ℤ back x) ≡ neg_ℤ x
negated {x} f g = to_z-of_z g ∙ +ℤ_idl (neg_ℤ (back x)) ∙ ap neg_ℤ (to_z-of_z f)

pub sum_runs : {x y : ℤ} {A B : ℕ} → x within A → y within B → A + B < 2 ^ 63 → Runs (var x ⊕ var y)
sum_runs {x} {y} {A} {B} h k l = omega ints
