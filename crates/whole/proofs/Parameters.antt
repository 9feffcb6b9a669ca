-- Laws of a call's signed numbers, which code reads back from their bits: what a test of one says, and one from 0 up as an index; and the rules by
-- which `search codes` finds a code from the tests that were made.
-- Assumes nothing.
use mathlib.Core.Path.{◌≡◌, refl, sym, ap, ◌∙◌}
use mathlib.Core.Bool.{Bool, true, false, not}
use Prim.Native.Nat.{ℕ, ◌≤◌, ◌<◌, ◌^◌}
use native.Mathlib.Omega.{arith}
use lib.Dec.{T}
use lib.IntN.{ℤ, pos, negsuc, nat_abs}
use lib.Signed.{le_z, lt_z, non_neg}
use mir.Syntax.{w64}
use mir.Val.{Fits, SFits}
use mir.Facts.{to_z-of_z}
use borrow.Author.Tests.{eq-eqb, ne_eqb, le-leb, le-ltb}
use Rattle.whole.specs.Bounds.{between}
use Rattle.whole.proofs.Bounds.{amid}
use Rattle.whole.proofs.Machine.{back}
use Rattle.whole.proofs.PlusMinus.{abs_is, one_is_zero}
use Rattle.whole.proofs.Refusals.{none, hit, miss, code}
use Rattle.whole.proofs.Rules.{ints}
use Rattle.whole.proofs.Tests.{tests, left, taken, denied, refuted, either_left, either_right, neither}

-- ---- what a test of a parameter said
pub heard : {r : Bool} {x : ℤ} (low high : ℤ) → SFits w64 x → r ≡ between low (back x) high → r ≡ between low x high
heard low high f e = e ∙ ap (λ (z : ℤ). between low z high) (to_z-of_z f)

module _ {r : Bool} {x : ℤ} (low high : ℤ) (f : SFits w64 x) (e : r ≡ between low (back x) high) where
  pub in_range : not r ≡ false → between low x high ≡ true
  in_range = left (heard low high f e)

  pub out_of_range : not r ≡ true → between low x high ≡ false
  out_of_range = taken (heard low high f e)

pub ruleset codes = (tests, code, hit, miss, none, in_range, out_of_range, eq-eqb, ne_eqb, denied, refuted, either_left, either_right, neither)

-- ---- a number that was found between 0 and n, as an index
pub index_is : (x : ℤ) (n : ℕ) → between (pos 0) x (pos n) ≡ true → nat_abs x ≤ n
index_is x n e = let a = amid e in omega (ints, abs_is x, one_is_zero x)

pub index : {x : ℤ} (n : ℕ) → n < 2 ^ 64 → SFits w64 x → between (pos 0) x (pos n) ≡ true → T (non_neg (back x)) × Fits w64 (nat_abs (back x))
index {x} n l f e = let a = amid e in rw (to_z-of_z f) (omega ints, record { fits = let h = index_is x n e in omega arith })

-- ---- a test that says what is not out
not_not : (b : Bool) → not (not b) ≡ b
not_not true = refl
not_not false = refl

pub out : {r t : Bool} → r ≡ not t → not r ≡ true → t ≡ true
out {r} {t} e h = sym (not_not t) ∙ ap not (sym e) ∙ h

pub not_out : {r t : Bool} → r ≡ not t → not r ≡ false → t ≡ false
not_out {r} {t} e h = sym (not_not t) ∙ ap not (sym e) ∙ h

-- ---- the two ways to ask for a sign
pub not_negative : (z : ℤ) → le_z (pos 0) z ≡ not (lt_z z (pos 0))
not_negative (pos n) = rw (le-leb 0 n (omega arith), le-ltb n 0 (omega arith)) refl
not_negative (negsuc n) = refl

pub negative : (z : ℤ) → lt_z z (pos 0) ≡ not (le_z (pos 0) z)
negative z = sym (ap not (not_negative z) ∙ not_not (lt_z z (pos 0)))
