-- A whole number below 2^53 in size is a float's exactly, and has bits of its own. Assumes nothing.
use mathlib.Core.Path.{◌≡◌, ap, ◌∙◌}
use mathlib.Core.Bool.{Bool, true, false}
use Prim.Native.Nat.{ℕ, suc, ◌≤◌, ◌<◌, ◌^◌}
use native.Mathlib.Nat.{le_of_lt}
use native.Mathlib.Omega.{arith}
use lib.Dec.{T, le→leb, lt→ltb}
use lib.IntN.{ℤ, pos, negsuc, nat_abs}
use lib.Signed.{mag}
use lib.Ieee.{Float, nan, inf, fin, binary64, in_float, of_int, is_nan}
use lib.Ieee.Exact.{HasValue}
use lib.Ieee.Back.{round_whole}
use mir.Syntax.{w64}
use mir.Val.{SFits}
use mir.Facts.{to_z-of_z}
use Rattle.whole.proofs.Machine.{back}
use Rattle.figures.specs.Ranges.{Below2^53}
use Rattle.figures.specs.declared.limit.Figures.{Figures}
use Rattle.app_feed.specs.Floats.{float, floats_of, HasBits, AllHaveBits}
use Rattle.app_feed.specs.Promised.{IsExactly}

-- what the cast asks
pub in_float_lem : (z : ℤ) → nat_abs z < 2 ^ 53 → T (in_float binary64 z)
unfolding in_float
in_float_lem (pos n) h = le→leb n (2 ^ 53) (le_of_lt h)
in_float_lem (negsuc n) h = lt→ltb n (2 ^ 53) (omega arith)

size_of_signed : (z : ℤ) → mag z ≤ nat_abs z
size_of_signed (pos n) = omega arith
size_of_signed (negsuc n) = omega arith

pub fits_small : (z : ℤ) → nat_abs z < 2 ^ 53 → SFits w64 z
fits_small z h = record { sfits = omega (arith, size_of_signed z) }

-- the float of a number read back from its bits
pub cast : {z : ℤ} {r : Float} → SFits w64 z → r ≡ float (back z) → r ≡ float z
cast f e = e ∙ ap float (to_z-of_z f)

-- its value is the number, and zero is +0.0
pub is_exactly : (z : ℤ) → nat_abs z < 2 ^ 53 → IsExactly (float z) z
unfolding of_int
is_exactly (pos n) h = round_whole binary64 false n (omega arith)
is_exactly (negsuc n) h = round_whole binary64 true (suc n) (omega arith)

valued : (x : Float) (s : Bool) (n : ℕ) → HasValue x s n 1 → HasBits x
unfolding is_nan
valued nan s n h = h
valued (inf t) s n h = tt
valued (fin t m e) s n h = tt

pub has_bits : (z : ℤ) → nat_abs z < 2 ^ 53 → HasBits (float z)
has_bits (pos n) h = valued (float (pos n)) false n (is_exactly (pos n) h)
has_bits (negsuc n) h = valued (float (negsuc n)) true (suc n) (is_exactly (negsuc n) h)

pub all_have_bits : (f : Figures ℤ) → Below2^53 f → AllHaveBits (floats_of f)
unfolding floats_of
all_have_bits f below = record {
  valuation = has_bits f.valuation below.valuation_below;
  market = has_bits f.market below.market_below;
  interest = has_bits f.interest below.interest_below;
  discount = has_bits f.discount below.discount_below;
  limit = has_bits f.limit below.limit_below;
}
