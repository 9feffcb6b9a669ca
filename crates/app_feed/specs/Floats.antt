-- Document 02, #102: the five figures of a report as one record of floats, and the five 64-bit numbers that carry the floats' bits in report order.
-- A float is a value of IEEE 754's binary64, as the kit's library has it.
-- Assumes nothing.
use Rattle.std.specs.Prelude.{Bool, not, List, map, ℕ, T, ℤ, pos, neg_ℤ, get_or, Float}
use Rattle.std.specs.Float.{binary64}
use Rattle.std.specs.Float.Ieee.{of_int, to_bits, of_bits, is_nan}
use Rattle.whole.specs.Bounds.{between}
use Rattle.whole.specs.Marks.{all_true}
use Rattle.figures.specs.Limit.{five, EachFigure}
use Rattle.figures.specs.declared.limit.Figures.{Figures}

-- a whole number of kopecks as a float
abbrev pub float : ℤ → Float
float kopecks = of_int binary64 kopecks

unfoldable pub floats_of : Figures ℤ → Figures Float
floats_of f = record {
  valuation = float f.valuation;
  market = float f.market;
  interest = float f.interest;
  discount = float f.discount;
  limit = float f.limit;
}

-- below 2^53 in size, where a float is exactly the whole number; and of all five figures
abbrev pub most_exact : ℕ
most_exact = 9007199254740991

abbrev pub is_below : ℤ → Bool
is_below kopecks = between (neg_ℤ (pos most_exact)) kopecks (pos most_exact)

unfoldable pub all_below : Figures ℤ → Bool
all_below f = all_true (map is_below (five f))

-- a record as five numbers, in report order, and five numbers as a record
unfoldable pub bits_of : Figures Float → List ℕ
bits_of x = map (to_bits binary64) (five x)

abbrev pub float_at : List ℕ → ℕ → Float
float_at bits k = of_bits binary64 (get_or bits k 0)

unfoldable pub floats_at : List ℕ → Figures Float
floats_at bits = record { valuation = float_at bits 0; market = float_at bits 1; interest = float_at bits 2; discount = float_at bits 3; limit = float_at bits 4 }

-- a float that has bits of its own: every one but a NaN, whose sign and payload the language does not hold
abbrev pub HasBits : Float → Type 0
HasBits x = T (not (is_nan x))

abbrev pub AllHaveBits : Figures Float → Type 0
AllHaveBits x = EachFigure HasBits x
