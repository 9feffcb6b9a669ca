-- Bounds: the test that a number lies between two others, as definitions write it, and the two bounds that contracts state of an
-- i64. Both carry that the number fits, which a caller needs of every i64 that it is handed.
-- Assumes nothing.
use Rattle.std.specs.Prelude.{Bool, ◌&&◌, ℕ, ◌≤◌, ℤ, pos, nat_abs, ◌≤ℤ◌}
use Rattle.std.specs.Int.Signed.{le_z}
use Rattle.std.specs.Int.{w64}
use Rattle.std.proofs.Common.{SFits}

-- low ≤ x ≤ high, as a test
unfoldable pub between : ℤ → ℤ → ℤ → Bool
between low x high = le_z low x && le_z x high

-- x = y, as a test
abbrev pub equal : ℤ → ℤ → Bool
equal x y = between y x y

abbrev pub is_zero : ℤ → Bool
is_zero x = equal x (pos 0)

-- an i64 from −k to k
infix 50 ◌within◌
pub record ◌within◌ (x : ℤ) (k : ℕ) : Type 0 where
  pub size : nat_abs x ≤ k
  pub fits : SFits w64 x

-- an i64 from 0 to k
infix 50 ◌upto◌
pub record ◌upto◌ (x : ℤ) (k : ℕ) : Type 0 where
  pub low : pos 0 ≤ℤ x
  pub high : x ≤ℤ pos k
  pub fits : SFits w64 x
