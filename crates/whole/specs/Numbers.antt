-- Whole numbers: the lesser and the greater of two, the size of one, and quotients rounded down and up. Document 01 writes
-- its rules over ℤ, where nothing wraps; ℤ, its order, sums and products are the library's. Every definition computes.
-- Assumes nothing.
use Rattle.std.specs.Prelude.{cond, ℕ, suc, ◌+◌, ◌-◌, ◌/◌, ℤ, pos, negsuc, neg_ℤ, nat_abs}
use Rattle.std.specs.Int.Signed.{le_z}

unfoldable pub min_ℤ : ℤ → ℤ → ℤ
min_ℤ x y = cond (le_z x y) x y

unfoldable pub max_ℤ : ℤ → ℤ → ℤ
max_ℤ x y = cond (le_z x y) y x

-- the size |x|
unfoldable pub abs_ℤ : ℤ → ℤ
abs_ℤ x = pos (nat_abs x)

-- the quotient of a natural number, rounded up
abbrev pub ceiling : ℕ → ℕ → ℕ
ceiling n k = (n + (k - 1)) / k

-- x / k rounded down, toward minus infinity
unfoldable pub divided_down : ℤ → ℕ → ℤ
divided_down (pos n) k = pos (n / k)
divided_down (negsuc n) k = neg_ℤ (pos (ceiling (suc n) k))

-- x / k rounded up, toward plus infinity
unfoldable pub divided_up : ℤ → ℕ → ℤ
divided_up (pos n) k = pos (ceiling n k)
divided_up (negsuc n) k = neg_ℤ (pos (suc n / k))
