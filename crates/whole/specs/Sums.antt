-- Sums over 0, 1, .., n − 1. Assumes nothing.
use Rattle.std.specs.Prelude.{Bool, cond, ℕ, zero, suc, ℤ, pos, ◌+ℤ◌}

-- f 0 + f 1 + .. + f (n − 1)
unfoldable pub Σ< : ℕ → (ℕ → ℤ) → ℤ
Σ< zero f = pos 0
Σ< (suc n) f = Σ< n f +ℤ f n

-- the same over those of them that pass a test
unfoldable pub Σ<on : ℕ → (ℕ → Bool) → (ℕ → ℤ) → ℤ
Σ<on n on f = Σ< n (λ j. cond (on j) (f j) (pos 0))
