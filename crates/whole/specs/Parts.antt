-- A part of a list: the n elements from place a on, and the list with that part replaced. Rows, blocks, assets and dates are parts.
-- Assumes nothing.
use Rattle.std.specs.Prelude.{List, [], ◌∷◌, ◌++◌, ℕ, zero, suc, ℤ, pos, take, drop, get_or}

-- the n elements from place a on
unfoldable pub part : {A : Type 0} → ℕ → ℕ → List A → List A
part a n xs = take n (drop a xs)

-- xs with its n elements from place a on replaced by ys
unfoldable pub put : {A : Type 0} → ℕ → ℕ → List A → List A → List A
put a n xs ys = take a xs ++ (ys ++ drop n (drop a xs))

-- number k of a list of numbers: a row's, a block's, a holding's
abbrev pub number : List ℤ → ℕ → ℤ
number numbers k = get_or numbers k (pos 0)

-- the list f 0, f 1, .., f (n − 1)
unfoldable pub tabulated : {A : Type 0} → ℕ → (ℕ → A) → List A
tabulated zero f = []
tabulated (suc n) f = tabulated n f ++ (f n ∷ [])
