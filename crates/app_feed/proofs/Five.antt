-- Lists of five: five stores fill one, and it is its five elements. Assumes nothing.
use mathlib.Core.Path.{◌≡◌, refl}
use mathlib.Core.List.{List, [], ◌∷◌}
use native.Mathlib.Omega.{arith}
use lib.ListN.{length, set, get_or}

pub filled : {A : Type 0} (xs : List A) → length xs ≡ 5 → (a b c d e : A) → set (set (set (set (set xs 0 a) 1 b) 2 c) 3 d) 4 e ≡ a ∷ b ∷ c ∷ d ∷ e ∷ []
filled [] l a b c d e = absurd (omega arith)
filled (x ∷ []) l a b c d e = absurd (omega arith)
filled (x ∷ y ∷ []) l a b c d e = absurd (omega arith)
filled (x ∷ y ∷ z ∷ []) l a b c d e = absurd (omega arith)
filled (x ∷ y ∷ z ∷ u ∷ []) l a b c d e = absurd (omega arith)
filled (x ∷ y ∷ z ∷ u ∷ v ∷ []) l a b c d e = refl
filled (x ∷ y ∷ z ∷ u ∷ v ∷ w ∷ xs) l a b c d e = absurd (omega arith)

-- a list of five is its five elements
pub as_five : {A : Type 0} (z : A) (xs : List A) → length xs ≡ 5 → get_or xs 0 z ∷ get_or xs 1 z ∷ get_or xs 2 z ∷ get_or xs 3 z ∷ get_or xs 4 z ∷ [] ≡ xs
as_five z [] l = absurd (omega arith)
as_five z (a ∷ []) l = absurd (omega arith)
as_five z (a ∷ b ∷ []) l = absurd (omega arith)
as_five z (a ∷ b ∷ c ∷ []) l = absurd (omega arith)
as_five z (a ∷ b ∷ c ∷ d ∷ []) l = absurd (omega arith)
as_five z (a ∷ b ∷ c ∷ d ∷ e ∷ []) l = refl
as_five z (a ∷ b ∷ c ∷ d ∷ e ∷ f ∷ xs) l = absurd (omega arith)
