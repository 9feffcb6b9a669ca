-- Document 01, "Sums to be met": row A, of which sums and examples are made. Kind 1, price 10,000, share 5,000, pool share 10,000, rates 2,000, 3,000,
-- raised 4,000, 5,000, both limits 100, group 1; every date mid 0, low −100, up 200, outer −200, 300.
-- Assumes nothing.
use Rattle.std.specs.Prelude.{List, [], ◌∷◌, ◌++◌, ℕ, ℤ, pos, neg_ℤ, replicate}

-- −n
abbrev pub less : ℕ → ℤ
less n = neg_ℤ (pos n)

abbrev date : List ℤ
date = pos 0 ∷ less 100 ∷ pos 200 ∷ less 200 ∷ pos 300 ∷ []

abbrev pub row_a : List ℤ
row_a =
    pos 1 ∷ pos 10000 ∷ pos 5000 ∷ pos 10000 ∷ pos 0 ∷ pos 0 ∷ pos 2000 ∷ pos 3000 ∷ pos 4000 ∷ pos 5000 ∷ pos 100 ∷ pos 100 ∷ pos 1 ∷ pos 0 ∷ pos 0 ∷ pos 0
    ∷ date ++ (date ++ (date ++ (date ++ (date ++ (date ++ (date ++ (date ++ replicate 8 (pos 0))))))))
