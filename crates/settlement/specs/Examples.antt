-- A book in which accounts 1, 4 and 9 have settlement code 3, account 7 has code 5 and the others have none, and who is listed with whom. Kinds are 2 for
-- the three and 1 for account 7. The checker computes the claim, which proofs/Examples proves.
-- Assumes nothing.
use Rattle.std.specs.Prelude.{◌≡◌, List, [], ◌∷◌, map, ℕ, ◌+◌, ◌*◌, ℤ, pos, replicate, set}
use Rattle.book.specs.Block.{block_length, book_length}
use Rattle.book.specs.declared.members.Members.{Members}
use Rattle.settlement.specs.Members.{members_of}

-- account i with its kind and its code
abbrev with : ℕ → ℕ → ℕ → List ℤ → List ℤ
with i kind code book = set (set book (block_length * i) (pos kind)) (block_length * i + 13) (pos code)

abbrev pub shared : List ℤ
shared = with 1 2 3 (with 4 2 3 (with 9 2 3 (with 7 1 5 (replicate book_length (pos 0)))))

-- a list by its kind, its count and its four places
abbrev listed : ℕ → ℕ → List ℕ → Members
listed kind count at = record { kind = kind; count = count; at = at }

-- the three see the same list, whichever of them asks; account 7 has nobody beside it; code 0 is never shared
abbrev pub ExamplesMet : Type 0
ExamplesMet =
    map (members_of shared) (1 ∷ 4 ∷ 9 ∷ 7 ∷ 0 ∷ 15 ∷ [])
    ≡ listed 2 3 (1 ∷ 4 ∷ 9 ∷ 0 ∷ [])
    ∷ listed 2 3 (1 ∷ 4 ∷ 9 ∷ 0 ∷ [])
    ∷ listed 2 3 (1 ∷ 4 ∷ 9 ∷ 0 ∷ [])
    ∷ listed 1 1 (7 ∷ 0 ∷ 0 ∷ 0 ∷ [])
    ∷ listed 0 1 (0 ∷ 0 ∷ 0 ∷ 0 ∷ [])
    ∷ listed 0 1 (15 ∷ 0 ∷ 0 ∷ 0 ∷ [])
    ∷ []
