-- Document 01, "The row in force" and "Cover test". Assumes nothing.
use Rattle.std.specs.Prelude.{◌≡◌, Bool, true, not, cond, ◌&&◌, List, [], ℕ, ◌*◌, ℤ, ◌-ℤ◌, ◌*ℤ◌, length, eqb, ltb}
use Rattle.std.specs.Int.Signed.{le_z}
use Rattle.std.specs.Borrow.{Bor}
use Rattle.whole.specs.Numbers.{max_ℤ}
use Rattle.whole.specs.Marks.{all_true}
use Rattle.rates.specs.Units.{assets, row_length, table_length, the_whole}
use Rattle.rates.specs.Row.{unlisted, price, fall, highest_rate, mid, outer_low, outer_up, level}
use Rattle.rates.specs.Rules.{row_marks}
use Rattle.rates.specs.Lent.{PartOf}
use Rattle.rates.specs.Tables.{row_of, absent}

-- the own row where present, else the clearing row
unfoldable pub in_force : List ℤ → List ℤ → ℕ → List ℤ
in_force clearing own a = cond (absent (row_of own a)) (row_of clearing a) (row_of own a)

-- of a table that passed the check: an own row is absent exactly where it has no kind
abbrev pub PresentByKind : List ℤ → ℕ → Type 0
PresentByKind own a = absent (row_of own a) ≡ unlisted (row_of own a)

-- the tables have rows, and one for the asset
unfoldable pub has_row : List ℤ → List ℤ → ℕ → Bool
has_row clearing own a = eqb (length clearing) table_length && (eqb (length own) table_length && ltb a assets)

-- what the lookup hands back: the row in force; no numbers where a table has another length or there is no such asset
unfoldable pub lookup : List ℤ → List ℤ → ℕ → List ℤ
lookup clearing own a = cond (has_row clearing own a) (in_force clearing own a) []

-- and where that very row stands: at the asset's place of the table that holds it
unfoldable pub holder : Bor (List ℤ) → Bor (List ℤ) → ℕ → Bor (List ℤ)
holder clearing own a = cond (absent (row_of own.now a)) clearing own

abbrev pub StandsIn : Bor (List ℤ) → Bor (List ℤ) → ℕ → Bor (List ℤ) → Type 0
StandsIn clearing own a row = has_row clearing.now own.now a ≡ true → PartOf (holder clearing own a) (row_length * a) row

-- the greater distance of date d's outer numbers from its mid
unfoldable pub outer_width : List ℤ → ℕ → ℤ
outer_width row d = max_ℤ (mid row d -ℤ outer_low row d) (outer_up row d -ℤ mid row d)

-- the cover test: 10,000 × (price + mid of date 0 − w) ≥ highest rate of a fall × price; an unlisted row fails it
unfoldable pub cover_test : List ℤ → Bool
cover_test row =
    not (unlisted row) && le_z (highest_rate row fall *ℤ price row) (the_whole *ℤ (level row 0 -ℤ outer_width row 0))

-- a row of 64 numbers of which none breaks its rule
unfoldable pub sound_row : List ℤ → Bool
sound_row row = eqb (length row) row_length && all_true (row_marks row)
