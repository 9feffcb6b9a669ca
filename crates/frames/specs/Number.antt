-- Document 01, "Session lines": numbers as bytes, high first. n8 is eight bytes, two's complement, which is the library's `to_z` and `of_z`.
-- Assumes nothing.
use Rattle.std.specs.Prelude.{List, [], ◌∷◌, ◌++◌, ℕ, ◌+◌, ◌*◌, ◌/◌, ◌%◌, ℤ, get_or}
use Rattle.std.specs.Int.{w64}
use Rattle.std.proofs.Common.{to_z, of_z}

-- byte k
abbrev pub byte : List ℕ → ℕ → ℕ
byte bytes k = get_or bytes k 0

-- the numbers that two, four and eight bytes from place k on write
unfoldable pub two : List ℕ → ℕ → ℕ
two bytes k = byte bytes k * 256 + byte bytes (k + 1)

unfoldable pub four : List ℕ → ℕ → ℕ
four bytes k = two bytes k * 65536 + two bytes (k + 2)

unfoldable pub eight : List ℕ → ℕ → ℕ
eight bytes k = four bytes k * 4294967296 + four bytes (k + 4)

unfoldable pub n8_at : List ℕ → ℕ → ℤ
n8_at bytes k = to_z w64 (eight bytes k)

-- the bytes that write a number
unfoldable pub two_bytes : ℕ → List ℕ
two_bytes u = u / 256 ∷ u % 256 ∷ []

unfoldable pub four_bytes : ℕ → List ℕ
four_bytes u = two_bytes (u / 65536) ++ two_bytes (u % 65536)

unfoldable pub eight_bytes : ℕ → List ℕ
eight_bytes u = four_bytes (u / 4294967296) ++ four_bytes (u % 4294967296)

unfoldable pub n8 : ℤ → List ℕ
n8 z = eight_bytes (of_z w64 z)
