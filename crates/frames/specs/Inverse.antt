-- Reading and writing are inverse to each other: digits and bytes, an n8 and its number. Each is a type, and proofs/Inverse proves it.
-- Assumes nothing.
use Rattle.std.specs.Prelude.{◌≡◌, true, List, [], ◌∷◌, ℕ, ◌<◌, ℤ}
use Rattle.std.specs.Int.{w64}
use Rattle.std.proofs.Common.{SFits}
use Rattle.frames.specs.Hex.{is_hex, bytes_of, hex_of}
use Rattle.frames.specs.Number.{n8_at, n8}

-- a list of bytes
pub data Bytes : List ℕ → Type 0 where
  none : Bytes []
  more : {b : ℕ} {bytes : List ℕ} → b < 256 → Bytes bytes → Bytes (b ∷ bytes)

-- what is written is hexadecimal, and is read as the bytes that were written
abbrev pub HexRight : Type 0
HexRight = (bytes : List ℕ) → Bytes bytes → is_hex (hex_of bytes) ≡ true

abbrev pub HexRead : Type 0
HexRead = (bytes : List ℕ) → Bytes bytes → bytes_of (hex_of bytes) ≡ bytes

-- a line that was read is written as it stood
abbrev pub HexWritten : Type 0
HexWritten = (line : List ℕ) → is_hex line ≡ true → hex_of (bytes_of line) ≡ line

-- the same of an i64 and its eight bytes
abbrev pub N8Read : Type 0
N8Read = (z : ℤ) → SFits w64 z → n8_at (n8 z) 0 ≡ z

abbrev pub N8Written : Type 0
N8Written = (a b c d e f g h : ℕ) → let bytes = a ∷ b ∷ c ∷ d ∷ e ∷ f ∷ g ∷ h ∷ [] in Bytes bytes → n8 (n8_at bytes 0) ≡ bytes
