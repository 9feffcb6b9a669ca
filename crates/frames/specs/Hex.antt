-- Document 01, "Session lines": lower-case hexadecimal. Two digits write a byte, the high one first.
-- Assumes nothing.
use Rattle.std.specs.Prelude.{Bool, true, false, cond, ◌&&◌, List, [], ◌∷◌, ℕ, ◌+◌, ◌-◌, ◌*◌, ◌/◌, ◌%◌, ltb}

-- the value of a digit, 0 to 9 and a to f; 16 for any other byte
unfoldable pub digit_value : ℕ → ℕ
digit_value b = cond (ltb b 48) 16 (cond (ltb b 58) (b - 48) (cond (ltb b 97) 16 (cond (ltb b 103) (b - 87) 16)))

-- the digit of a value from 0 to 15
unfoldable pub digit_of : ℕ → ℕ
digit_of v = cond (ltb v 10) (48 + v) (87 + v)

-- whether a line writes whole bytes
unfoldable pub is_hex : List ℕ → Bool
is_hex [] = true
is_hex (high ∷ []) = false
is_hex (high ∷ low ∷ line) = ltb (digit_value high) 16 && (ltb (digit_value low) 16 && is_hex line)

-- the bytes that it writes
unfoldable pub bytes_of : List ℕ → List ℕ
bytes_of [] = []
bytes_of (high ∷ []) = []
bytes_of (high ∷ low ∷ line) = (digit_value high * 16 + digit_value low) ∷ bytes_of line

-- the line that writes bytes
unfoldable pub hex_of : List ℕ → List ℕ
hex_of [] = []
hex_of (b ∷ bytes) = digit_of (b / 16) ∷ digit_of (b % 16) ∷ hex_of bytes
