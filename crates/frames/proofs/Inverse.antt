-- The statements of specs/Inverse proved. Assumes nothing.
use mathlib.Core.Path.{◌≡◌, refl, sym, ap, ap₂, ◌∙◌}
use mathlib.Core.Bool.{Bool, true, false, cond, ◌&&◌}
use mathlib.Core.List.{List, [], ◌∷◌}
use Prim.Native.Nat.{ℕ, zero, suc, ◌+◌, ◌-◌, ◌*◌, ◌/◌, ◌%◌, ◌<◌}
use native.Mathlib.Omega.{arith}
use borrow.Author.Tests.{lt-ltb, le-ltb, ltb-true, ltb-false}
use lib.Dec.{ltb}
use lib.ListN.{length, get_or}
use mir.Syntax.{w64}
use mir.Val.{to_z, of_z}
use mir.Facts.{to_z-of_z, of_z-to_z, Fits-of_z}
use Rattle.std.specs.Int.{from_be_bytes}
use Rattle.std.proofs.lemmas.Nat.{from_be_bytes-to_be_bytes_8, be_bytes_8}
use Rattle.whole.proofs.Tests.{and_left, and_right, true_not_false}
use Rattle.frames.specs.Hex.{digit_value, digit_of, is_hex, bytes_of, hex_of}
use Rattle.frames.specs.Inverse.{Bytes, none, more, HexRight, HexRead, HexWritten, N8Read, N8Written}
use Rattle.frames.specs.Number.{two, four, eight, n8_at, eight_bytes, n8}
use Rattle.frames.proofs.Bytes.{eight_read, eight_written, n8_bytes}

-- ---- one digit
digit_read : (v : ℕ) → v < 16 → digit_value (digit_of v) ≡ v
unfolding digit_value digit_of
digit_read v h = by (ltb v 10) refl
  where
    by : (t : Bool) → ltb v 10 ≡ t → let b = cond t (48 + v) (87 + v) in cond (ltb b 48) 16 (cond (ltb b 58) (b - 48) (cond (ltb b 97) 16 (cond (ltb b 103) (b - 87) 16))) ≡ v
    by true e =
        let l = ltb-true v 10 e in
        rw (le-ltb (48 + v) 48 (omega arith), lt-ltb (48 + v) 58 (omega arith)) (omega arith)
    by false e =
        let l = ltb-false v 10 e in
        rw (le-ltb (87 + v) 48 (omega arith), le-ltb (87 + v) 58 (omega arith), le-ltb (87 + v) 97 (omega arith), lt-ltb (87 + v) 103 (omega arith)) (omega arith)

digit_written : (b : ℕ) → digit_value b < 16 → digit_of (digit_value b) ≡ b
unfolding digit_value digit_of
digit_written b = first (ltb b 48) refl (ltb b 58) refl (ltb b 97) refl (ltb b 103) refl
  where
    first : (p : Bool) → ltb b 48 ≡ p → (q : Bool) → ltb b 58 ≡ q → (r : Bool) → ltb b 97 ≡ r → (s : Bool) → ltb b 103 ≡ s
        → let v = cond p 16 (cond q (b - 48) (cond r 16 (cond s (b - 87) 16))) in v < 16 → cond (ltb v 10) (48 + v) (87 + v) ≡ b
    first true e q f r g s i h = absurd (omega arith)
    first false e true f r g s i h =
        let l = ltb-false b 48 e in let m = ltb-true b 58 f in rw (lt-ltb (b - 48) 10 (omega arith)) (omega arith)
    first false e false f true g s i h = absurd (omega arith)
    first false e false f false g true i h =
        let l = ltb-false b 97 g in let m = ltb-true b 103 i in rw (le-ltb (b - 87) 10 (omega arith)) (omega arith)
    first false e false f false g false i h = absurd (omega arith)

-- ---- lines of digits and lists of bytes
pub hex_right : HexRight
unfolding is_hex hex_of
hex_right [] none = refl
hex_right (b ∷ bytes) (more h rest) =
    rw (digit_read (b / 16) (omega arith), digit_read (b % 16) (omega arith), lt-ltb (b / 16) 16 (omega arith), lt-ltb (b % 16) 16 (omega arith)) (hex_right bytes rest)

pub hex_read : HexRead
unfolding bytes_of hex_of
hex_read [] none = refl
hex_read (b ∷ bytes) (more h rest) =
    rw (digit_read (b / 16) (omega arith), digit_read (b % 16) (omega arith)) (ap₂ ◌∷◌ (let e : b / 16 * 16 + b % 16 ≡ b = omega arith in e) (hex_read bytes rest))

pub hex_written : HexWritten
unfolding is_hex bytes_of hex_of
hex_written [] e = refl
hex_written (a ∷ []) e = true_not_false e
hex_written (a ∷ b ∷ line) e =
    let rest = and_right (ltb (digit_value a) 16) (ltb (digit_value b) 16 && is_hex line) e in
    let high = ltb-true (digit_value a) 16 (and_left (ltb (digit_value a) 16) (ltb (digit_value b) 16 && is_hex line) e) in
    let low = ltb-true (digit_value b) 16 (and_left (ltb (digit_value b) 16) (is_hex line) rest) in
    let h : (digit_value a * 16 + digit_value b) / 16 ≡ digit_value a = omega arith in
    let l : (digit_value a * 16 + digit_value b) % 16 ≡ digit_value b = omega arith in
    rw (h, l, digit_written a high, digit_written b low) (ap (λ (t : List ℕ). a ∷ b ∷ t) (hex_written line (and_right (ltb (digit_value b) 16) (is_hex line) rest)))

-- ---- n8: the library's laws of a number and its bytes
pub n8_read : N8Read
unfolding n8_at
n8_read z s =
    let bytes = sym (eight_read (n8 z)) ∙ ap (from_be_bytes w64) (sym (n8_bytes z s)) in
    ap (to_z w64) (bytes ∙ from_be_bytes-to_be_bytes_8 (of_z w64 z) (Fits-of_z {w = w64} s).fits) ∙ to_z-of_z {w = w64} s

byte_small : {bytes : List ℕ} → Bytes bytes → (i : ℕ) → get_or bytes i 0 < 256
byte_small none i = omega arith
byte_small (more h rest) zero = h
byte_small (more h rest) (suc i) = byte_small rest i

-- eight bytes write a number of 64 bits, and it writes them
eight_back : (bytes : List ℕ) → length bytes ≡ 8 → Bytes bytes → n8 (n8_at bytes 0) ≡ bytes
unfolding n8 n8_at eight four two
eight_back bytes l b =
    let u = eight bytes 0 in
    let small = byte_small b in
    let fit : u < 18446744073709551616 = omega (arith, small 0, small 1, small 2, small 3, small 4, small 5, small 6, small 7) in
    ap eight_bytes (of_z-to_z {w = w64} (record { fits = fit })) ∙ sym (eight_written u fit) ∙ be_bytes_8 bytes u l small (sym (eight_read bytes))

pub n8_written : N8Written
n8_written a b c d e f g h bytes = eight_back _ refl bytes
