-- The library's bytes of a number, high first, are those of the definitions; and an n8 read of a part of the bytes. Assumes nothing.
use mathlib.Core.Path.{◌≡◌, refl, sym, ap, ◌∙◌}
use mathlib.Core.List.{List, [], ◌∷◌}
use Prim.Native.Nat.{ℕ, ◌+◌, ◌/◌, ◌%◌, ◌≤◌, ◌<◌}
use native.Mathlib.Omega.{arith}
use lib.IntN.{ℤ}
use mir.Val.{SFits, of_z}
use mir.Facts.{Fits-of_z}
use lib.ListN.{take, drop}
use lib.Seq.{get_or-take, get_or-drop}
use Rattle.std.specs.Int.{w16, w64, from_be_bytes, to_be_bytes}
use Rattle.frames.specs.Number.{byte, two, four, eight, n8_at, two_bytes, four_bytes, eight_bytes, n8}

pub two_read : (bytes : List ℕ) (k : ℕ) → from_be_bytes w16 (byte bytes k ∷ byte bytes (k + 1) ∷ []) ≡ two bytes k
unfolding two
two_read bytes k = omega arith

pub eight_read : (bytes : List ℕ) → from_be_bytes w64 bytes ≡ eight bytes 0
unfolding eight four two
eight_read bytes = omega arith

pub eight_written : (u : ℕ) → u < 18446744073709551616 → to_be_bytes w64 u ≡ eight_bytes u
unfolding eight_bytes four_bytes two_bytes
eight_written u h =
    let a : u / 72057594037927936 % 256 ≡ u / 4294967296 / 65536 / 256 = omega arith in
    let b : u / 281474976710656 % 256 ≡ u / 4294967296 / 65536 % 256 = omega arith in
    let c : u / 1099511627776 % 256 ≡ u / 4294967296 % 65536 / 256 = omega arith in
    let d : u / 4294967296 % 256 ≡ u / 4294967296 % 65536 % 256 = omega arith in
    let e : u / 16777216 % 256 ≡ u % 4294967296 / 65536 / 256 = omega arith in
    let f : u / 65536 % 256 ≡ u % 4294967296 / 65536 % 256 = omega arith in
    let g : u / 256 % 256 ≡ u % 4294967296 % 65536 / 256 = omega arith in
    let i : u % 256 ≡ u % 4294967296 % 65536 % 256 = omega arith in
    rw (a, b, c, d, e, f, g, i) refl

pub n8_bytes : (z : ℤ) → SFits w64 z → to_be_bytes w64 (of_z w64 z) ≡ n8 z
unfolding n8
n8_bytes z s = eight_written (of_z w64 z) (Fits-of_z {w = w64} s).fits

-- an n8 that begins a part
module _ (part bytes : List ℕ) (k : ℕ) (same : (i : ℕ) → i < 8 → byte part i ≡ byte bytes (k + i)) where
  there : (i j : ℕ) → i < 8 → j ≡ k + i → byte part i ≡ byte bytes j
  there i j h e = same i h ∙ ap (byte bytes) (sym e)

  pub n8_within : n8_at part 0 ≡ n8_at bytes k
  unfolding n8_at eight four two
  n8_within =
      rw (
        there 0 k (omega arith) (omega arith),
        there 1 (k + 1) (omega arith) (omega arith),
        there 2 (k + 2) (omega arith) (omega arith),
        there 3 (k + 2 + 1) (omega arith) (omega arith),
        there 4 (k + 4) (omega arith) (omega arith),
        there 5 (k + 4 + 1) (omega arith) (omega arith),
        there 6 (k + 4 + 2) (omega arith) (omega arith),
        there 7 (k + 4 + 2 + 1) (omega arith) (omega arith),
      ) refl

-- a part from place k on, its first eight bytes, and its next
module _ (bytes : List ℕ) (m k : ℕ) where
  in_part : (i : ℕ) → i < m → byte (take m (drop k bytes)) i ≡ byte bytes (k + i)
  in_part i h = get_or-take m (drop k bytes) i 0 h ∙ get_or-drop k bytes i 0

  pub n8_first : 8 ≤ m → n8_at (take m (drop k bytes)) 0 ≡ n8_at bytes k
  n8_first h = n8_within _ bytes k (λ i l. in_part i (omega arith))

  pub n8_of_two : 8 ≤ m → n8_at (take 8 (take m (drop k bytes))) 0 ≡ n8_at bytes k
  n8_of_two h = n8_within _ bytes k (λ i l. get_or-take 8 _ i 0 l ∙ in_part i (omega arith))

  pub n8_after : (n : ℕ) → 8 ≤ n → n + 8 ≤ m → n8_at (take n (drop 8 (take m (drop k bytes)))) 0 ≡ n8_at bytes (k + 8)
  n8_after n h fits =
      n8_within _ bytes (k + 8)
      (λ i l. get_or-take n _ i 0 (omega arith) ∙ get_or-drop 8 _ i 0 ∙ in_part (8 + i) (omega arith) ∙ ap (byte bytes) (let e : k + (8 + i) ≡ k + 8 + i = omega arith in e))
