-- Laws of bytes written as digits: one list after another, and how many digits there are. Assumes nothing.
use mathlib.Core.Path.{◌≡◌, refl, sym, ap, ◌∙◌}
use mathlib.Core.List.{List, [], ◌∷◌, ◌++◌, append_assoc, append-nil}
use Prim.Native.Nat.{ℕ, ◌+◌, ◌*◌, ◌/◌, ◌%◌, ◌<◌}
use native.Mathlib.Numerals.{add-one}
use native.Mathlib.Omega.{arith}
use lib.IntN.{ℤ, pos}
use lib.ListN.{length, take, get_or, length-append}
use lib.Seq.{take-suc}
use Rattle.frames.specs.Hex.{digit_of, hex_of}
use Rattle.frames.specs.Number.{two_bytes, four_bytes, eight_bytes, n8}
use Rattle.frames.specs.Answer.{figure_bytes, answer_line}

pub hex_append : (xs ys : List ℕ) → hex_of (xs ++ ys) ≡ hex_of xs ++ hex_of ys
unfolding hex_of
hex_append [] ys = refl
hex_append (x ∷ xs) ys = ap (λ (l : List ℕ). digit_of (x / 16) ∷ digit_of (x % 16) ∷ l) (hex_append xs ys)

pub hex_length : (xs : List ℕ) → length (hex_of xs) ≡ 2 * length xs
unfolding hex_of
hex_length [] = refl
hex_length (x ∷ xs) = let e = hex_length xs in omega arith

-- one byte more
pub bytes_next : (bytes : List ℕ) (k : ℕ) → k < length bytes
    → let b = get_or bytes k 0 in hex_of (take k bytes) ++ (digit_of (b / 16) ∷ digit_of (b % 16) ∷ []) ≡ hex_of (take (k + 1) bytes)
unfolding hex_of
bytes_next bytes k h =
    let b = get_or bytes k 0 in
    let e : take (k + 1) bytes ≡ take k bytes ++ (b ∷ []) = rw (add-one k) (take-suc bytes k 0 h) in
    sym (hex_append (take k bytes) (b ∷ [])) ∙ ap hex_of (sym e)

figures_append : (xs ys : List ℤ) → figure_bytes (xs ++ ys) ≡ figure_bytes xs ++ figure_bytes ys
unfolding figure_bytes
figures_append [] ys = refl
figures_append (z ∷ xs) ys = ap (λ (l : List ℕ). n8 z ++ l) (figures_append xs ys) ∙ sym (append_assoc (n8 z) (figure_bytes xs) (figure_bytes ys))

pub n8_length : (z : ℤ) → length (n8 z) ≡ 8
unfolding n8 eight_bytes four_bytes two_bytes
n8_length z = refl

figures_length : (figures : List ℤ) → length (figure_bytes figures) ≡ 8 * length figures
unfolding figure_bytes
figures_length [] = refl
figures_length (z ∷ figures) = let e = figures_length figures in length-append (n8 z) (figure_bytes figures) ∙ rw (n8_length z) (omega arith)

-- one figure more
pub figures_next : (figures : List ℤ) (k : ℕ) → k < length figures
    → hex_of (figure_bytes (take k figures)) ++ hex_of (n8 (get_or figures k (pos 0))) ≡ hex_of (figure_bytes (take (k + 1) figures))
unfolding figure_bytes
figures_next figures k h =
    let z = get_or figures k (pos 0) in
    let e : take (k + 1) figures ≡ take k figures ++ (z ∷ []) = rw (add-one k) (take-suc figures k (pos 0) h) in
    sym (hex_append (figure_bytes (take k figures)) (n8 z))
    ∙ ap hex_of (sym (figures_append (take k figures) (z ∷ []) ∙ ap (λ (l : List ℕ). figure_bytes (take k figures) ++ l) (append-nil (n8 z))))
    ∙ ap (λ (l : List ℤ). hex_of (figure_bytes l)) (sym e)

-- an answer's line by its three parts
pub answer_parts : (code : ℕ) (figures : List ℤ) → hex_of (code ∷ []) ++ hex_of (figure_bytes figures) ++ (10 ∷ []) ≡ answer_line code figures
unfolding answer_line hex_of
answer_parts code figures = refl

pub answer_length : (code : ℕ) (figures : List ℤ) → length (answer_line code figures) ≡ 3 + 16 * length figures
unfolding answer_line
answer_length code figures =
    let e = figures_length figures in
    length-append (hex_of (code ∷ figure_bytes figures)) (10 ∷ []) ∙ rw (hex_length (code ∷ figure_bytes figures)) (omega arith)
