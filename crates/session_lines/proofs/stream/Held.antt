-- Laws of the line that has begun: as a buffer holds it, and against the whole line. It grows alike, is blank alike, and has the same frame.
-- Assumes nothing.
use mathlib.Core.Path.{◌≡◌, refl, sym, ap}
use mathlib.Core.Bool.{Bool, true, false, cond}
use mathlib.Core.List.{List, [], ◌∷◌, ◌++◌}
use Prim.Native.Nat.{ℕ, ◌+◌, ◌≤◌, ◌<◌}
use native.Mathlib.Numerals.{add-one}
use native.Mathlib.Omega.{arith}
use lib.Dec.{eqb, leb, ltb}
use lib.ListN.{length, take, set, length-append}
use lib.Seq.{take-suc-set, length-take-le}
use borrow.Author.Tests.{le-leb, lt-leb, lt-ltb, le-ltb, leb-true, leb-false, ne_eqb}
use Rattle.frames.specs.Frame.{line_frame}
use Rattle.frames.proofs.Shapes.{long_line}
use Rattle.session_lines.specs.Stream.{longest_line, Begun, begun, too_long, held, grown, frame_held, is_blank}

-- a line of n bytes is too long, or it is not
either : (P : Begun → Type 0) (n : ℕ) (line : List ℕ) → (n ≤ longest_line → P (begun line)) → (longest_line < n → P too_long)
    → P (cond (leb n longest_line) (begun line) too_long)
either P n line short long = by (leb n longest_line) refl
  where
    by : (t : Bool) → leb n longest_line ≡ t → P (cond t (begun line) too_long)
    by true e = short (leb-true n longest_line e)
    by false e = long (leb-false n longest_line e)

module _ (buffer : List ℕ) (count : ℕ) (size : length buffer ≡ longest_line) where
  pub held_more : (b : ℕ) → count < longest_line → held (set buffer count b) (count + 1) ≡ grown (held buffer count) b
  unfolding held grown
  held_more b h =
      let e : take (count + 1) (set buffer count b) ≡ take count buffer ++ (b ∷ []) = rw (add-one count) (take-suc-set buffer count b (omega arith)) in
      rw (
        le-leb (count + 1) longest_line (omega arith),
        le-leb count longest_line (omega arith),
        length-take-le count buffer (omega arith),
        lt-ltb count longest_line h,
      ) (ap begun e)

  pub held_full : (b n : ℕ) → longest_line ≤ count → longest_line < n → held buffer n ≡ grown (held buffer count) b
  unfolding held grown
  held_full b n h long =
      rw (lt-leb n longest_line long)
      (either (λ l. too_long ≡ grown l b) count (take count buffer)
      (λ l. rw (length-take-le count buffer (omega arith), le-ltb count longest_line h) refl) (λ l. refl))

  pub blank_held : eqb count 0 ≡ is_blank (held buffer count)
  unfolding held is_blank
  blank_held =
      either (λ l. eqb count 0 ≡ is_blank l) count (take count buffer)
      (λ l. rw (length-take-le count buffer (omega arith)) refl) (λ l. ne_eqb count 0 (λ z. omega arith))

-- a whole line, as it is held
unfoldable pub cut_line : List ℕ → Begun
cut_line line = cond (leb (length line) longest_line) (begun line) too_long

module _ (line : List ℕ) where
  pub grown_cut : (b : ℕ) → grown (cut_line line) b ≡ cut_line (line ++ (b ∷ []))
  unfolding cut_line grown
  grown_cut b =
      rw (length-append line (b ∷ []), add-one (length line))
      (either (λ l. grown l b ≡ cond (ltb (length line) longest_line) (begun (line ++ (b ∷ []))) too_long) (length line) line
      (λ l. refl) (λ l. rw (le-ltb (length line) longest_line (omega arith)) refl))

  pub frame_cut : frame_held (cut_line line) ≡ line_frame line
  unfolding cut_line frame_held
  frame_cut = either (λ l. frame_held l ≡ line_frame line) (length line) line (λ l. refl) (λ l. sym (long_line line l))

  pub blank_cut : is_blank (cut_line line) ≡ eqb (length line) 0
  unfolding cut_line is_blank
  blank_cut =
      either (λ l. is_blank l ≡ eqb (length line) 0) (length line) line
      (λ l. refl) (λ l. sym (ne_eqb (length line) 0 (λ z. omega arith)))
