-- `hex::unhex` meets its contract: what is left of the line from pair k on decides whether it is hexadecimal, and its bytes follow those that stand
-- in `bytes` already. Assumes nothing.
use mathlib.Core.Path.{◌≡◌, refl, sym, ap, ◌∙◌}
use mathlib.Core.Bool.{true, false}
use mathlib.Core.List.{List, [], ◌∷◌, ◌++◌, append_assoc, append-nil}
use Prim.Native.Nat.{ℕ, zero, suc, ◌+◌, ◌*◌, ◌%◌, ◌≤◌, ◌<◌}
use native.Mathlib.Numerals.{add-one}
use native.Mathlib.Omega.{arith}
use borrow.Author.Tests.{lt-ltb, eqb-true, eqb-false}
use lib.Dec.{ltb}
use lib.ListN.{length, take, drop, get_or, set}
use lib.Seq.{drop-cons, drop-length, take-suc-set}
use Rattle.std.specs.Simd.{first_chunks}
use Rattle.whole.proofs.Tests.{second_out}
use Rattle.frames.specs.Hex.{digit_value, is_hex, bytes_of}
use Rattle.frames.proofs.hex.unhex.Goals as goal

-- a line of pairs and a digit alone
odd_out : (l : List ℕ) → length l % 2 ≡ 1 → is_hex l ≡ false
unfolding is_hex
odd_out [] e = absurd (omega arith)
odd_out (a ∷ []) e = refl
odd_out (a ∷ b ∷ l) e = rw (odd_out l (omega arith)) (second_out _ _ (second_out _ _ refl))

-- pair k of a line
pair_at : (n k : ℕ) (l : List ℕ) → k < n → 2 * n ≤ length l → get_or (first_chunks 2 n l) k [] ≡ get_or l (2 * k) 0 ∷ get_or l (2 * k + 1) 0 ∷ []
pair_at zero k l h long = absurd (omega arith)
pair_at (suc n) k [] h long = absurd (omega arith)
pair_at (suc n) k (a ∷ []) h long = absurd (omega arith)
pair_at (suc n) zero (a ∷ b ∷ l) h long = refl
pair_at (suc n) (suc k) (a ∷ b ∷ l) h long =
    let e : 2 * suc k ≡ suc (suc (2 * k)) = omega arith in
    let f : 2 * suc k + 1 ≡ suc (suc (2 * k + 1)) = omega arith in
    rw (f, e) (pair_at n k l (omega arith) (omega arith))

-- it, and what is left
module _ (l : List ℕ) (n k : ℕ) (pairs : List (List ℕ)) (are : pairs ≡ first_chunks 2 n l) (h : k < n) (long : 2 * n ≤ length l) where
  abbrev high : ℕ
  high = digit_value (get_or (get_or pairs k []) 0 0)

  abbrev low : ℕ
  low = digit_value (get_or (get_or pairs k []) 1 0)

  pair : get_or pairs k [] ≡ get_or l (2 * k) 0 ∷ get_or l (2 * k + 1) 0 ∷ []
  pair = ap (λ (p : List (List ℕ)). get_or p k []) are ∙ pair_at n k l h long

  two_digits : drop (2 * k) l ≡ get_or (get_or pairs k []) 0 0 ∷ get_or (get_or pairs k []) 1 0 ∷ drop (2 * (k + 1)) l
  two_digits =
      let e : 2 * k + 1 ≡ suc (2 * k) = omega arith in
      let f : 2 * (k + 1) ≡ suc (suc (2 * k)) = omega arith in
      rw pair (drop-cons l (2 * k) 0 (omega arith) ∙ ap (λ (t : List ℕ). get_or l (2 * k) 0 ∷ t) (drop-cons l (suc (2 * k)) 0 (omega arith) ∙ rw (e, f)))

  high_out : high ≡ 16 → is_hex (drop (2 * k) l) ≡ false
  unfolding is_hex
  high_out p = rw (two_digits, p) refl

  low_out : low ≡ 16 → is_hex (drop (2 * k) l) ≡ false
  unfolding is_hex
  low_out p = rw (two_digits, p) (second_out (ltb high 16) false refl)

  both_in : high < 16 → low < 16 → is_hex (drop (2 * k) l) ≡ is_hex (drop (2 * (k + 1)) l)
  unfolding is_hex
  both_in p q = rw (two_digits, lt-ltb high 16 p, lt-ltb low 16 q) refl

  one_more : (bytes : List ℕ) (b : ℕ) → k < length bytes → b ≡ high * 16 + low
      → take k bytes ++ bytes_of (drop (2 * k) l) ≡ take (k + 1) (set bytes k b) ++ bytes_of (drop (2 * (k + 1)) l)
  unfolding bytes_of
  one_more bytes b room e =
      let s : take (k + 1) (set bytes k b) ≡ take k bytes ++ (b ∷ []) = rw add-one (take-suc-set bytes k b room) in
      rw (two_digits, sym e) refl
      ∙ sym (append_assoc (take k bytes) (b ∷ []) (bytes_of (drop (2 * (k + 1)) l)))
      ∙ ap (λ (t : List ℕ). t ++ bytes_of (drop (2 * (k + 1)) l)) (sym s)

-- the end of the line
none_left : (l : List ℕ) (i : ℕ) → i ≡ length l → (is_hex (drop i l) ≡ true) × (bytes_of (drop i l) ≡ [])
unfolding is_hex bytes_of
none_left l i e = (rw (e, drop-length), rw (e, drop-length))

pub returns-then-not-is_empty : goal.returns-then-not-is_empty
returns-then-not-is_empty c =
    let some : length c.as_chunks.result.1.now ≡ 0 → ⊥ = eqb-false _ 0 (sym c.if-not-is_empty.ensures) in
    odd_out _ (omega arith)

pub loop-k-init : goal.loop-k-init
loop-k-init c = record { hex = refl; written = refl }

pub returns-in_err-high : goal.returns-in_err-high
returns-in_err-high c =
    let j = c.loop-k in
    rw c.from_residual.ensures
    (j.invariant.hex ∙ high_out _ _ j.k _ c.as_chunks.ensures.front (omega arith) (omega arith) c.in_err-high.ensures)

pub returns-in_err-low : goal.returns-in_err-low
returns-in_err-low c =
    let j = c.loop-k in
    rw c.from_residual-in_err-low.ensures
    (j.invariant.hex ∙ low_out _ _ j.k _ c.as_chunks.ensures.front (omega arith) (omega arith) c.in_err-low.ensures)

pub loop-k-preserved : goal.loop-k-preserved
loop-k-preserved c =
    let j = c.loop-k in let high = c.in_ok-high.ensures in let low = c.in_ok-low.ensures in
    let are = c.as_chunks.ensures.front in
    record {
      hex = j.invariant.hex ∙ both_in _ _ j.k _ are (omega arith) (omega arith) (omega (arith, high)) (omega (arith, low));
      written = j.invariant.written ∙ one_more _ _ j.k _ are (omega arith) (omega arith) j.bytes _ (omega arith) (omega (arith, high, low));
    }

pub returns : goal.returns
returns c =
    let j = c.loop-k in
    let even : length c.as_chunks.result.1.now ≡ 0 = eqb-true _ 0 (sym c.if-not-is_empty.ensures) in
    let all : 2 * j.k ≡ length c.args.line.now = omega arith in
    let e : length c.as_chunks.result.0.now ≡ j.k = omega arith in
    let none = none_left _ _ all in (
      j.invariant.hex ∙ none.0,
      omega arith,
      ap (λ (n : ℕ). take n j.bytes) e ∙ sym (append-nil (take j.k j.bytes)) ∙ ap (λ (t : List ℕ). take j.k j.bytes ++ t) (sym none.1) ∙ sym j.invariant.written,
    )
