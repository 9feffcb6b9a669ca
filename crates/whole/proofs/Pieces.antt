-- Where the first false mark of pieces of one size stands: in which piece, and at which of its marks. Every piece before is true whole, and so is every
-- mark before in its own piece.
-- Assumes nothing.
use mathlib.Core.Path.{◌≡◌, refl, ap}
use mathlib.Core.Bool.{Bool, true, false}
use mathlib.Core.List.{List, ◌++◌}
use mathlib.Core.Logic.{⊎_elim}
use Prim.Native.Nat.{ℕ, zero, suc, ◌+◌, ◌*◌, ◌≤◌, ◌<◌}
use native.Mathlib.Nat.{mul-suc, mul-zero}
use native.Mathlib.Omega.{arith}
use lib.ListN.{length, get_or}
use Rattle.whole.specs.Marks.{first_false, all_true, pieces}
use Rattle.whole.proofs.Numbers.{lt_or_ge}
use Rattle.whole.proofs.Marks.{true_before, false_at, first_in, first_past, all_of}

pub record InPiece (f : ℕ → List Bool) (size n place : ℕ) : Type 0 where
  pub piece : ℕ
  pub mark : ℕ
  pub inside : piece < n
  pub within_piece : mark < size
  pub place_is : place ≡ size * piece + mark
  pub false_there : get_or (f piece) mark true ≡ false
  pub marks_before : (k : ℕ) → k < mark → get_or (f piece) k true ≡ true
  pub pieces_before : (d : ℕ) → d < piece → all_true (f d) ≡ true

shifted : (f : ℕ → List Bool) (i n : ℕ) → pieces f (suc i) n ≡ pieces (λ d. f (suc d)) i n
unfolding pieces
shifted f i zero = refl
shifted f i (suc n) = ap (λ (ms : List Bool). f (suc i) ++ ms) (shifted f (suc i) n)

module _ (f : ℕ → List Bool) (size n : ℕ) (long : (d : ℕ) → length (f d) ≡ size) where
  in_first : first_false (f 0) < size → InPiece f size (suc n) (first_false (pieces f 0 (suc n)))
  unfolding pieces
  in_first l = record {
    piece = 0;
    mark = first_false (f 0);
    inside = omega arith;
    within_piece = l;
    place_is = omega (arith, first_in (f 0) (pieces f 1 n) (omega (arith, long 0)), mul-zero size);
    false_there = false_at (f 0) (omega (arith, long 0));
    marks_before = true_before (f 0);
    pieces_before = λ d z. absurd (omega arith);
  }

  module _ (l : size ≤ first_false (f 0)) where
    past_first : first_false (pieces f 0 (suc n)) ≡ size + first_false (pieces (λ d. f (suc d)) 0 n)
    unfolding pieces
    past_first = omega (arith, first_past (f 0) (pieces f 1 n) (omega (arith, long 0)), long 0, ap first_false (shifted f 0 n))

    in_later : InPiece (λ d. f (suc d)) size n (first_false (pieces (λ d. f (suc d)) 0 n)) → InPiece f size (suc n) (first_false (pieces f 0 (suc n)))
    in_later r = record {
      piece = suc r.piece;
      mark = r.mark;
      inside = omega (arith, r.inside);
      within_piece = r.within_piece;
      place_is = omega (arith, past_first, r.place_is, mul-suc size r.piece);
      false_there = r.false_there;
      marks_before = r.marks_before;
      pieces_before = before;
    }
      where
        before : (d : ℕ) → d < suc r.piece → all_true (f d) ≡ true
        before zero z = all_of (f 0) (omega (arith, long 0))
        before (suc d) z = r.pieces_before d (omega arith)

pub in_piece : (f : ℕ → List Bool) (size n : ℕ) → ((d : ℕ) → length (f d) ≡ size) → first_false (pieces f 0 n) < size * n
    → InPiece f size n (first_false (pieces f 0 n))
in_piece f size zero long h = absurd (omega (arith, mul-zero size))
in_piece f size (suc n) long h =
    ⊎_elim (in_first f size n long)
    (λ l. in_later f size n long l (in_piece (λ d. f (suc d)) size n (λ d. long (suc d)) (omega (arith, past_first f size n long l, mul-suc size n))))
    (lt_or_ge (first_false (f 0)) size)
