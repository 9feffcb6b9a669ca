-- What `feed` does with the next byte of a piece, as laws of its definition. Assumes nothing.
use mathlib.Core.Path.{◌≡◌, refl, ap, ◌∙◌}
use mathlib.Core.Bool.{Bool, true, false, cond}
use mathlib.Core.List.{List, [], ◌∷◌}
use Prim.Native.Nat.{ℕ, ◌+◌, ◌≤◌, ◌<◌}
use native.Mathlib.Numerals.{add-one}
use native.Mathlib.Omega.{arith}
use lib.Dec.{eqb}
use lib.ListN.{length, drop, get_or}
use lib.Seq.{drop-cons, drop-length}
use borrow.Author.Tests.{eq-eqb, ne_eqb, le-leb, lt-leb}
use Rattle.session_lines.specs.Session.{newline}
use Rattle.session_lines.specs.Stream.{longest_answer, Fed, taken, closed, has_room, fed}

module _ (f : Fed) (piece : List ℕ) (inside : f.used < length piece) where
  abbrev b : ℕ
  b = get_or piece f.used 0

  pub byte_taken : {next : Fed} → (b ≡ newline → ⊥) → next ≡ taken f b → fed f (drop f.used piece) ≡ fed next (drop (f.used + 1) piece)
  unfolding fed
  byte_taken h e = rw (drop-cons piece f.used 0 inside, ne_eqb b newline h, e, add-one f.used) refl

  -- a newline, where the answer fits
  pub line_taken : {next : Fed} → b ≡ newline → f.out.at + longest_answer ≤ length f.out.bytes → next ≡ closed f
      → fed f (drop f.used piece) ≡ fed next (drop (f.used + 1) piece)
  unfolding fed
  line_taken h room e = rw (drop-cons piece f.used 0 inside, eq-eqb b newline h, le-leb _ _ room, e, add-one f.used) refl

  -- and where it may not
  pub line_waits : b ≡ newline → length f.out.bytes < f.out.at + longest_answer → fed f (drop f.used piece) ≡ f
  unfolding fed
  line_waits h full = rw (drop-cons piece f.used 0 inside, eq-eqb b newline h, lt-leb _ _ full) refl

-- the end of the piece
pub piece_ends : (f : Fed) (piece : List ℕ) → f.used ≡ length piece → fed f (drop f.used piece) ≡ f
unfolding fed
piece_ends f piece e = ap (fed f) (ap (λ (k : ℕ). drop k piece) e) ∙ ap (fed f) (drop-length piece)

-- ---- where the buffer has room for an answer, some is taken of a piece that has any byte
never_back : (piece : List ℕ) (f : Fed) → f.used ≤ (fed f piece).used
unfolding fed
never_back [] f = omega arith
never_back (b ∷ piece) f = by (eqb b newline) (has_room f.out) (never_back piece (closed f)) (never_back piece (taken f b))
  where
    by : (ends room : Bool) → f.used + 1 ≤ (fed (closed f) piece).used → f.used + 1 ≤ (fed (taken f b) piece).used
        → f.used ≤ (cond ends (cond room (fed (closed f) piece) f) (fed (taken f b) piece)).used
    by true true p q = omega arith
    by true false p q = omega arith
    by false room p q = omega arith

pub some_used : (piece : List ℕ) (f : Fed) → f.out.at + longest_answer ≤ length f.out.bytes → 0 < length piece → f.used < (fed f piece).used
unfolding fed
some_used [] f room any = absurd (omega arith)
some_used (b ∷ piece) f room any = rw (le-leb _ _ room) (by (eqb b newline) (never_back piece (closed f)) (never_back piece (taken f b)))
  where
    by : (ends : Bool) → f.used + 1 ≤ (fed (closed f) piece).used → f.used + 1 ≤ (fed (taken f b) piece).used
        → f.used < (cond ends (fed (closed f) piece) (fed (taken f b) piece)).used
    by true p q = omega arith
    by false p q = omega arith
