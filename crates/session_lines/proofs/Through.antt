-- What `feed` leaves of a piece, against the whole of it: the stream that it leaves, taken through the rest, is the stream taken through all.
-- Assumes nothing.
use mathlib.Core.Path.{◌≡◌, refl, ap, ◌∙◌}
use mathlib.Core.Bool.{Bool, true, false, cond}
use mathlib.Core.List.{List, [], ◌∷◌}
use Prim.Native.Nat.{ℕ, suc, ◌+◌}
use native.Mathlib.Omega.{arith}
use lib.Dec.{eqb}
use lib.ListN.{length, drop}
use Rattle.session_lines.specs.Session.{newline}
use Rattle.session_lines.specs.Stream.{Stream, Fed, taken, closed, has_room, fed, through}

-- `count` bytes of the piece were taken
pub record Went (f : Fed) (piece : List ℕ) (r : Fed) : Type 0 where
  pub count : ℕ
  pub used : r.used ≡ f.used + count
  pub same : through r.stream (drop count piece) ≡ through f.stream piece

pub went : (piece : List ℕ) (f : Fed) → Went f piece (fed f piece)
unfolding fed through
went [] f = record { count = 0; used = omega arith; same = refl }
went (b ∷ piece) f = by (eqb b newline) refl (has_room f.out) (went piece (closed f)) (went piece (taken f b))
  where
    by : (ends : Bool) → eqb b newline ≡ ends → (room : Bool) → Went (closed f) piece (fed (closed f) piece) → Went (taken f b) piece (fed (taken f b) piece)
        → Went f (b ∷ piece) (cond ends (cond room (fed (closed f) piece) f) (fed (taken f b) piece))
    by true n true p q = record { count = suc p.count; used = omega (arith, p.used); same = rw n p.same }
    by true n false p q = record { count = 0; used = omega arith; same = refl }
    by false n room p q = record { count = suc q.count; used = omega (arith, q.used); same = rw n q.same }

-- a call of `feed` on a piece, and what it leaves of it
pub rest_through : (piece : List ℕ) (f r : Fed) → f.used ≡ 0 → r ≡ fed f piece → through r.stream (drop r.used piece) ≡ through f.stream piece
rest_through piece f r none e =
    let w = went piece f in
    let used : r.used ≡ w.count = omega (arith, ap (λ (g : Fed). g.used) e, w.used, none) in
    ap (λ (n : ℕ). through r.stream (drop n piece)) used ∙ ap (λ (g : Fed). through g.stream (drop w.count piece)) e ∙ w.same

-- the end of the piece
pub through_end : (s : Stream) (piece : List ℕ) → length piece ≡ 0 → through s piece ≡ s
unfolding through
through_end s [] e = refl
through_end s (b ∷ piece) e = absurd (omega arith)
