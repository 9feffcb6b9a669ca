-- `rates::pieces::each` meets its contract: the pieces before piece k were passed. Assumes nothing.
use mathlib.Core.Path.{◌≡◌}
use mathlib.Core.Bool.{Bool}
use mathlib.Core.List.{List}
use Prim.Native.Nat.{ℕ}
use Rattle.whole.specs.Marks.{check_from, pieces, AsMarks}
use Rattle.whole.proofs.Checks.{from_piece}
use Rattle.rates.proofs.pieces.each.Given as goal

abbrev pub invariant-loop-k : goal.invariant-loop-k
invariant-loop-k g l =
    (at size : ℕ) (marks : ℕ → List Bool) → AsMarks (goal.F-post g l.check) at size l.count marks
    → check_from at (pieces marks 0 l.count) ≡ from_piece marks at size l.count l.k
