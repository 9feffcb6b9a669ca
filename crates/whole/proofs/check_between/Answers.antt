-- `whole::check_between` meets its contract: what is left from number k on answers as all did. Assumes nothing.
use mathlib.Core.Path.{◌≡◌, sym, ap, ◌∙◌}
use mathlib.Core.Bool.{Bool}
use mathlib.Core.List.{List, map}
use Prim.Native.Nat.{ℕ, ◌+◌}
use native.Mathlib.Nat.{add-zero}
use native.Mathlib.Omega.{arith}
use borrow.Author.Rules.{rules}
use lib.IntN.{ℤ, pos}
use mir.Syntax.{w64}
use mir.Val.{SFits}
use mir.Facts.{to_z-of_z}
use Rattle.std.specs.Prelude.{Result}
use Rattle.whole.specs.Bounds.{between}
use Rattle.whole.specs.Marks.{check_from}
use Rattle.whole.proofs.Machine.{back, clean₂}
use Rattle.whole.proofs.Checks.{number_right, number_wrong, numbers_end}
use Rattle.whole.proofs.check_between.Invariants.{inside}
use Rattle.whole.proofs.check_between.Goals as goal

-- the answer with the two bounds read back from their bits
read_back : {low high : ℤ} → SFits w64 low → SFits w64 high → (at : ℕ) (s : List ℤ) (r : Result (Unit {0}) ℕ)
    → check_from (at + 0) (map (inside (back low) (back high)) s) ≡ r → r ≡ check_from at (map (inside low high) s)
read_back f g at s r e = rw (← add-zero at) (sym e ∙ clean₂ (λ (a b : ℤ). check_from (at + 0) (map (inside a b) s)) f g)

-- what the test said of a number that fits
said : (low x high : ℤ) (t m : Bool) → t ≡ between low (back x) high → t ≡ m → SFits w64 x → inside low high x ≡ m
said low x high t m e h f = ap (λ (z : ℤ). inside low high z) (sym (to_z-of_z f)) ∙ sym e ∙ h

pub returns-then-not-lies_between : goal.returns-then-not-lies_between
returns-then-not-lies_between c =
    read_back c.ranges.low c.ranges.high _ _ _
    (c.loop-k.invariant ∙ number_wrong (pos 0) _ _ c.args.at c.loop-k.k (omega arith) (said _ _ _ _ _ c.lies_between.ensures c.if-not-lies_between.true (search rules)))

pub loop-k-preserved : goal.loop-k-preserved
loop-k-preserved c =
    c.loop-k.invariant ∙ number_right (pos 0) _ _ c.args.at c.loop-k.k (omega arith) (said _ _ _ _ _ c.lies_between.ensures c.if-not-lies_between.false (search rules))

pub returns : goal.returns
returns c = read_back c.ranges.low c.ranges.high _ _ _ (c.loop-k.invariant ∙ numbers_end (pos 0) _ _ c.args.at c.loop-k.k (omega arith))
