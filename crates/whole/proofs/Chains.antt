-- A chain of choices `if f(..) { return a; }`, one rule for a test that was taken and one for the test that was left, each with what the call said.
-- `search chain` peels one test a step, so that every return of such a function has the same answer, whatever its place. And tests that are all made.
-- Assumes nothing.
use mathlib.Core.Path.{◌≡◌, refl}
use mathlib.Core.Bool.{Bool, true, false, cond, ◌&&◌}
use Rattle.whole.proofs.Tests.{passed, failed}

-- ---- a choice: `if f(..) { return a; }`
module _ {A : Type 0} (r t : Bool) (x a b : A) (said : r ≡ t) where
  pub chosen : r ≡ true → x ≡ a → x ≡ cond t a b
  chosen e p = rw (passed said e) p

  pub not_chosen : r ≡ false → x ≡ b → x ≡ cond t a b
  not_chosen e p = rw (failed said e) p

pub ruleset chain = (not_chosen, chosen)

-- ---- tests that are all made, `f(..) & g(..) & ..`: under `simp (and_assoc, and-true)` the marks stand as the tests do, one beside the other
pub and_assoc : (a b c : Bool) → (a && b) && c ≡ a && (b && c)
and_assoc true b c = refl
and_assoc false b c = refl

pub and_same : (a b x y : Bool) → a ≡ x → b ≡ y → a && b ≡ x && y
and_same a b x y e f = rw (e, f)
