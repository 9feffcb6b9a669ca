-- A question that code is handed as a closure, and the test that its answers make: of the assets of a block, or of the accounts on a code.
-- Assumes nothing.
use Rattle.std.specs.Prelude.{◌≡◌, Bool, ℕ}
use Rattle.std.specs.Fn.{Shared}

-- whatever it is asked of, the closure answers as the test does
abbrev pub Tells : {F : Type 0} → Shared F (ℕ × Unit {0}) Bool → F → (ℕ → Bool) → Type 0
Tells g f test = (k : ℕ) (answer : Bool) → g.post f (k, tt) answer → answer ≡ test k
