-- What a branch tells of the test that a definition makes, for `search tests`: a call `f(..)` whose contract says r ≡ m was tested, and
-- the branch was taken or left; and how `&&`, `||` and `not` join such facts.
-- Assumes nothing.
use mathlib.Core.Path.{◌≡◌, refl, sym, ap, ◌∙◌}
use mathlib.Core.Logic.{◌⊎◌, inl, inr}
use mathlib.Core.Bool.{Bool, true, false, not, cond, ◌&&◌, ◌||◌}
use Prim.Native.Nat.{ℕ}
use native.Mathlib.Omega.{arith}
use borrow.Author.Tests.{not-true, not-false}

-- `if !f(..)`, left or taken
pub left : {r m : Bool} → r ≡ m → not r ≡ false → m ≡ true
left {r} f e = sym f ∙ not-false r e

pub taken : {r m : Bool} → r ≡ m → not r ≡ true → m ≡ false
taken {r} f e = sym f ∙ not-true r e

-- `if f(..)`, taken or left
pub passed : {r m : Bool} → r ≡ m → r ≡ true → m ≡ true
passed f e = sym f ∙ e

pub failed : {r m : Bool} → r ≡ m → r ≡ false → m ≡ false
failed f e = sym f ∙ e

pub both : (a b : Bool) → a ≡ true → b ≡ true → a && b ≡ true
both a b e f = rw (e, f)

pub first_out : (a b : Bool) → a ≡ false → a && b ≡ false
first_out a b e = rw e

pub second_out : (a b : Bool) → b ≡ false → a && b ≡ false
second_out true b e = e
second_out false b e = refl

-- a first test that passed leaves the second
pub and_then : (a b : Bool) {c : Bool} → a ≡ true → c ≡ b → c ≡ a && b
and_then a b e f = rw e f

pub ruleset tests = (left, taken, passed, failed, both, first_out, second_out, and_then)

-- the two parts of `a && b`
pub true_not_false : {X : Type 0} → ◌≡◌ {A = Bool} false true → X
true_not_false e = absurd (let z : ◌≡◌ {A = ℕ} 0 1 = ap (λ (t : Bool). cond t 1 0) e in omega arith)

pub and_left : (a b : Bool) → a && b ≡ true → a ≡ true
and_left true b e = refl
and_left false b e = true_not_false e

pub and_right : (a b : Bool) → a && b ≡ true → b ≡ true
and_right true b e = e
and_right false b e = true_not_false e

-- a rule `b` that is asked only where `a` holds
pub where_so : (a b : Bool) → a ≡ true → b ≡ not a || b
where_so a b e = rw e refl

pub where_not : (a b : Bool) → a ≡ false → true ≡ not a || b
where_not a b e = rw e refl

-- ---- a refusal's own test: `not` and `||` of tests that were made
pub denied : {b : Bool} → b ≡ true → not b ≡ false
denied e = ap not e

pub refuted : {b : Bool} → b ≡ false → not b ≡ true
refuted e = ap not e

pub either_left : (a b : Bool) → a ≡ true → a || b ≡ true
either_left a b e = rw e refl

pub either_right : (a b : Bool) → b ≡ true → a || b ≡ true
either_right true b e = refl
either_right false b e = e

pub neither : (a b : Bool) → a ≡ false → b ≡ false → a || b ≡ false
neither a b e f = rw (e, f) refl

-- what `||` says
pub or_cases : (a b : Bool) → a || b ≡ true → (a ≡ true) ⊎ (b ≡ true)
or_cases true b e = inl refl
or_cases false b e = inr e

pub or_left_off : (a b : Bool) → a || b ≡ false → a ≡ false
or_left_off true b e = e
or_left_off false b e = refl
