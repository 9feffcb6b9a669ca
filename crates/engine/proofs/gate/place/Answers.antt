-- `gate::place` meets its contract: an account that is a number below 16 is its own place, and any other is past the last. Assumes nothing.
use mathlib.Core.Path.{◌≡◌, refl, ap, ◌∙◌}
use mathlib.Core.Bool.{Bool, true, false, not}
use Prim.Native.Nat.{ℕ, ◌<◌, ◌≤◌}
use native.Mathlib.Omega.{arith}
use borrow.Author.Tests.{lt-ltb, le-ltb}
use lib.IntN.{ℤ, pos, negsuc, nat_abs}
use mir.Facts.{to_z-of_z}
use Rattle.std.specs.Int.{FitsUnsignedBits}
use Rattle.whole.specs.Bounds.{between}
use Rattle.whole.specs.Refusals.{first_code, no_account}
use Rattle.whole.proofs.Bounds.{amid, between_yes}
use Rattle.whole.proofs.Parameters.{index_is}
use Rattle.whole.proofs.Refusals.{none, hit, miss, code}
use Rattle.whole.proofs.Rules.{ints}
use Rattle.engine.specs.Refused.{place_of, account_refusals}
use Rattle.engine.proofs.gate.place.Goals as goal

-- an account of the book
placed : (account : ℤ) → FitsUnsignedBits 64 account → nat_abs account < 16 → nat_abs account ≡ place_of account
unfolding place_of
placed (pos n) f h = let e : between (pos 0) (pos n) (pos 15) ≡ true = between_yes (omega ints) (omega ints) in rw e refl
placed (negsuc n) f h = absurd f

-- any other
past : (account : ℤ) → (FitsUnsignedBits 64 account → 16 ≤ nat_abs account) → 16 ≡ place_of account
unfolding place_of
past account h = by (between (pos 0) account (pos 15)) refl
  where
    unsigned : (z : ℤ) → between (pos 0) z (pos 15) ≡ true → FitsUnsignedBits 64 z
    unsigned (pos n) e = let i = index_is (pos n) 15 e in omega arith
    unsigned (negsuc n) e = absurd (amid e).from.le

    by : (b : Bool) → between (pos 0) account (pos 15) ≡ b → 16 ≡ place_of account
    by true e = absurd (let i = index_is account 15 e in let j = h (unsigned account e) in omega arith)
    by false e = rw e refl

passed : (i : ℕ) → i < 16 → 0 ≡ first_code (account_refusals i)
passed i h = code (miss (ap not (lt-ltb i 16 h)) none)

refused : (i : ℕ) → 16 ≡ i → no_account ≡ first_code (account_refusals i)
refused i e = code (hit (ap not (le-ltb i 16 (omega arith))))

pub returns-in-Ok-clause-place : goal.returns-in-Ok-clause-place
returns-in-Ok-clause-place c = let o = rw (to_z-of_z c.ranges.account) at c.in-Ok.ensures in o.1 ∙ placed c.args.account o.0 (rw (← o.1) (omega arith))

pub returns-in-Ok-clause-code : goal.returns-in-Ok-clause-code
returns-in-Ok-clause-code c =
    let o = rw (to_z-of_z c.ranges.account) at c.in-Ok.ensures in
    let e = o.1 ∙ placed c.args.account o.0 (rw (← o.1) (omega arith)) in
    passed _ (rw (← e) (omega arith))

pub returns-in_default-clause-code : goal.returns-in_default-clause-code
returns-in_default-clause-code c = let o = rw (to_z-of_z c.ranges.account) at c.in-Ok.ensures in refused _ (past c.args.account (λ f. rw (← o.1) (omega arith)))

pub returns-in_default-2-clause-code : goal.returns-in_default-2-clause-code
returns-in_default-2-clause-code c = refused _ (past c.args.account (λ f. absurd ((rw (to_z-of_z c.ranges.account) at c.in_default.ensures) f)))
