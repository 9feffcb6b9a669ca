-- `ordering::order_checks` meets its contract: the choice and its listing are code 7, the amounts code 8. Assumes nothing.
use mathlib.Core.Path.{◌≡◌, sym, ap, ◌∙◌}
use mathlib.Core.Bool.{Bool, ◌&&◌}
use mathlib.Core.List.{List}
use native.Mathlib.Omega.{arith}
use lib.IntN.{ℤ, nat_abs}
use mir.Facts.{to_z-of_z}
use mir.Syntax.{w64}
use mir.Val.{SFits}
use borrow.Author.Rules.{sfits_of}
use Rattle.whole.proofs.Machine.{back}
use Rattle.whole.proofs.Parameters.{codes, index}
use Rattle.whole.proofs.Tests.{passed, failed, first_out, and_then, and_left}
use Rattle.rates.specs.Tables.{listed}
use Rattle.book.specs.Choices.{choice_right}
use Rattle.engine.proofs.ordering.order_checks.Goals as goal
use Rattle.engine.proofs.ordering.order_checks.Goals.{Joined-choice_right, then-choice_right, else-choice_right}

pub overflow_cast-o : goal.overflow_cast-o
overflow_cast-o c = index 15 (omega arith) (sfits_of c.struct_told-1.given.0.1) (and_left _ _ (passed c.choice_right.ensures c.if-choice_right.true))

-- what is heard of the listing, from the tables and the asset
listing_heard : (clearing : List ℤ) (asset : ℤ) {b : Bool} → SFits w64 asset → b ≡ listed clearing (nat_abs (back asset)) → b ≡ listed clearing (nat_abs asset)
listing_heard clearing asset f e = e ∙ ap (λ (z : ℤ). listed clearing (nat_abs z)) (to_z-of_z f)

-- what the test says: the listing is asked of a right choice alone
chosen : (c : Joined-choice_right) → let a = c.args in c.if-choice_right.value ≡ choice_right a.o && listed a.clearing.now (nat_abs a.o.asset)
chosen c = elim c.if-choice_right.branch [
  | then-choice_right w ↦ let e = listing_heard c.args.clearing.now c.args.o.asset (sfits_of w.struct_told-1.given.0.1) (w.value-is ∙ w.is_listed.ensures) in
      and_then _ _ (passed c.choice_right.ensures w.if-choice_right.true) e
  | else-choice_right w ↦ w.value-is ∙ w.if-choice_right.false ∙ sym (first_out _ _ (failed c.choice_right.ensures w.if-choice_right.false))
]

pub returns-then-not-is_listed : goal.returns-then-not-is_listed
returns-then-not-is_listed c = let e = chosen (goal.at.returns-then-not-is_listed c).Joined-choice_right in search codes

pub returns-then-not-amounts_right : goal.returns-then-not-amounts_right
returns-then-not-amounts_right c = let e = chosen (goal.at.returns-then-not-amounts_right c).Joined-choice_right in search codes

pub returns : goal.returns
returns c = let e = chosen (goal.at.returns c).Joined-choice_right in search codes
