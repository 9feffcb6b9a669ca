-- `opening::judge_opening` meets its contract: the block is opened, the code that it makes is looked at, and where that is not right the block is closed
-- again, which leaves the book as it was. Assumes nothing.
use mathlib.Core.Path.{◌≡◌, refl, sym, ap, ◌∙◌}
use mathlib.Core.Bool.{Bool}
use mathlib.Core.List.{List}
use Prim.Native.Nat.{ℕ}
use native.Mathlib.Omega.{arith}
use lib.IntN.{ℤ, pos}
use mir.Facts.{to_z-of_z}
use Rattle.whole.proofs.Parameters.{heard}
use Rattle.whole.proofs.Refusals.{none, hit, miss, code}
use Rattle.whole.proofs.Tests.{both, first_out, second_out, denied, refuted}
use Rattle.book.specs.Rules.{kind_right}
use Rattle.book.specs.Changes.{opened}
use Rattle.book.specs.AtAccount.{at_account}
use Rattle.settlement.specs.Code.{code_right}
use Rattle.engine.specs.State.{State, state, changed_at}
use Rattle.engine.specs.Refused.{open_judged}
use Rattle.engine.specs.Calls.{changing, judged_opening}
use Rattle.engine.proofs.Judged.{closed_again}
use Rattle.engine.proofs.Outcomes.{turned_away, made}
use Rattle.engine.proofs.opening.judge_opening.Goals as goal
use Rattle.engine.proofs.opening.judge_opening.Goals.{After-open_in, After-code_right}

-- the state with the block opened, and whether its code is right
abbrev after : List ℤ → ℕ → ℤ → ℤ → State
after book i kind code = changed_at i (λ b. opened b kind code) (state book)

abbrev right_after : List ℤ → ℕ → ℤ → ℤ → Bool
right_after book i kind code = code_right (after book i kind code).book i

opened_is : (c : After-open_in) → let a = c.args in c.open_in.new.book ≡ (after a.book.now a.i a.kind a.code).book
opened_is c = c.open_in.ensures ∙ (λ t. at_account c.args.book.now c.args.i (λ b. opened b (to_z-of_z c.ranges.kind t) (to_z-of_z c.ranges.code t)))

right_is : (c : After-code_right) → let a = c.args in c.code_right.result ≡ right_after a.book.now a.i a.kind a.code
right_is c = c.code_right.ensures ∙ ap (λ (b : List ℤ). code_right b c.args.i) (opened_is (goal.at.After-code_right c).After-open_in)

pub returns-then-not-lies_between : goal.returns-then-not-lies_between
unfolding judged_opening
returns-then-not-lies_between c = let a = c.args in
    turned_away (open_judged a.i a.kind a.code) (changing a.i (λ b. opened b a.kind a.code)) (state a.book.now)
    (code (hit (refuted (first_out (kind_right a.kind) (right_after a.book.now a.i a.kind a.code) (sym (heard (pos 1) (pos 3) c.ranges.kind c.if-not-lies_between.ensures))))))
    (λ z. omega arith) refl

pub returns-then-code_right : goal.returns-then-code_right
unfolding judged_opening
returns-then-code_right c =
    let a = c.args in
    let at = goal.at.returns-then-code_right c in
    made (open_judged a.i a.kind a.code) a.i (λ b. opened b a.kind a.code) (state a.book.now) tt
    (sym (code (miss (denied (both (kind_right a.kind) (right_after a.book.now a.i a.kind a.code)
    (sym (heard (pos 1) (pos 3) c.ranges.kind c.if-not-lies_between.ensures)) (sym (right_is at.After-code_right) ∙ c.if-code_right.true))) none)))
    (opened_is at.After-open_in)

pub returns : goal.returns
unfolding judged_opening
returns c =
    let a = c.args in
    let at = goal.at.returns c in
    turned_away (open_judged a.i a.kind a.code) (changing a.i (λ b. opened b a.kind a.code)) (state a.book.now)
    (code (hit (refuted (second_out (kind_right a.kind) (right_after a.book.now a.i a.kind a.code) (sym (right_is at.After-code_right) ∙ c.if-code_right.false)))))
    (λ z. omega arith)
    (c.open_in-2.ensures
    ∙ ap (λ (b : List ℤ). at_account b a.i (λ b. opened b (pos 0) (pos 0))) (opened_is at.After-open_in)
    ∙ closed_again a.i (state a.book.now) a.kind a.code c.requires)
