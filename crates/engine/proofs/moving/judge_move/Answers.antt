-- `moving::judge_move` meets its contract: a deposit is not judged, and a withdrawal that leaves the limit negative is taken back, which leaves the book
-- as it was. Assumes nothing.
use mathlib.Core.Path.{◌≡◌, sym, ap, ap₂, ◌∙◌, subst}
use mathlib.Core.Bool.{Bool, not}
use mathlib.Core.List.{List}
use Prim.Native.Nat.{ℕ}
use native.Mathlib.Omega.{arith}
use lib.IntN.{ℤ, pos}
use lib.Signed.{le_z, lt_z}
use mir.Facts.{to_z-of_z}
use mir.Syntax.{w64}
use mir.Val.{SFits}
use Rattle.whole.proofs.Machine.{back}
use Rattle.whole.proofs.Parameters.{negative}
use Rattle.whole.proofs.Refusals.{none, hit, miss, code}
use Rattle.whole.proofs.Tests.{both, first_out, second_out}
use Rattle.rates.specs.Lent.{numbers_of}
use Rattle.book.specs.Changes.{moved}
use Rattle.book.specs.AtAccount.{at_account}
use Rattle.book.proofs.Amounts.{negated}
use Rattle.engine.specs.State.{State, state, with_book, changed_at}
use Rattle.engine.specs.Refused.{limit_of, enough, move_judged}
use Rattle.engine.specs.Ranges.{Judgeable}
use Rattle.engine.specs.Calls.{changing, judged_move}
use Rattle.engine.proofs.Judged.{judgeable_moved, returnable, moved_home}
use Rattle.engine.proofs.Outcomes.{turned_away, made}
use Rattle.engine.proofs.moving.judge_move.Goals as goal
use Rattle.engine.proofs.moving.judge_move.Goals.{After-is_enough}

-- the state with the move made
abbrev after : List ℤ → ℕ → ℕ → ℤ → State
after book i asset amount = changed_at i (λ b. moved b asset amount) (state book)

made_is : (book : List ℤ) (i asset : ℕ) {left : List ℤ} {amount : ℤ} → SFits w64 amount → left ≡ at_account book i (λ b. moved b asset (back amount))
    → left ≡ (after book i asset amount).book
made_is book i asset f e = e ∙ ap (λ (z : ℤ). at_account book i (λ b. moved b asset z)) (to_z-of_z f)

withdrawn : {amount : ℤ} {t : Bool} → SFits w64 amount → le_z (pos 0) (back amount) ≡ t → lt_z amount (pos 0) ≡ not t
withdrawn {amount} f e = negative amount ∙ ap (λ (z : ℤ). not (le_z (pos 0) z)) (sym (to_z-of_z f)) ∙ ap not e

-- a deposit
pub returns-then-amount-ge0 : goal.returns-then-amount-ge0
unfolding judged_move
returns-then-amount-ge0 c = let a = c.args in
    made (move_judged (numbers_of a.tables) a.i a.asset a.amount) a.i (λ b. moved b a.asset a.amount) (state a.book.now) tt
    (sym (code (miss (first_out _ _ (withdrawn c.ranges.amount c.if-amount-ge0.true)) none))) (made_is _ _ _ c.ranges.amount c.move_in.ensures)

pub limit_at-limit-requires : goal.limit_at-limit-requires
limit_at-limit-requires c = let a = c.args in
    subst (λ (b : List ℤ). Judgeable (numbers_of a.tables) a.i (with_book (state a.book.now) b)) (sym (made_is _ _ _ c.ranges.amount c.move_in.ensures))
    (judgeable_moved _ _ _ _ _ c.requires)

-- the limit that is looked at is that of the state with the move
admits : (c : After-is_enough) → let a = c.args in c.is_enough.result ≡ enough (limit_of (numbers_of a.tables) a.i (after a.book.now a.i a.asset a.amount))
admits c = let a = c.args in let limit = c.limit_at-limit.ensures in
    c.is_enough.ensures
    ∙ ap enough (to_z-of_z limit.1
    ∙ limit.0
    ∙ ap (λ (b : List ℤ). limit_of (numbers_of a.tables) a.i (with_book (state a.book.now) b)) (made_is _ _ _ c.ranges.amount c.move_in.ensures))

pub returns-then-is_enough : goal.returns-then-is_enough
unfolding judged_move
returns-then-is_enough c = let a = c.args in let e = admits (goal.at.returns-then-is_enough c).After-is_enough in
    made (move_judged (numbers_of a.tables) a.i a.asset a.amount) a.i (λ b. moved b a.asset a.amount) (state a.book.now) tt
    (sym (code (miss (second_out (lt_z a.amount (pos 0)) _ (ap not (sym e ∙ c.if-is_enough.true))) none))) (made_is _ _ _ c.ranges.amount c.move_in.ensures)

pub move_in-requires-2 : goal.move_in-requires-2
move_in-requires-2 c = rw (made_is _ _ _ c.ranges.amount c.move_in.ensures, negated c.requires.movable.amount_within) (returnable _ _ _ _ _ c.requires)

pub returns : goal.returns
unfolding judged_move
returns c =
    let a = c.args in
    let e = admits (goal.at.returns c).After-is_enough in
    turned_away (move_judged (numbers_of a.tables) a.i a.asset a.amount) (changing a.i (λ b. moved b a.asset a.amount)) (state a.book.now)
    (code (hit (both _ _ (withdrawn c.ranges.amount c.if-amount-ge0.false) (ap not (sym e ∙ c.if-is_enough.false))))) (λ z. omega arith)
    (c.move_in-2.ensures
    ∙ ap₂ (λ (b : List ℤ) (z : ℤ). at_account b a.i (λ b. moved b a.asset z)) (made_is _ _ _ c.ranges.amount c.move_in.ensures) (negated c.requires.movable.amount_within)
    ∙ moved_home _ _ _ _ _ c.requires)
