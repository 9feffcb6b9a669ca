-- `opening::open_gate` meets its contract: an open account is asked for first, which no block of zeros is; so 5 stands before 6. Assumes nothing.
use mathlib.Core.Path.{◌≡◌, sym, ap, ◌∙◌, subst}
use mathlib.Core.Bool.{not, ◌||◌}
use mathlib.Core.List.{List, [], ◌∷◌, ◌++◌}
use Prim.Native.Nat.{ℕ}
use lib.IntN.{ℤ, pos}
use mir.Facts.{to_z-of_z}
use Rattle.whole.specs.Bounds.{between}
use Rattle.whole.specs.Refusals.{Refusal, ◌gives◌, first_code}
use Rattle.whole.specs.Marks.{all_zero}
use Rattle.whole.proofs.Parameters.{codes}
use Rattle.whole.proofs.Refusals.{none, hit, miss, code, follows}
use Rattle.book.specs.Block.{account_kind}
use Rattle.book.specs.AtAccount.{InBook}
use Rattle.engine.specs.State.{State, state, block_at}
use Rattle.engine.specs.Refused.{place_of, book_gate}
use Rattle.engine.proofs.Exits.{exit_stops}
use Rattle.engine.proofs.Gates.{at_place, book_passed}
use Rattle.engine.proofs.opening.open_gate.Goals as goal
use Rattle.engine.proofs.opening.open_gate.Goals.{After-block_of-block}

-- the list past the gate
abbrev past : List ℤ → List Refusal
past b =
    not (all_zero b || between (pos 1) (account_kind b) (pos 3)) gives 6
    ∷ between (pos 1) (account_kind b) (pos 3) gives 5
    ∷ []

-- the gate let through, and gave the place
module _ (i : ℕ) (s : State) (gate_0 : 0 ≡ first_code (book_gate i s)) (j : ℕ) (placed : j ≡ i) where
  there : InBook s.book j
  there = subst (InBook s.book) (sym placed) (book_passed i s (sym gate_0))

  past_gate : {n : ℕ} {b : List ℤ} → b ≡ block_at s j → n ≡ first_code (past b) → n ≡ first_code (book_gate i s ++ past (block_at s i))
  past_gate lent e =
      follows (book_gate i s) (past (block_at s i)) tt (sym gate_0) (e ∙ ap (λ (b : List ℤ). first_code (past b)) (lent ∙ ap (block_at s) placed))

-- past the gate, of the block that was lent
of_block : (c : After-block_of-block) {n : ℕ} → n ≡ first_code (past c.block_of-block.result.now)
    → let i = place_of c.args.account in let s = state c.args.book.now in n ≡ first_code (book_gate i s ++ past (block_at s i))
of_block c e = let f = c.ranges.account in
    past_gate (place_of c.args.account) (state c.args.book.now) (simp (to_z-of_z f) at c.in_ok-i.ensures.code) _ (at_place f c.in_ok-i.ensures.place)
    c.block_of-block.ensures.0 e

pub returns-in_err-i-clause-code : goal.returns-in_err-i-clause-code
returns-in_err-i-clause-code c = let i = place_of c.args.account in let s = state c.args.book.now in
    exit_stops _ _ c.from_residual.ensures.1 (book_gate i s) (past (block_at s i)) (simp (to_z-of_z c.ranges.account) at c.in_err-i.ensures.code)

pub block_of-block-requires : goal.block_of-block-requires
block_of-block-requires c = let f = c.ranges.account in
    there (place_of c.args.account) (state c.args.book.now) (simp (to_z-of_z f) at c.in_ok-i.ensures.code) _ (at_place f c.in_ok-i.ensures.place)

pub returns-then-number_between-clause-code : goal.returns-then-number_between-clause-code
returns-then-number_between-clause-code c = of_block (goal.at.returns-then-number_between-clause-code c).After-block_of-block (code (miss (search codes) (hit (search codes))))

pub returns-then-not-is_empty-clause-code : goal.returns-then-not-is_empty-clause-code
returns-then-not-is_empty-clause-code c = of_block (goal.at.returns-then-not-is_empty-clause-code c).After-block_of-block (code (hit (search codes)))

pub returns-clause-code : goal.returns-clause-code
returns-clause-code c = of_block (goal.at.returns-clause-code c).After-block_of-block (code (miss (search codes) (miss (search codes) none)))
