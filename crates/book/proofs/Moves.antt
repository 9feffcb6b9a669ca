-- Laws of a move: its place, and when it may be made, asked of its own number alone. Assumes nothing.
use mathlib.Core.Path.{◌≡◌, refl, ◌∙◌}
use mathlib.Core.Logic.{⊎_elim}
use mathlib.Core.Bool.{Bool, true, false, not, cond, ◌&&◌, ◌||◌}
use mathlib.Core.List.{List}
use Prim.Native.Nat.{ℕ, ◌+◌, ◌*◌, ◌<◌}
use native.Mathlib.Omega.{arith}
use lib.IntN.{ℤ, pos, negsuc, neg_ℤ, ◌+ℤ◌}
use lib.Signed.{lt_z, ◌≤ℤ◌}
use lib.ListN.{set}
use borrow.Author.Tests.{eq-eqb, ne_eqb, ltb-true}
use Rattle.whole.specs.Bounds.{between, ◌within◌}
use Rattle.whole.specs.Parts.{number}
use Rattle.whole.proofs.Bounds.{between_same, wider}
use Rattle.whole.proofs.Rules.{ints}
use Rattle.book.specs.Block.{most_rubles, most_units, rubles, move_at}
use Rattle.book.specs.Rules.{in_bounds}
use Rattle.book.specs.Changes.{added, most_of, least_after, moved, overdrawn, move_out}
use Rattle.book.specs.Ranges.{MoveAsset, Movable}
use Rattle.book.proofs.Amounts.{large}
use Rattle.book.proofs.Changed.{number_added}
use Rattle.book.proofs.InBounds.{ruble_at, collateral_at_lem}
use Rattle.book.proofs.Replaced.{ruble_bounds, collateral_bounds}

-- ---- the place and the bound: an asset's, or the rubles'
pub at_place : (P : ℕ → ℤ → Type 0) (asset : ℕ) → MoveAsset asset
    → (asset < 16 → P (16 + 17 * asset) (pos most_units)) → P 1 (pos most_rubles) → P (move_at asset) (most_of asset)
unfolding move_at most_of
at_place P asset m f g = ⊎_elim (λ l. rw (ne_eqb asset 255 (λ e. omega arith)) (f l)) (λ e. rw (eq-eqb asset 255 e) g) m

pub at_asset : {asset : ℕ} → asset < 16 → move_at asset ≡ 16 + 17 * asset
unfolding move_at
at_asset {asset} l = rw (ne_eqb asset 255 (λ e. omega arith)) refl

pub at_rubles : move_at rubles ≡ 1
unfolding move_at
at_rubles = refl

pub move_inside : (asset : ℕ) → MoveAsset asset → move_at asset < 288
move_inside asset m = at_place (λ k most. k < 288) asset m (λ l. omega arith) (omega arith)

-- ---- the code: below 0 after a withdrawal is asked by a higher least
below_zero : (z high : ℤ) → lt_z z (pos 0) ≡ true → between (pos 0) z high ≡ false
unfolding between
below_zero (pos n) high e = absurd (omega (arith, ltb-true n 0 e))
below_zero (negsuc n) high e = refl

nor_true : (a : Bool) → false ≡ not (a || true)
nor_true true = refl
nor_true false = refl

nor_false : (b : Bool) → b ≡ not (not b || false)
nor_false true = refl
nor_false false = refl

one_test : (withdrawal : Bool) (low z high : ℤ) → low ≤ℤ pos 0
    → between (cond withdrawal (pos 0) low) z high ≡ not (not (between low z high) || (withdrawal && lt_z z (pos 0)))
one_test false low z high h = nor_false (between low z high)
one_test true low z high h = pick (lt_z z (pos 0)) refl
  where
    pick : (b : Bool) → lt_z z (pos 0) ≡ b → between (pos 0) z high ≡ not (not (between low z high) || b)
    pick true e = below_zero z high e ∙ nor_true (not (between low z high))
    pick false e =
        between_same (pos 0) z high low z high (λ a. omega ints) (λ a. omega ints) (λ a. a) (λ a. a) ∙ nor_false (between low z high)

-- ---- a move in a block of 288 numbers in bounds: its own number alone decides
module _ (block : List ℤ) (asset : ℕ) (amount : ℤ) (p : Movable block asset amount) where
  in_bounds_after : in_bounds (moved block asset amount) ≡ between (neg_ℤ (most_of asset)) (number block (move_at asset) +ℤ amount) (most_of asset)
  unfolding moved added
  in_bounds_after = let b = p.bounded in at_place
      (λ k most. in_bounds (set block k (number block k +ℤ amount)) ≡ between (neg_ℤ most) (number block k +ℤ amount) most) asset p.movable
      (collateral_bounds block b.long b.in_bounds asset (number block (16 + 17 * asset) +ℤ amount))
      (ruble_bounds block b.long b.in_bounds 0 (number block 1 +ℤ amount) (omega arith))

  pub before_move : number block (move_at asset) within large
  before_move = let b = p.bounded in at_place (λ k most. number block k within large) asset p.movable
      (λ l. wider large (collateral_at_lem block b.long b.in_bounds asset l) (omega arith))
      (ruble_at block b.long b.in_bounds 0 (omega arith))

  pub move_test : between (least_after amount (most_of asset)) (number block (move_at asset) +ℤ amount) (most_of asset) ≡ not (move_out block asset amount)
  unfolding least_after overdrawn moved
  move_test =
      one_test (lt_z amount (pos 0)) (neg_ℤ (most_of asset)) (number block (move_at asset) +ℤ amount) (most_of asset)
      (at_place (λ k most. neg_ℤ most ≤ℤ pos 0) asset p.movable (λ l. omega ints) (omega ints))
      ∙ rw (in_bounds_after, number_added block (move_at asset) amount (rw p.bounded.long (move_inside asset p.movable))) refl
