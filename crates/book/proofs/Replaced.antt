-- Laws of a block in which a number was replaced: what its stretches are then, and what its bounds come to. Assumes nothing.
use mathlib.Core.Path.{◌≡◌, refl, ap, ap₂, ◌∙◌}
use mathlib.Core.Logic.{◌⊎◌, inl, inr, ⊎_elim}
use mathlib.Core.Bool.{true, ◌&&◌}
use mathlib.Core.List.{List, map}
use Prim.Native.Nat.{ℕ, ◌+◌, ◌*◌, ◌≤◌, ◌<◌}
use native.Mathlib.Omega.{arith}
use lib.IntN.{ℤ, pos}
use lib.ListN.{length, drop, set, length-drop}
use lib.Seq.{drop-set-add, drop-set-lt, get_or-set_same, get_or-set_other}
use Rattle.whole.specs.Marks.{all_true, every}
use Rattle.whole.proofs.Numbers.{lt_or_ge}
use Rattle.whole.proofs.Every.{every_but}
use Rattle.book.specs.Block.{ruble_numbers, holding_of}
use Rattle.book.specs.Rules.{rubles_right, collateral_right, quantity_right, holding_right, in_bounds, holding_right_at}
use Rattle.whole.proofs.Lists.{part_set, part_set_other, all, all_set, and-true}
use Rattle.book.proofs.Blocks.{rubles_length, holding_length_lem}
use Rattle.book.proofs.Holdings.{holdings_same}
use Rattle.book.proofs.InBounds.{collateral_right_lem, quantities_right, rubles_right_lem, all_holdings_right, holding_right_at_lem}

-- ---- a holding of 17 numbers in bounds, one of them replaced: its test decides
module _ (holding : List ℤ) (long : length holding ≡ 17) (right : holding_right holding ≡ true) where
  pub set_collateral_right : (x : ℤ) → holding_right (set holding 0 x) ≡ collateral_right x
  unfolding holding_right
  set_collateral_right x =
      ap₂ ◌&&◌ (ap collateral_right (get_or-set_same holding 0 x (pos 0) (omega arith)))
      (ap (λ (l : List ℤ). all_true (map quantity_right l)) (drop-set-lt 1 holding 0 x (omega arith)) ∙ quantities_right holding long right)
      ∙ and-true (collateral_right x)

  pub set_quantity_right : (i : ℕ) (x : ℤ) → i < 16 → holding_right (set holding (1 + i) x) ≡ quantity_right x
  unfolding holding_right
  set_quantity_right i x l =
      ap₂ ◌&&◌ (ap collateral_right (get_or-set_other holding (1 + i) 0 x (pos 0) (λ e. omega arith)) ∙ collateral_right_lem holding long right)
      (ap (λ (l : List ℤ). all_true (map quantity_right l)) (drop-set-add 1 holding i x)
      ∙ all_set quantity_right (drop 1 holding) i x (omega (arith, length-drop 1 holding)) (quantities_right holding long right))

-- ---- what the stretches are where number k was replaced
module _ (block : List ℤ) (k : ℕ) (x : ℤ) where
  pub rubles_beside : 10 ≤ k → ruble_numbers (set block k x) ≡ ruble_numbers block
  rubles_beside h = part_set_other 1 9 block x k (inr h)

  pub rubles_set : (i : ℕ) → i < 9 → k ≡ 1 + i → ruble_numbers (set block k x) ≡ set (ruble_numbers block) i x
  rubles_set i l e = ap (λ (j : ℕ). ruble_numbers (set block j x)) e ∙ part_set 1 9 block x i l

  pub holding_beside : (a : ℕ) → (k < 16 + 17 * a) ⊎ (16 + 17 * a + 17 ≤ k) → holding_of (set block k x) a ≡ holding_of block a
  holding_beside a h = part_set_other (16 + 17 * a) 17 block x k h

  pub holding_set : (a i : ℕ) → i < 17 → k ≡ 16 + 17 * a + i → holding_of (set block k x) a ≡ set (holding_of block a) i x
  holding_set a i l e = ap (λ (j : ℕ). holding_of (set block j x) a) e ∙ part_set (16 + 17 * a) 17 block x i l

  -- every holding where it stands before them
  pub holdings_beside : k < 16 → every 16 (holding_right_at (set block k x)) ≡ every 16 (holding_right_at block)
  holdings_beside h = holdings_same (set block k x) block 16 (λ a l. holding_beside a (inl (omega arith)))

-- ---- the bounds of a block in which numbers were replaced
module _ (block : List ℤ) (long : length block ≡ 288) (right : in_bounds block ≡ true) where
  rubles_then : (i : ℕ) (x : ℤ) → i < 9 → all_true (map rubles_right (set (ruble_numbers block) i x)) ≡ rubles_right x
  rubles_then i x l =
      all_set rubles_right (ruble_numbers block) i x (omega (arith, rubles_length block long)) (rubles_right_lem block long right)

  holdings_then : (k : ℕ) (x : ℤ) (a i : ℕ) → a < 16 → i < 17 → k ≡ 16 + 17 * a + i → every 16 (holding_right_at (set block k x)) ≡ holding_right (set (holding_of block a) i x)
  holdings_then k x a i l h e =
      every_but (holding_right_at (set block k x)) 16 a l
      (λ b q apart. ap holding_right (holding_beside block k x b (⊎_elim (λ p. inl (omega arith)) (λ p. inr (omega arith)) (lt_or_ge a b)))
      ∙ holding_right_at_lem block long right b q)
      ∙ ap holding_right (holding_set block k x a i h e)

  -- a number of the rubles
  pub ruble_bounds : (i : ℕ) (x : ℤ) → i < 9 → in_bounds (set block (1 + i) x) ≡ rubles_right x
  unfolding in_bounds
  ruble_bounds i x l =
      ap₂ ◌&&◌ (ap (all rubles_right) (rubles_set block (1 + i) x i l refl) ∙ rubles_then i x l)
      (holdings_beside block (1 + i) x (omega arith) ∙ all_holdings_right block long right)
      ∙ and-true (rubles_right x)

  -- an asset's collateral
  pub collateral_bounds : (a : ℕ) (x : ℤ) → a < 16 → in_bounds (set block (16 + 17 * a) x) ≡ collateral_right x
  unfolding in_bounds
  collateral_bounds a x l =
      ap₂ ◌&&◌ (ap (all rubles_right) (rubles_beside block (16 + 17 * a) x (omega arith)) ∙ rubles_right_lem block long right)
      (holdings_then (16 + 17 * a) x a 0 l (omega arith) (omega arith)
      ∙ set_collateral_right (holding_of block a) (holding_length_lem block long a l) (holding_right_at_lem block long right a l) x)

  -- an asset's claim or obligation, and a ruble net
  pub trade_bounds : (k a i d : ℕ) (x y : ℤ) → a < 16 → i < 16 → d < 8 → k ≡ 16 + 17 * a + (1 + i)
      → in_bounds (set (set block k x) (2 + d) y) ≡ rubles_right y && quantity_right x
  unfolding in_bounds
  trade_bounds k a i d x y l h m e =
      ap₂ ◌&&◌
      (ap (all rubles_right) (rubles_set (set block k x) (2 + d) y (1 + d) (omega arith) (omega arith)
      ∙ ap (λ (s : List ℤ). set s (1 + d) y) (rubles_beside block k x (omega arith)))
      ∙ rubles_then (1 + d) y (omega arith))
      (holdings_beside (set block k x) (2 + d) y (omega arith)
      ∙ holdings_then k x a (1 + i) l (omega arith) e
      ∙ set_quantity_right (holding_of block a) (holding_length_lem block long a l) (holding_right_at_lem block long right a l) i x h)
