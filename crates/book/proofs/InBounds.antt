-- Laws of the bounds of a block: the ranges that they give, stretch by stretch and by place. Assumes nothing.
use mathlib.Core.Path.{◌≡◌, refl, sym, ap, ◌∙◌, subst}
use mathlib.Core.Bool.{true}
use mathlib.Core.List.{List, map}
use Prim.Native.Nat.{ℕ, ◌+◌, ◌*◌, ◌<◌}
use native.Mathlib.Omega.{arith}
use lib.IntN.{ℤ, pos}
use lib.ListN.{length, drop}
use lib.Seq.{get_or-drop}
use Rattle.whole.specs.Bounds.{between, ◌within◌, ◌upto◌}
use Rattle.whole.specs.Marks.{all_true, every}
use Rattle.whole.specs.Parts.{number}
use Rattle.whole.proofs.Bounds.{amid, upto_by, upto_within, wider}
use Rattle.whole.proofs.Marks.{all_numbers}
use Rattle.whole.proofs.Parts.{part_at}
use Rattle.whole.proofs.Rules.{ints}
use Rattle.whole.proofs.Tests.{and_left, and_right}
use Rattle.whole.proofs.Every.{every_at}
use Rattle.book.specs.Block.{ruble_numbers, holding_of, collateral, claim, obligation}
use Rattle.book.specs.Rules.{rubles_right, collateral_right, quantity_right, holding_right, in_bounds, holding_right_at}
use Rattle.book.specs.Ranges.{HoldingRanges, RubleRanges}
use Rattle.book.proofs.Amounts.{large}
use Rattle.book.proofs.Blocks.{rubles_length, holding_length_lem}

-- 0 keeps every bound
pub zero_rubles : rubles_right (pos 0) ≡ true
unfolding between
zero_rubles = refl

pub zero_collateral : collateral_right (pos 0) ≡ true
unfolding between
zero_collateral = refl

pub zero_quantity : quantity_right (pos 0) ≡ true
unfolding between
zero_quantity = refl

-- ---- a holding of 17 numbers that keeps its bounds
module _ (holding : List ℤ) (long : length holding ≡ 17) (right : holding_right holding ≡ true) where
  pub collateral_right_lem : collateral_right (collateral holding) ≡ true
  unfolding holding_right
  collateral_right_lem = and_left _ (all_true (map quantity_right (drop 1 holding))) right

  pub quantities_right : all_true (map quantity_right (drop 1 holding)) ≡ true
  unfolding holding_right
  quantities_right = and_right (collateral_right (collateral holding)) _ right

  quantity_right_lem : (k : ℕ) → quantity_right (number holding (1 + k)) ≡ true
  quantity_right_lem k = ap quantity_right (sym (get_or-drop 1 holding k (pos 0))) ∙ all_numbers quantity_right (drop 1 holding) (pos 0) zero_quantity quantities_right k

  pub holding_range : HoldingRanges holding
  holding_range = record {
    long = long;
    collateral_within = let a = amid collateral_right_lem in omega ints;
    claim_upto = λ d l. upto_by (omega arith) (quantity_right_lem d);
    obligation_upto = λ d l. upto_by (omega arith)
        (ap (λ (k : ℕ). quantity_right (number holding k)) (let e : 9 + d ≡ 1 + (8 + d) = omega arith in e) ∙ quantity_right_lem (8 + d));
  }

-- the numbers of date 0, as amounts
module _ {holding : List ℤ} (h : HoldingRanges holding) where
  pub collateral_size : collateral holding within large
  collateral_size = wider large h.collateral_within (omega arith)

  pub claim_size : claim holding 0 within large
  claim_size = wider large (upto_within (h.claim_upto 0 (omega arith))) (omega arith)

  pub obligation_size : obligation holding 0 within large
  obligation_size = wider large (upto_within (h.obligation_upto 0 (omega arith))) (omega arith)

-- ---- a block of 288 numbers that keeps its bounds
module _ (block : List ℤ) (long : length block ≡ 288) (right : in_bounds block ≡ true) where
  pub rubles_right_lem : all_true (map rubles_right (ruble_numbers block)) ≡ true
  unfolding in_bounds
  rubles_right_lem = and_left _ (every 16 (holding_right_at block)) right

  pub all_holdings_right : every 16 (holding_right_at block) ≡ true
  unfolding in_bounds
  all_holdings_right = and_right (all_true (map rubles_right (ruble_numbers block))) _ right

  pub holding_right_at_lem : (a : ℕ) → a < 16 → holding_right (holding_of block a) ≡ true
  holding_right_at_lem a l = every_at (holding_right_at block) 16 a l all_holdings_right

  pub ruble_ranges : RubleRanges (ruble_numbers block)
  ruble_ranges = record {
    long = rubles_length block long;
    each_within = λ k l. let a = amid (all_numbers rubles_right (ruble_numbers block) (pos 0) zero_rubles rubles_right_lem k) in omega ints;
  }

  pub holding_ranges : (a : ℕ) → a < 16 → HoldingRanges (holding_of block a)
  holding_ranges a l = holding_range (holding_of block a) (holding_length_lem block long a l) (holding_right_at_lem a l)

  -- the numbers by their places
  pub ruble_at : (i : ℕ) → i < 9 → number block (1 + i) within large
  ruble_at i l = subst (λ (z : ℤ). z within large) (part_at (pos 0) 1 9 block i l) (ruble_ranges.each_within i l)

  pub collateral_at_lem : (a : ℕ) → a < 16 → number block (16 + 17 * a) within 1000000
  collateral_at_lem a l = subst (λ (z : ℤ). z within 1000000)
      (part_at (pos 0) (16 + 17 * a) 17 block 0 (omega arith) ∙ ap (number block) (let e : 16 + 17 * a + 0 ≡ 16 + 17 * a = omega arith in e))
      (holding_ranges a l).collateral_within

  pub quantity_at_lem : (a i : ℕ) → a < 16 → i < 16 → number block (16 + 17 * a + (1 + i)) upto 1000000
  quantity_at_lem a i l h = upto_by (omega arith)
      (ap quantity_right (sym (part_at (pos 0) (16 + 17 * a) 17 block (1 + i) (omega arith)))
      ∙ quantity_right_lem (holding_of block a) (holding_length_lem block long a l) (holding_right_at_lem a l) i)
