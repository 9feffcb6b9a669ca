-- Laws of good blocks, open or not: a good block is in bounds, every number of it is in its range, one look tells that it is good and holds listed
-- assets only, and a change that leaves the head alone and the bounds kept leaves an open block good. Assumes nothing.
use mathlib.Core.Path.{◌≡◌, refl, sym, ap, ◌∙◌}
use mathlib.Core.Logic.{inl, inr}
use mathlib.Core.Bool.{Bool, true, false, cond, ◌&&◌, ◌||◌, and_assoc, and_comm}
use mathlib.Core.List.{List, map}
use Prim.Native.Nat.{ℕ, ◌+◌, ◌*◌, ◌≤◌, ◌<◌}
use native.Mathlib.Omega.{arith}
use lib.IntN.{ℤ, pos}
use lib.ListN.{length, drop}
use Rattle.whole.specs.Bounds.{between, is_zero, ◌upto◌}
use Rattle.whole.specs.Marks.{all_true, all_zero, every}
use Rattle.whole.specs.Parts.{part, number}
use Rattle.whole.proofs.Bounds.{amid, equal_says}
use Rattle.whole.proofs.Marks.{all_at, all_numbers}
use Rattle.whole.proofs.Lists.{all_take, all_drop, all_by}
use Rattle.whole.proofs.Rules.{ints}
use Rattle.whole.proofs.Tests.{both, and_left, and_right, either_left, either_right}
use Rattle.whole.proofs.Every.{every_by}
use Rattle.rates.specs.Tables.{listed}
use Rattle.book.specs.Block.{account_kind, ruble_numbers, holding_of, collateral, InHead}
use Rattle.book.specs.Rules.{rubles_right, collateral_right, quantity_right, head_marks, holding_right, holding_right_at, in_bounds, good_block, stands}
use Rattle.book.specs.Rules.{listed_if_held, holds_listed}
use Rattle.book.specs.Ranges.{BlockRanges}
use Rattle.book.proofs.Holdings.{every_both, listed_by}
use Rattle.book.proofs.InBounds.{zero_rubles, zero_collateral, zero_quantity, ruble_ranges, holding_ranges}

-- ---- the two kinds of good blocks
module _ (block : List ℤ) where
  pub good_open : is_zero (account_kind block) ≡ false → good_block block ≡ all_true (head_marks block) && in_bounds block
  unfolding good_block
  good_open e = simp e

  -- what holds of both holds of every good block
  either_kind : {P : Type 0} → (all_zero block ≡ true → P) → (all_true (head_marks block) ≡ true → in_bounds block ≡ true → P) → good_block block ≡ true → P
  unfolding good_block
  either_kind {P} f g = go (is_zero (account_kind block))
    where
      go : (t : Bool) → cond t (all_zero block) (all_true (head_marks block) && in_bounds block) ≡ true → P
      go true e = f e
      go false e = g (and_left (all_true (head_marks block)) (in_bounds block) e) (and_right (all_true (head_marks block)) (in_bounds block) e)

-- ---- zeros keep every bound
pub number_zero : (numbers : List ℤ) → all_zero numbers ≡ true → (k : ℕ) → number numbers k ≡ pos 0
unfolding all_zero between
number_zero numbers empty k = equal_says (all_numbers is_zero numbers (pos 0) refl empty k)

zeros_keep : (test : ℤ → Bool) → test (pos 0) ≡ true → (numbers : List ℤ) → all_zero numbers ≡ true → all_true (map test numbers) ≡ true
zeros_keep test zero numbers empty = all_by test (pos 0) numbers (λ k h. ap test (number_zero numbers empty k) ∙ zero)

empty_holding : (holding : List ℤ) → all_zero holding ≡ true → holding_right holding ≡ true
unfolding holding_right all_zero
empty_holding holding empty =
    both (collateral_right (collateral holding)) (all_true (map quantity_right (drop 1 holding)))
    (ap collateral_right (number_zero holding empty 0) ∙ zero_collateral)
    (zeros_keep quantity_right zero_quantity (drop 1 holding) (all_drop is_zero 1 holding empty))

-- so an empty block is in bounds, and holds no unlisted asset
module _ (block : List ℤ) (empty : all_zero block ≡ true) where
  part_empty : (a n : ℕ) → all_zero (part a n block) ≡ true
  unfolding all_zero part
  part_empty a n = all_take is_zero n (drop a block) (all_drop is_zero a block empty)

  pub empty_in_bounds : in_bounds block ≡ true
  unfolding in_bounds
  empty_in_bounds =
      both (all_true (map rubles_right (ruble_numbers block))) _
      (zeros_keep rubles_right zero_rubles (ruble_numbers block) (part_empty 1 9))
      (every_by (holding_right_at block) 16 (λ a l. empty_holding (holding_of block a) (part_empty (16 + 17 * a) 17)))

  empty_listed : (clearing : List ℤ) → holds_listed block clearing ≡ true
  empty_listed clearing = listed_by block clearing (λ a l. either_right (listed clearing a) _ (part_empty (16 + 17 * a) 17))

-- ---- one look at a holding, and at a block, for both tests: its bounds, and that nothing unlisted is held
-- a test says nothing beside one that it follows from
follows : (a b : Bool) → (a ≡ true → b ≡ true) → a ≡ a && b
follows true b h = sym (h refl)
follows false b h = refl

module _ (block clearing : List ℤ) where
  module _ (a : ℕ) where
    pub stands_listed : listed clearing a ≡ true → holding_right_at block a ≡ holding_right_at block a && listed_if_held block clearing a
    stands_listed e = follows (holding_right_at block a) _ (λ h. either_left (listed clearing a) _ e)

    pub stands_unlisted : listed clearing a ≡ false → all_zero (holding_of block a) ≡ holding_right_at block a && listed_if_held block clearing a
    stands_unlisted e =
        follows (all_zero (holding_of block a)) (holding_right_at block a) (empty_holding (holding_of block a))
        ∙ and_comm (all_zero (holding_of block a)) (holding_right_at block a)
        ∙ ap (λ (t : Bool). holding_right_at block a && (t || all_zero (holding_of block a))) (sym e)

-- a block as it stands by a test of each asset
module _ (block : List ℤ) (test : ℕ → Bool) where
  pub stands_by_zeros : is_zero (account_kind block) ≡ true → all_zero block ≡ stands block test
  unfolding stands
  stands_by_zeros e = rw e refl

  pub stands_by_parts : is_zero (account_kind block) ≡ false
      → (all_true (head_marks block) && all_true (map rubles_right (ruble_numbers block))) && every 16 test ≡ stands block test
  unfolding stands
  stands_by_parts e = rw e (and_assoc (all_true (head_marks block)) _ _)

-- with both tests of each asset it is good and holds nothing unlisted
module _ (block clearing : List ℤ) where
  both_asked : ℕ → Bool
  both_asked a = holding_right_at block a && listed_if_held block clearing a

  opened : Bool → Bool
  opened t = all_true (head_marks block) && (all_true (map rubles_right (ruble_numbers block)) && t)

  asked_apart : opened (every 16 both_asked) ≡ opened (every 16 (holding_right_at block)) && holds_listed block clearing
  unfolding opened both_asked holds_listed
  asked_apart = ap opened (every_both (holding_right_at block) (listed_if_held block clearing) 16) ∙ simp and_assoc refl

  pub stands_by_both : stands block (λ a. holding_right_at block a && listed_if_held block clearing a) ≡ good_block block && holds_listed block clearing
  unfolding stands good_block in_bounds opened both_asked
  stands_by_both = go (is_zero (account_kind block))
    where
      go : (t : Bool) → cond t (all_zero block) (opened (every 16 both_asked)) ≡ cond t (all_zero block) (opened (every 16 (holding_right_at block))) && holds_listed block clearing
      go true = follows (all_zero block) (holds_listed block clearing) (λ z. empty_listed block z clearing)
      go false = asked_apart

  -- of a block that is not open, and of an open one: its head, its rubles, then its holdings
  pub stands_closed : is_zero (account_kind block) ≡ true → all_zero block ≡ good_block block && holds_listed block clearing
  stands_closed e = stands_by_zeros block (λ a. holding_right_at block a && listed_if_held block clearing a) e ∙ stands_by_both

  pub stands_open : is_zero (account_kind block) ≡ false
      → good_block block && holds_listed block clearing
      ≡ all_true (head_marks block) && (all_true (map rubles_right (ruble_numbers block)) && (every 16 (holding_right_at block) && holds_listed block clearing))
  unfolding in_bounds
  stands_open e = rw (good_open block e) (simp and_assoc refl)

-- ---- every good block
module _ (block : List ℤ) (long : length block ≡ 288) (good : good_block block ≡ true) where
  pub good_in_bounds : in_bounds block ≡ true
  good_in_bounds = either_kind block (empty_in_bounds block) (λ e f. f) good

  kind_range : account_kind block upto 3
  unfolding head_marks
  kind_range = either_kind block
      (λ e. let z = number_zero block e 0 in record { low = omega ints; high = omega ints; fits = omega ints })
      (λ e f. let a = amid (all_at (head_marks block) e 0) in record { low = omega ints; high = omega ints; fits = omega ints })
      good

  pub block_ranges : BlockRanges block
  block_ranges = record {
    long = long;
    kind_upto = kind_range;
    rubles_range = ruble_ranges block long good_in_bounds;
    holding = holding_ranges block long good_in_bounds;
  }

-- ---- an open block with another's head is good where it is in bounds
module _ (block other : List ℤ) (same : (k : ℕ) → InHead k → number other k ≡ number block k) where
  head_same : head_marks other ≡ head_marks block
  unfolding head_marks
  head_same = simp (
    same 0 (inl refl),
    in_head 10 (omega arith),
    in_head 11 (omega arith),
    in_head 12 (omega arith),
    in_head 13 (omega arith),
    in_head 14 (omega arith),
    in_head 15 (omega arith),
  )
    where
      in_head : (k : ℕ) → (10 ≤ k) × (k < 16) → number other k ≡ number block k
      in_head k h = same k (inr h)

  pub still_open : is_zero (account_kind block) ≡ false → is_zero (account_kind other) ≡ false
  still_open e = ap is_zero (same 0 (inl refl)) ∙ e

  pub still_good : is_zero (account_kind block) ≡ false → good_block block ≡ true → in_bounds other ≡ true → good_block other ≡ true
  still_good e good f =
      good_open other (still_open e)
      ∙ both (all_true (head_marks other)) (in_bounds other)
      (ap all_true head_same ∙ and_left (all_true (head_marks block)) (in_bounds block) (sym (good_open block e) ∙ good)) f
