-- Of tables that pass the check: the discount lies from 0 to the market risk, and interest risk is from 0 up, of one block to four; each of the five
-- figures of ONE block is below 2^53 in size.
-- Assumes nothing.
use mathlib.Core.List.{List}
use Prim.Native.Nat.{ℕ, ◌+◌, ◌<◌, ◌^◌}
use native.Mathlib.Omega.{arith}
use lib.IntN.{ℤ, pos, nat_abs, ◌+ℤ◌, ◌-ℤ◌}
use lib.Signed.{◌≤ℤ◌}
use Rattle.whole.specs.Numbers.{min_ℤ}
use Rattle.whole.specs.Bounds.{◌within◌, ◌upto◌}
use Rattle.whole.specs.Sums.{Σ<}
use Rattle.whole.specs.Parts.{number}
use Rattle.whole.proofs.PlusMinus.{abs_is, one_is_zero}
use Rattle.whole.proofs.Expressions.{var, lit, ◌⊕◌, ◌⊖◌, ◌⊓◌, le!, is}
use Rattle.whole.proofs.Numbers.{≤ℤ-trans}
use Rattle.whole.proofs.Bounds.{upto_within}
use Rattle.whole.proofs.Sums.{sum_le, sum_within, sum_from_zero, sum_swap}
use Rattle.whole.proofs.Rules.{ints}
use Rattle.rates.specs.Lent.{Tables}
use Rattle.rates.specs.Ranges.{TableRanges}
use Rattle.book.specs.Block.{block_of}
use Rattle.book.specs.Ranges.{BlockRanges}
use Rattle.book.specs.Members.{over_members, MemberRanges}
use Rattle.book.specs.declared.members.Members.{Members}
use Rattle.assets.specs.declared.parts.Part.{Part}
use Rattle.assets.proofs.Sizes.{SmallPart, asset_ranges, part_small}
use Rattle.figures.specs.Limit.{in_group, by_group, totals_of, discount_of, discount, single_limit, figures_of, rubles_of, part_in, block_figures}
use Rattle.figures.specs.Joint.{joint_figures, member_figures}
use Rattle.figures.specs.Ranges.{PercentRanges, Below2^53, RiskBounds}
use Rattle.figures.proofs.limit.Discount.{percent_ranges, discount_from_zero, discount_below}
use Rattle.figures.proofs.Groups.{in_group_from_zero, one_group, side_at}
use Rattle.figures.proofs.SeveralBlocks.{member_part_small}

sizes : (worth rubles market interest less : ℤ) → worth within 3840000000000000 → rubles within 900000000000000 → market upto 1440000000000000
    → interest upto 1440000000000000 → pos 0 ≤ℤ less → less ≤ℤ market
    → (nat_abs (worth +ℤ rubles) < 2 ^ 53) × (nat_abs market < 2 ^ 53) × (nat_abs interest < 2 ^ 53) × (nat_abs less < 2 ^ 53)
    × (nat_abs (worth +ℤ rubles -ℤ market -ℤ interest +ℤ less) < 2 ^ 53)
sizes w r m i d hw hr hm hi low high =
    let v = w +ℤ r in
    let l = w +ℤ r -ℤ m -ℤ i +ℤ d in (
      omega (ints, is (var w ⊕ var r), abs_is v, one_is_zero v),
      omega (ints, abs_is m, one_is_zero m),
      omega (ints, abs_is i, one_is_zero i),
      omega (ints, abs_is d, one_is_zero d),
      omega (ints, is (var w ⊕ var r ⊖ var m ⊖ var i ⊕ var d), abs_is l, one_is_zero l),
    )

total_upto : (f : ℕ → ℤ) → ((a : ℕ) → a < 16 → f a upto 90000000000000) → Σ< 16 f upto 1440000000000000
total_upto f h =
    let w = sum_within 90000000000000 16 f (omega arith) (λ a l. upto_within (h a l)) in
    let z = sum_from_zero 16 f (λ a l. (h a l).low) in
    record { low = z; high = omega ints; fits = w.fits }

-- ---- the discount is at most the long sides of the groups, and those are at most the market risk
module _ (n : ℕ) (parts : ℕ → Part) (small : (a : ℕ) → a < 16 → SmallPart n (parts a)) (groups : List ℤ) (percents : PercentRanges groups) where
  abbrev longs : List ℤ
  longs = by_group (λ part. part.long) parts 16

  abbrev shorts : List ℤ
  shorts = by_group (λ part. part.short) parts 16

  side_from_zero : (side : Part → ℤ) → ((a : ℕ) → a < 16 → pos 0 ≤ℤ side (parts a)) → (g : ℕ) → g < 9 → pos 0 ≤ℤ number (by_group side parts 16) g
  side_from_zero side h g q = rw (side_at side parts 16 g q) (sum_from_zero 16 _ (λ a l. in_group_from_zero g (parts a) (h a l)))

  module _ (g : ℕ) (l : g < 8) where
    smaller_from_zero : pos 0 ≤ℤ min_ℤ (number longs (1 + g)) (number shorts (1 + g))
    smaller_from_zero =
        let long = side_from_zero (λ part. part.long) (λ a k. (small a k).long_low) (1 + g) (omega arith) in
        let short = side_from_zero (λ part. part.short) (λ a k. (small a k).short_low) (1 + g) (omega arith) in
        le! (lit 0) (var (number longs (1 + g)) ⊓ var (number shorts (1 + g))) (omega ints)

    group_from_zero : pos 0 ≤ℤ discount_of groups longs shorts g
    unfolding discount_of
    group_from_zero = discount_from_zero _ _ (percents.each g l) smaller_from_zero

    group_below_long : discount_of groups longs shorts g ≤ℤ Σ< 16 (λ a. in_group (1 + g) (parts a) (parts a).long)
    unfolding discount_of
    group_below_long =
        rw (← side_at (λ part. part.long) parts 16 (1 + g) (omega arith))
        (≤ℤ-trans (discount_below _ _ (percents.each g l) smaller_from_zero) (le! (var (number longs (1 + g)) ⊓ var (number shorts (1 + g))) (var (number longs (1 + g))) (omega arith)))

  discount_range : (pos 0 ≤ℤ Σ< 8 (discount_of groups longs shorts)) × (Σ< 8 (discount_of groups longs shorts) ≤ℤ Σ< 16 (λ a. (parts a).market))
  discount_range = (
    sum_from_zero 8 _ group_from_zero,
    ≤ℤ-trans (sum_le 8 _ _ group_below_long)
        (rw (sum_swap 8 16 (λ g a. in_group (1 + g) (parts a) (parts a).long))
        (sum_le 16 _ _ (λ a l. ≤ℤ-trans (one_group (parts a) _ (small a l).long_low 8) (small a l).long_high))),
  )

  risk_bounds : (rubles : ℤ) → RiskBounds (figures_of (totals_of parts 16) groups rubles)
  unfolding figures_of totals_of discount
  risk_bounds rubles = record {
    discount_low = discount_range.0;
    discount_high = discount_range.1;
    interest_low = sum_from_zero 16 _ (λ a l. (small a l).interest_upto.low);
  }

-- ---- of members that can be valued
pub member_bounds : (book : List ℤ) (m : Members) (tables : Tables) → MemberRanges book m → TableRanges tables
    → RiskBounds (member_figures m book tables)
unfolding joint_figures
member_bounds book m tables p t =
    risk_bounds m.count _ (λ a l. member_part_small book m tables p t a l) tables.groups (percent_ranges t)
    (over_members m (λ j. rubles_of (block_of book j)))

-- ---- of one block
module _ (block : List ℤ) (tables : Tables) (b : BlockRanges block) (t : TableRanges tables) where
  abbrev parts : ℕ → Part
  parts = part_in block tables

  -- each asset of a block has its part
  small : (a : ℕ) → a < 16 → SmallPart 1 (parts a)
  unfolding part_in
  small a l = part_small 1 (omega arith) _ (t.row a l) _ (asset_ranges _ _ (t.row a l) _ (b.holding a l))

  -- each of the five figures is below 2^53 in size
  pub figures_below : Below2^53 (block_figures block tables)
  unfolding block_figures figures_of totals_of discount single_limit rubles_of
  figures_below =
      let d = discount_range 1 parts small tables.groups (percent_ranges t) in
      let s = sizes (Σ< 16 (λ a. (parts a).worth)) (rubles_of block) (Σ< 16 (λ a. (parts a).market)) (Σ< 16 (λ a. (parts a).interest)) (Σ< 8 (discount_of tables.groups _ _))
      (sum_within 240000000000000 16 _ (omega arith) (λ a l. (small a l).worth_within)) (sum_within 100000000000000 9 _ (omega arith) b.rubles_range.each_within)
      (total_upto _ (λ a l. (small a l).market_upto)) (total_upto _ (λ a l. (small a l).interest_upto)) d.0 d.1 in
      record { valuation_below = s.0; market_below = s.1; interest_below = s.2; discount_below = s.3; limit_below = s.4 }
