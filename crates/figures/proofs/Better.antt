-- The limit where one asset's part is replaced by a better one, and all the others stay. Nothing is asked of how the part came to be: collateral,
-- regimes and the cover test are the matter of crate `assets`.
-- Assumes nothing.
use mathlib.Core.Path.{◌≡◌, ap, ◌∙◌}
use mathlib.Core.Bool.{Bool, true, false, cond}
use mathlib.Core.List.{List}
use mathlib.Core.Logic.{◌≢◌}
use Prim.Native.Nat.{ℕ, ◌+◌, ◌<◌}
use native.Mathlib.Omega.{arith}
use lib.Dec.{eqb}
use lib.IntN.{ℤ, pos, ◌+ℤ◌, ◌-ℤ◌}
use lib.Signed.{◌≤ℤ◌}
use Rattle.whole.specs.Sums.{Σ<}
use Rattle.whole.specs.Parts.{number}
use Rattle.whole.proofs.Expressions.{var, lit, ◌⊕◌, ◌⊖◌, le!, le?, eq?}
use Rattle.whole.proofs.Sums.{sum_le, sum_add, sum_one}
use Rattle.whole.proofs.Rules.{ints}
use Rattle.assets.specs.declared.parts.Part.{Part}
use Rattle.assets.proofs.Raised.{Better}
use Rattle.figures.specs.Limit.{in_group, by_group, totals_of, discount_of, discount, single_limit, figures_of}
use Rattle.figures.specs.Ranges.{PercentRanges}
use Rattle.figures.proofs.limit.Discount.{group_discount_step}
use Rattle.figures.proofs.Groups.{in_group_from_zero, one_group, side_at}

-- a sum in which one term, counted or not, went from x to y and fell by at most k
counted_step : (t : Bool) (x y k S T : ℤ) → T +ℤ cond t x (pos 0) ≡ S +ℤ cond t y (pos 0) → x ≤ℤ (y +ℤ k) → S ≤ℤ (T +ℤ cond t k (pos 0))
counted_step true x y k S T e h = le! (var S) (var T ⊕ var k) (omega (arith, eq? (var T ⊕ var x) (var S ⊕ var y) e, le? (var x) (var y ⊕ var k) h))
counted_step false x y k S T e h = le! (var S) (var T ⊕ lit 0) (omega (arith, eq? (var T ⊕ lit 0) (var S ⊕ lit 0) e))

module _ (parts parts' : ℕ → Part) (a : ℕ) (l : a < 16) (others : (j : ℕ) → j < 16 → j ≢ a → parts' j ≡ parts j) (better : Better (parts a) (parts' a)) where
  -- any sum over the assets changes at asset a alone
  change : (F : Part → ℤ) → Σ< 16 (λ j. F (parts' j)) +ℤ F (parts a) ≡ Σ< 16 (λ j. F (parts j)) +ℤ F (parts' a)
  change F = sum_one 16 a (λ j. F (parts j)) (λ j. F (parts' j)) l (λ j q d. ap F (others j q d))

  -- what the short risk falls by
  abbrev fallen : ℤ
  fallen = (parts a).short -ℤ (parts' a).short

  fallen_from_zero : pos 0 ≤ℤ fallen
  fallen_from_zero = le! (lit 0) (var (parts a).short ⊖ var (parts' a).short) (omega (ints, better.less_short))

  -- a side of a group falls by at most that
  side_falls : (side : Part → ℤ) → side (parts a) ≤ℤ (side (parts' a) +ℤ fallen) → (g : ℕ) → g < 9
      → number (by_group side parts 16) g ≤ℤ (number (by_group side parts' 16) g +ℤ in_group g (parts a) fallen)
  unfolding in_group
  side_falls side h g q =
      rw (side_at side parts 16 g q, side_at side parts' 16 g q)
      (counted_step (eqb (parts a).group g) (side (parts a)) (side (parts' a)) fallen _ (Σ< 16 (λ j. in_group g (parts' j) (side (parts' j))))
      (change (λ p. in_group g p (side p)) ∙ ap (λ (k : ℕ). Σ< 16 (λ j. in_group g (parts j) (side (parts j))) +ℤ cond (eqb k g) (side (parts' a)) (pos 0)) better.same_group) h)

  module _ (groups : List ℤ) (percents : PercentRanges groups) where
    abbrev discount_at : (ℕ → Part) → ℕ → ℤ
    discount_at ps = discount_of groups (by_group (λ p. p.long) ps 16) (by_group (λ p. p.short) ps 16)

    -- the discount falls by at most what the short risk falls by
    discount_falls : Σ< 8 (discount_at parts) ≤ℤ (Σ< 8 (discount_at parts') +ℤ fallen)
    discount_falls =
        let most : ℕ → ℤ = λ g. in_group (1 + g) (parts a) fallen in
        let long = var (parts a).long in
        let long' = var (parts' a).long in
        let short = var (parts a).short in
        let short' = var (parts' a).short in
        let longs = side_falls (λ p. p.long) (le! long (long' ⊕ var fallen) (omega (ints, fallen_from_zero, better.longer))) in
        let shorts = side_falls (λ p. p.short) (le! short (short' ⊕ (short ⊖ short')) (omega arith)) in
        let each = sum_le 8 (discount_at parts) (λ g. discount_at parts' g +ℤ most g)
        (λ g q. group_discount_step groups _ _ _ _ g (most g) percents q (in_group_from_zero (1 + g) (parts a) fallen_from_zero)
        (longs (1 + g) (omega arith)) (shorts (1 + g) (omega arith))) in
        let d = var (Σ< 8 (discount_at parts)) in
        let d' = var (Σ< 8 (discount_at parts')) in
        le! d (d' ⊕ var fallen)
        (omega (
          ints,
          each,
          one_group (parts a) fallen fallen_from_zero 8,
          eq? (var (Σ< 8 (λ g. discount_at parts' g +ℤ most g))) (d' ⊕ var (Σ< 8 most)) (sum_add 8 (discount_at parts') most),
        ))

    pub limit_of_better : (rubles : ℤ) → (figures_of (totals_of parts 16) groups rubles).limit ≤ℤ (figures_of (totals_of parts' 16) groups rubles).limit
    unfolding figures_of totals_of discount single_limit
    limit_of_better rubles =
        let worth = var (Σ< 16 (λ j. (parts j).worth)) in
        let worth' = var (Σ< 16 (λ j. (parts' j).worth)) in
        let market = var (Σ< 16 (λ j. (parts j).market)) in
        let market' = var (Σ< 16 (λ j. (parts' j).market)) in
        let interest = var (Σ< 16 (λ j. (parts j).interest)) in
        let interest' = var (Σ< 16 (λ j. (parts' j).interest)) in
        let less = var (Σ< 8 (discount_at parts)) in
        let less' = var (Σ< 8 (discount_at parts')) in
        let w = var (parts a).worth in
        let w' = var (parts' a).worth in
        let m = var (parts a).market in
        let m' = var (parts' a).market in
        let i = var (parts a).interest in
        let i' = var (parts' a).interest in
        let s = var (parts a).short in
        let s' = var (parts' a).short in
        le! (worth ⊕ var rubles ⊖ market ⊖ interest ⊕ less) (worth' ⊕ var rubles ⊖ market' ⊖ interest' ⊕ less')
        (omega (
          arith,
          eq? (worth' ⊕ w) (worth ⊕ w') (change (λ p. p.worth)),
          eq? (market' ⊕ m) (market ⊕ m') (change (λ p. p.market)),
          eq? (interest' ⊕ i) (interest ⊕ i') (change (λ p. p.interest)),
          le? less (less' ⊕ (s ⊖ s')) discount_falls,
          le? (w ⊕ m' ⊕ i' ⊕ s) (w' ⊕ m ⊕ i ⊕ s') better.pays,
        ))
