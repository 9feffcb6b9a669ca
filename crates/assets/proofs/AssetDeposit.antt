-- An asset with more collateral and the same trades, in one block: C' does not fall, so that, where its row is not marked partial, its position of date 0
-- is raised and its worth with it; of special delivery nothing moves.
-- Assumes nothing.
use mathlib.Core.Path.{◌≡◌, refl, sym, ap, ap₂, ◌∙◌}
use mathlib.Core.Bool.{Bool, true, false, cond, ◌&&◌}
use mathlib.Core.List.{List}
use mathlib.Core.Logic.{◌≢◌}
use Prim.Native.Nat.{ℕ, ◌+◌, ◌<◌}
use native.Mathlib.Omega.{arith}
use lib.IntN.{ℤ, pos, ◌+ℤ◌, ◌-ℤ◌, ◌*ℤ◌}
use lib.Signed.{◌≤ℤ◌}
use Rattle.whole.specs.Bounds.{equal}
use Rattle.whole.specs.Sums.{Σ<}
use Rattle.whole.specs.Parts.{number, tabulated}
use Rattle.whole.proofs.Expressions.{var, lit, ◌⊕◌, ◌⊖◌, ◌⊛◌, le!, eq!, eq?}
use Rattle.whole.proofs.Sums.{sum_same, sum_one}
use Rattle.whole.proofs.Tabulated.{tabulated_at, tabulated_same}
use Rattle.whole.proofs.Tests.{true_not_false}
use Rattle.whole.proofs.Rules.{ints}
use Rattle.rates.specs.Row.{kind, covered_sales, special_delivery, level}
use Rattle.rates.specs.Ranges.{RowRanges}
use Rattle.book.specs.Block.{collateral}
use Rattle.assets.specs.Collateral.{share_by_kind, share_in_force, is_special, regime_of, valued}
use Rattle.assets.specs.Asset.{net, trades, adjusted_collateral, position, left_out, valued_collateral, worth_of, asset_under, asset_of}
use Rattle.assets.specs.Ranges.{ShareRange}
use Rattle.assets.specs.declared.record.Asset.{Asset}
use Rattle.assets.specs.declared.collateral.Regime.{Regime}
use Rattle.assets.specs.declared.collateral.Regime.TheVariants.{Special, NotRecorded, Partial, Accepted}
use Rattle.assets.proofs.collateral.Growth.{adjusted_rises}
use Rattle.assets.proofs.record.Positions.{position_first, position_later}
use Rattle.assets.proofs.Sizes.{regime_range}
use Rattle.assets.proofs.Raised.{Raised}

-- C'' is C' unless the row is marked partial
valued_whole : (account_kind : ℕ) (row : List ℤ) → equal (covered_sales row) (pos 2) ≡ false → (c : ℤ) → valued (regime_of account_kind row) c ≡ c
unfolding regime_of
valued_whole account_kind row e c = by (equal (special_delivery row) (pos 1)) (equal (covered_sales row) (pos 1)) (equal (covered_sales row) (pos 2)) e
  where
    share : ℤ
    share = share_by_kind account_kind row

    by : (s n p : Bool) → p ≡ false → valued (cond s Special (cond n NotRecorded (cond p (Partial share) (Accepted share)))) c ≡ c
    by true n p h = refl
    by false true p h = refl
    by false false p h = rw h refl

-- of special delivery no collateral counts
special_none : (regime : Regime) → is_special regime ≡ true → (holding : List ℤ) → adjusted_collateral regime holding ≡ pos 0
unfolding adjusted_collateral
special_none Special e holding = refl
special_none NotRecorded e holding = true_not_false e
special_none (Partial share) e holding = true_not_false e
special_none (Accepted share) e holding = true_not_false e

-- ---- two holdings of an asset that differ in their collateral alone
module _ (regime : Regime) (account_kind : ℕ) (row holding holding' : List ℤ) (same : (k : ℕ) → k ≢ 0 → number holding' k ≡ number holding k) where
  abbrev c : ℤ
  c = adjusted_collateral regime holding

  abbrev c' : ℤ
  c' = adjusted_collateral regime holding'

  abbrev before : Asset
  before = asset_under regime account_kind row holding

  abbrev after : Asset
  after = asset_under regime account_kind row holding'

  net_same : (d : ℕ) → net holding' d ≡ net holding d
  unfolding net
  net_same d = ap₂ ◌-ℤ◌ (same (1 + d) (λ e. omega arith)) (same (9 + d) (λ e. omega arith))

  trades_same : trades holding' ≡ trades holding
  unfolding trades
  trades_same = sum_same 8 (net holding') (net holding) (λ d l. net_same d)

  position_same : (x : ℤ) (d : ℕ) → position holding' x d ≡ position holding x d
  unfolding position
  position_same x d = rw (net_same d) refl

  -- the positions by date, before and after
  position_before : (d : ℕ) → d < 8 → number before.positions d ≡ position holding c d
  unfolding asset_under
  position_before d l = tabulated_at (position holding c) 8 d (pos 0) l

  position_after : (d : ℕ) → d < 8 → number after.positions d ≡ position holding c' d
  unfolding asset_under
  position_after d l = tabulated_at (position holding' c') 8 d (pos 0) l ∙ position_same c' d

  left_out_same : left_out regime account_kind row holding' ≡ left_out regime account_kind row holding
  unfolding left_out
  left_out_same = ap (λ (x : ℤ). cond (equal (kind row) (pos 2) && equal (share_in_force regime account_kind row) (pos 0)) x (pos 0)) (same 1 (λ e. omega arith))

  -- what stands at date 0 went from x to x': the worth by as much, at date 0's level
  worth_gains : (x x' : ℤ) → Σ< 8 (worth_of row holding' x') ≡ Σ< 8 (worth_of row holding x) +ℤ (x' -ℤ x) *ℤ level row 0
  unfolding worth_of
  worth_gains x x' =
      let S = var (Σ< 8 (worth_of row holding x)) in
      let S' = var (Σ< 8 (worth_of row holding' x')) in
      let f = var (worth_of row holding x 0) in
      let f' = var (worth_of row holding' x' 0) in
      let n = var (net holding 0) in
      let u = var (level row 0) in
      eq! S' (S ⊕ (var x' ⊖ var x) ⊛ u)
      (omega (
        arith,
        eq? (S' ⊕ f) (S ⊕ f') (sum_one 8 0 (worth_of row holding x) (worth_of row holding' x') (omega arith)
            (λ d l h. ap (λ (z : ℤ). z *ℤ level row d) (position_same x' d ∙ position_later holding x' d h ∙ sym (position_later holding x d h)))),
        eq? f ((n ⊕ var x) ⊛ u) (ap (λ (z : ℤ). z *ℤ level row 0) (position_first holding x)),
        eq? f' ((n ⊕ var x') ⊛ u) (ap (λ (z : ℤ). z *ℤ level row 0) (position_same x' 0 ∙ position_first holding x')),
      ))

  -- special delivery: nothing moves
  special_same : is_special regime ≡ true → after ≡ before
  unfolding asset_under valued_collateral worth_of
  special_same e =
      let none = special_none regime e holding' ∙ sym (special_none regime e holding) in
      let worth =
      ap₂ (λ (x y : ℤ). Σ< 8 (worth_of row holding' (valued regime x -ℤ y))) none left_out_same
      ∙ sum_same 8 _ (worth_of row holding (valued_collateral regime account_kind row holding)) (λ d l. ap (λ (z : ℤ). z *ℤ level row d) (position_same _ d)) in
      let positions =
      ap (λ (x : ℤ). tabulated 8 (position holding' x)) none ∙ tabulated_same (pos 0) 8 _ (position holding c) (λ d l. position_same c d) in
      λ i. record { regime = regime; worth = worth i; positions = positions i }

  module _ (share : ShareRange regime) (whole : (x : ℤ) → valued regime x ≡ x) (more : collateral holding ≤ℤ collateral holding') where
    -- C' does not fall
    adjusted_more : c ≤ℤ c'
    unfolding adjusted_collateral
    adjusted_more = rw trades_same (adjusted_rises (collateral holding) (collateral holding') (trades holding) more regime share)

    deposited : Raised row (c' -ℤ c) before after
    unfolding asset_under valued_collateral
    deposited =
        let o = left_out regime account_kind row holding in
        record {
          from_zero = le! (lit 0) (var c' ⊖ var c) (omega (ints, adjusted_more));
          same_regime = refl;
          worth_gains = rw (whole c, whole c', left_out_same)
              (worth_gains (c -ℤ o) (c' -ℤ o) ∙ ap (λ (z : ℤ). Σ< 8 (worth_of row holding (c -ℤ o)) +ℤ z *ℤ level row 0)
              (eq! (var c' ⊖ var o ⊖ (var c ⊖ var o)) (var c' ⊖ var c) (omega arith)));
          first = position_after 0 (omega arith) ∙ position_first holding c'
              ∙ eq! (var (net holding 0) ⊕ var c') (var (net holding 0) ⊕ var c ⊕ (var c' ⊖ var c)) (omega arith)
              ∙ ap (λ (z : ℤ). z +ℤ (c' -ℤ c)) (sym (position_before 0 (omega arith) ∙ position_first holding c));
          later = λ d l h. position_after d l ∙ position_later holding c' d h ∙ sym (position_before d l ∙ position_later holding c d h);
        }

-- ---- under the regime of its row
-- what date 0 is raised by
abbrev pub raise : ℕ → List ℤ → List ℤ → List ℤ → ℤ
raise account_kind row holding holding' =
    adjusted_collateral (regime_of account_kind row) holding' -ℤ adjusted_collateral (regime_of account_kind row) holding

module _ (account_kind : ℕ) (row holding holding' : List ℤ) (same : (k : ℕ) → k ≢ 0 → number holding' k ≡ number holding k) where
  pub special_stays : is_special (regime_of account_kind row) ≡ true → asset_of account_kind row holding' ≡ asset_of account_kind row holding
  special_stays = special_same (regime_of account_kind row) account_kind row holding holding' same

  pub deposit_raises : RowRanges row → collateral holding ≤ℤ collateral holding' → equal (covered_sales row) (pos 2) ≡ false
      → Raised row (raise account_kind row holding holding') (asset_of account_kind row holding) (asset_of account_kind row holding')
  deposit_raises r more whole =
      deposited (regime_of account_kind row) account_kind row holding holding' same (regime_range account_kind row r) (valued_whole account_kind row whole) more
