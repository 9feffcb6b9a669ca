-- Laws of an asset's positions by date (specs/Asset): what they come to, and how large they can be in one block. Assumes nothing.
use mathlib.Core.Path.{◌≡◌, refl, ◌∙◌}
use mathlib.Core.List.{List}
use Prim.Native.Nat.{ℕ, zero, suc, ◌+◌, ◌<◌, ◌^◌}
use native.Mathlib.Nat.{suc-ne-zero}
use native.Mathlib.Omega.{arith}
use lib.IntN.{ℤ, pos, ◌+ℤ◌, +ℤ_idr}
use Rattle.whole.specs.Bounds.{◌within◌}
use Rattle.whole.specs.Parts.{number, tabulated}
use Rattle.whole.proofs.Expressions.{var, ◌⊖◌, is}
use Rattle.whole.proofs.Rules.{ints}
use Rattle.whole.proofs.Bounds.{wider, upto_within, product_within}
use Rattle.whole.proofs.Sums.{sum_same, sum_within}
use Rattle.whole.proofs.Tabulated.{tabulated_length, tabulated_at}
use Rattle.rates.specs.Ranges.{RowRanges}
use Rattle.book.specs.Block.{claim, obligation}
use Rattle.book.specs.Ranges.{HoldingRanges}
use Rattle.assets.specs.Asset.{net, trades, position, worth_of}
use Rattle.assets.specs.Risk.{position_sum}
use Rattle.assets.specs.Ranges.{PositionRanges}

-- claims less obligations of a date are at most a million
pub net_within : (holding : List ℤ) → HoldingRanges holding → (d : ℕ) → d < 8 → net holding d within 1000000
unfolding net
net_within holding good d l =
    let a = good.claim_upto d l in let b = good.obligation_upto d l in omega (ints, is (var (claim holding d) ⊖ var (obligation holding d)))

module _ (holding : List ℤ) (c : ℤ) where
  -- date 0 has c beside its claims less obligations, a later date has them alone
  pub position_first : position holding c 0 ≡ net holding 0 +ℤ c
  unfolding position
  position_first = refl

  pub position_later : (d : ℕ) → (d ≡ 0 → ⊥) → position holding c d ≡ net holding d
  unfolding position
  position_later zero h = absurd (h refl)
  position_later (suc d) h = +ℤ_idr (net holding (suc d))

  module _ (good : HoldingRanges holding) where
    -- the position of a later date is at most a million
    pub position_later_within : (d : ℕ) → d < 8 → (d ≡ 0 → ⊥) → position holding c d within 1000000
    position_later_within d l h = let a = net_within holding good d l in let e = position_later d h in omega ints

    -- to that of date 0 c adds its own size
    pub position_within : (k d : ℕ) → 1000000 + k < 2 ^ 63 → c within k → d < 8 → position holding c d within (1000000 + k)
    position_within k zero m h l = let a = net_within holding good 0 l in let e = position_first in omega ints
    position_within k (suc d) m h l = wider (1000000 + k) (position_later_within (suc d) l (λ e. suc-ne-zero d e)) (omega arith)

-- the worth of a date: at most three million units at ten million each
pub worth_within : (row : List ℤ) → RowRanges row → (holding : List ℤ) → HoldingRanges holding → (c : ℤ) → c within 2000000 → (d : ℕ) → d < 8
    → worth_of row holding c d within 30000000000000
unfolding worth_of
worth_within row r holding h c k d l = product_within (position_within holding c h 2000000 d (omega arith) k l) (upto_within (r.date d l).level_upto) (omega arith)

-- ---- positions with nothing added are claims less obligations, and come to T
module _ (holding : List ℤ) where
  nothing_added : (d : ℕ) → position holding (pos 0) d ≡ net holding d
  unfolding position
  nothing_added zero = +ℤ_idr _
  nothing_added (suc d) = +ℤ_idr _

  net_at_lem : (d : ℕ) → d < 8 → number (tabulated 8 (position holding (pos 0))) d ≡ net holding d
  net_at_lem d l = tabulated_at (position holding (pos 0)) 8 d (pos 0) l ∙ nothing_added d

  pub nets_summed : position_sum (tabulated 8 (position holding (pos 0))) ≡ trades holding
  unfolding position_sum trades
  nets_summed = sum_same 8 _ _ net_at_lem

  module _ (good : HoldingRanges holding) where
    pub net_ranges : PositionRanges (tabulated 8 (position holding (pos 0)))
    net_ranges = record {
      size = tabulated_length _ 8;
      each = λ d l. rw (net_at_lem d l) (wider 8000000 (net_within holding good d l) (omega arith));
    }

    pub trades_within : trades holding within 8000000
    unfolding trades
    trades_within = sum_within 1000000 8 (net holding) (omega arith) (net_within holding good)
