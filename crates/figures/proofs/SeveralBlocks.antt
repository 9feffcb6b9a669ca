-- Laws of the figures of several blocks (specs/Joint): of one account alone they are its block's, they depend on no block but those that count, and
-- each asset's part is as small as its blocks allow.
-- Assumes nothing.
use mathlib.Core.Path.{◌≡◌, refl, ap, ◌∙◌}
use mathlib.Core.Bool.{true}
use mathlib.Core.List.{List}
use Prim.Native.Nat.{ℕ, ◌<◌}
use lib.IntN.{ℤ, nat_abs}
use Rattle.whole.specs.Marks.{all_zero}
use Rattle.whole.specs.Parts.{number, tabulated}
use Rattle.whole.specs.Sums.{Σ<on}
use Rattle.whole.proofs.SumsOn.{on_same, on_alone}
use Rattle.whole.proofs.Tabulated.{tabulated_length}
use Rattle.rates.specs.Lent.{Tables}
use Rattle.rates.specs.InForce.{in_force}
use Rattle.rates.specs.Ranges.{TableRanges}
use Rattle.book.specs.Block.{account_kind, block_of, holding_of}
use Rattle.book.specs.Members.{member_at, over_members, MemberRanges}
use Rattle.book.specs.declared.members.Members.{Members}
use Rattle.assets.specs.Collateral.{regime_of}
use Rattle.assets.specs.Asset.{asset_under, asset_of}
use Rattle.assets.specs.Joint.{joint_asset, joint_of}
use Rattle.assets.specs.Part.{part_of}
use Rattle.assets.specs.Ranges.{AssetRanges, PartRanges}
use Rattle.assets.specs.declared.record.Asset.{Asset}
use Rattle.assets.proofs.Sizes.{SmallPart, asset_ranges, part_small, small_ranges}
use Rattle.assets.proofs.Unheld.{NoPart, unheld_asset, unheld_part}
use Rattle.assets.proofs.Joint.{joint_alone, record_ranges, record_none}
use Rattle.figures.specs.Limit.{totals_of, figures_of, rubles_of, part_in, block_figures}
use Rattle.figures.specs.Joint.{joint_part, joint_figures, member_part}
use Rattle.figures.specs.Laws.{AloneFigures, FiguresAlike}

-- the same sums, the same figures
pub figures_by : (sum sum' : (ℕ → ℤ) → ℤ) → ((f : ℕ → ℤ) → sum f ≡ sum' f) → (kind : ℕ) (blocks : ℕ → List ℤ) (tables : Tables)
    → joint_figures sum kind blocks tables ≡ joint_figures sum' kind blocks tables
figures_by sum sum' same kind blocks tables = λ t. joint_figures (λ f. same f t) kind blocks tables

-- ---- one account alone
asset_alone : (i kind : ℕ) (row : List ℤ) (holdings : ℕ → List ℤ) → joint_of (λ f. f i) kind row holdings ≡ asset_of kind row (holdings i)
unfolding asset_under
asset_alone i kind row holdings = joint_alone i (regime_of kind row) (λ j. asset_of kind row (holdings j)) refl (tabulated_length _ 8)

block_alone : (i : ℕ) (blocks : ℕ → List ℤ) (tables : Tables)
    → joint_figures (λ f. f i) (nat_abs (account_kind (blocks i))) blocks tables ≡ block_figures (blocks i) tables
unfolding joint_figures joint_part block_figures part_in
block_alone i blocks tables =
    let row : ℕ → List ℤ = in_force tables.clearing tables.own in
    λ t. figures_of (totals_of (λ a. part_of (row a) (asset_alone i (nat_abs (account_kind (blocks i))) (row a) (λ j. holding_of (blocks j) a) t)) 16)
    tables.groups (rubles_of (blocks i))

pub alone_figures : AloneFigures
alone_figures on i l alone blocks tables =
    figures_by (Σ<on 16 on) (λ f. f i) (on_alone 16 i on l alone) (nat_abs (account_kind (blocks i))) blocks tables ∙ block_alone i blocks tables

-- ---- the blocks that count, and no other
pub figures_alike : FiguresAlike
unfolding joint_figures joint_part joint_asset
figures_alike on on' same blocks blocks' terms kind tables =
    let row : ℕ → List ℤ = in_force tables.clearing tables.own in
    let sums : (F : List ℤ → ℤ) → Σ<on 16 on (λ j. F (blocks j)) ≡ Σ<on 16 on' (λ j. F (blocks' j))
    = λ F. on_same 16 on on' (λ j. F (blocks j)) (λ j. F (blocks' j)) same (λ j l e. ap F (terms j l e)) in
    let of : ℕ → List ℤ → Asset = λ a b. asset_of kind (row a) (holding_of b a) in
    λ t. figures_of
    (totals_of
    (λ a. part_of (row a) (record {
      regime = regime_of kind (row a);
      worth = sums (λ b. (of a b).worth) t;
      positions = tabulated 8 (λ d. sums (λ b. number (of a b).positions d) t);
    }))
    16)
    tables.groups (sums rubles_of t)

-- ---- the parts of members that can be valued
module _ (book : List ℤ) (m : Members) (tables : Tables) (p : MemberRanges book m) (t : TableRanges tables) (a : ℕ) (l : a < 16) where
  pub member_asset_range : let row = in_force tables.clearing tables.own a in
      AssetRanges m.count (joint_of (over_members m) m.kind row (λ j. holding_of (block_of book j) a))
  member_asset_range =
      let row = in_force tables.clearing tables.own a in
      record_ranges (member_at m) (regime_of m.kind row) (λ j. asset_of m.kind row (holding_of (block_of book j) a)) m.count p.few
      (λ k q. asset_ranges m.kind row (t.row a l) _ ((p.block k q).holding a l))

  pub member_part_small : SmallPart m.count (member_part m book tables a)
  unfolding joint_part
  member_part_small = part_small m.count p.few _ (t.row a l) _ member_asset_range

  pub member_part_range : PartRanges (member_part m book tables a)
  member_part_range = small_ranges m.count p.few member_part_small

  pub member_part_none : ((k : ℕ) → k < m.count → all_zero (holding_of (block_of book (member_at m k)) a) ≡ true)
      → NoPart (member_part m book tables a)
  unfolding joint_part
  member_part_none empty =
      let row = in_force tables.clearing tables.own a in
      unheld_part row (t.row a l) _
      (record_none (member_at m) (regime_of m.kind row) (λ j. asset_of m.kind row (holding_of (block_of book j) a)) m.count
      (λ k q. unheld_asset m.kind row _ (t.row a l) (empty k q)))
