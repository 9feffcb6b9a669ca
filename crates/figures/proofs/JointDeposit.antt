-- The Single Limit of several blocks, with more collateral of an asset, or of rubles, in one of them: of an asset whose row in force passes the cover test
-- and is not marked partial it is not lower, of rubles it is higher by exactly the amount. Of the sum it is asked that it counts that block; the block's
-- length is all that is asked of it, and of the tables the ranges that the check gives.
-- Assumes nothing.
use mathlib.Core.Path.{◌≡◌, sym, ap, ◌∙◌}
use mathlib.Core.Bool.{true, false}
use mathlib.Core.List.{List}
use mathlib.Core.Logic.{◌≢◌, inl}
use Prim.Native.Nat.{ℕ, ◌<◌}
use native.Mathlib.Omega.{arith}
use lib.IntN.{ℤ, pos, ◌+ℤ◌, +ℤ_idr}
use lib.ListN.{length, set}
use lib.Seq.{get_or-set_same, get_or-set_other}
use lib.Signed.{◌≤ℤ◌}
use Rattle.whole.specs.Bounds.{equal}
use Rattle.whole.specs.Sums.{Σ<, Σ<on}
use Rattle.whole.specs.Parts.{number}
use Rattle.whole.proofs.Bounds.{not_equal}
use Rattle.whole.proofs.Expressions.{var, ◌⊕◌, ◌⊖◌, le!, eq!, eq?}
use Rattle.whole.proofs.Sums.{sum_one}
use Rattle.whole.proofs.SumsOn.{CountsOnce, on_counts}
use Rattle.whole.proofs.Rules.{ints}
use Rattle.rates.specs.Lent.{Tables}
use Rattle.rates.specs.Row.{covered_sales}
use Rattle.rates.specs.InForce.{in_force, cover_test}
use Rattle.rates.specs.Ranges.{TableRanges}
use Rattle.book.specs.Block.{rubles, ruble_numbers, holding_of, collateral}
use Rattle.book.specs.Changes.{moved}
use Rattle.book.proofs.Blocks.{rubles_length, holding_length_lem}
use Rattle.book.proofs.Moved.{moved_holding_other, moved_holding, moved_rubles_other, moved_rubles, rubles_holding}
use Rattle.assets.specs.Collateral.{regime_of}
use Rattle.assets.specs.Asset.{asset_of}
use Rattle.assets.specs.Part.{part_of}
use Rattle.assets.specs.declared.parts.Part.{Part}
use Rattle.assets.proofs.Raised.{Better}
use Rattle.assets.proofs.JointDeposit.{joint_same, joint_better}
use Rattle.figures.specs.Limit.{totals_of, discount, single_limit, figures_of, rubles_of}
use Rattle.figures.specs.Joint.{joint_part, joint_figures}
use Rattle.figures.specs.Laws.{NeverLower, RublesRaise}
use Rattle.figures.specs.declared.sums.Totals.{Totals}
use Rattle.figures.proofs.limit.Discount.{percent_ranges}
use Rattle.figures.proofs.Better.{limit_of_better}

-- rubles alone
rubles_add : (totals : Totals) (groups : List ℤ) (x amount : ℤ) → (figures_of totals groups (x +ℤ amount)).limit ≡ (figures_of totals groups x).limit +ℤ amount
unfolding figures_of single_limit
rubles_add totals groups x amount =
    let v = var totals.valuation in
    let m = var totals.market in
    let i = var totals.interest in
    let d = var (discount groups totals) in
    eq! (v ⊕ (var x ⊕ var amount) ⊖ m ⊖ i ⊕ d) (v ⊕ var x ⊖ m ⊖ i ⊕ d ⊕ var amount) (omega arith)

-- ---- one block with rubles moved in it
module _ (block : List ℤ) (sized : length block ≡ 288) (amount : ℤ) where
  rubles_rise : rubles_of (moved block rubles amount) ≡ rubles_of block +ℤ amount
  unfolding rubles_of
  rubles_rise =
      let n = ruble_numbers block in
      let x = number n 0 +ℤ amount in
      let inside : 0 < length n = omega (arith, rubles_length block sized) in
      let S = var (Σ< 9 (number n)) in
      let S' = var (Σ< 9 (number (set n 0 x))) in
      let f = var (number n 0) in
      let f' = var (number (set n 0 x) 0) in
      rw (moved_rubles block amount)
      (eq! S' (S ⊕ var amount)
      (omega (
        arith,
        eq? (S' ⊕ f) (S ⊕ f') (sum_one 9 0 (number n) (number (set n 0 x)) (omega arith) (λ k l apart. get_or-set_other n 0 k x (pos 0) apart)),
        eq? f' (f ⊕ var amount) (get_or-set_same n 0 x (pos 0) inside),
      )))

-- ---- blocks by account, of which block j's alone changes, and `sum` counts it
module _ (n : ℕ) (sum : (ℕ → ℤ) → ℤ) (j : ℕ) (counts : CountsOnce n sum j) (kind : ℕ) (tables : Tables) (blocks blocks' : ℕ → List ℤ)
    (others : (k : ℕ) → k < n → k ≢ j → blocks' k ≡ blocks k) (sized : length (blocks j) ≡ 288) (amount : ℤ) where
  abbrev row : ℕ → List ℤ
  row = in_force tables.clearing tables.own

  abbrev part : ℕ → Part
  part = joint_part sum kind blocks tables

  abbrev part' : ℕ → Part
  part' = joint_part sum kind blocks' tables

  -- an asset whose holding in block j stays
  part_stays : (b : ℕ) → holding_of (blocks' j) b ≡ holding_of (blocks j) b → part' b ≡ part b
  unfolding joint_part
  part_stays b e =
      ap (part_of (row b))
      (joint_same n sum j counts (regime_of kind (row b)) (λ k. asset_of kind (row b) (holding_of (blocks k) b))
      (λ k. asset_of kind (row b) (holding_of (blocks' k) b))
      (λ k l d. ap (λ (x : List ℤ). asset_of kind (row b) (holding_of x b)) (others k l d)) (ap (asset_of kind (row b)) e))

  rubles_grow : (x : ℤ) → rubles_of (blocks' j) ≡ rubles_of (blocks j) +ℤ x → sum (λ k. rubles_of (blocks' k)) ≡ sum (λ k. rubles_of (blocks k)) +ℤ x
  rubles_grow x e = counts (λ k. rubles_of (blocks k)) (λ k. rubles_of (blocks' k)) x (λ k l d. ap rubles_of (others k l d)) e

  module _ (a : ℕ) (l : a < 16) (here : blocks' j ≡ moved (blocks j) a amount) (t : TableRanges tables) (from_zero : pos 0 ≤ℤ amount)
      (cover : cover_test (in_force tables.clearing tables.own a) ≡ true)
      (whole : equal (covered_sales (in_force tables.clearing tables.own a)) (pos 2) ≡ false) where
    holding_is : holding_of (blocks' j) a ≡ set (holding_of (blocks j) a) 0 (collateral (holding_of (blocks j) a) +ℤ amount)
    holding_is = ap (λ (b : List ℤ). holding_of b a) here ∙ moved_holding (blocks j) a amount l

    own_better : Better (part a) (part' a)
    unfolding joint_part
    own_better =
        let h = holding_of (blocks j) a in
        let x = collateral h +ℤ amount in
        let inside : 0 < length h = omega (arith, holding_length_lem (blocks j) sized a l) in
        joint_better n sum j counts kind (row a) (t.row a l) (λ k. holding_of (blocks k) a) (λ k. holding_of (blocks' k) a)
        (λ k q d. ap (λ (b : List ℤ). holding_of b a) (others k q d))
        (λ k d. ap (λ (b : List ℤ). number b k) holding_is ∙ get_or-set_other h 0 k x (pos 0) d)
        (rw (holding_is, get_or-set_same h 0 x (pos 0) inside) (le! (var (collateral h)) (var (collateral h) ⊕ var amount) (omega (ints, from_zero)))) whole cover

    rubles_stay : sum (λ k. rubles_of (blocks' k)) ≡ sum (λ k. rubles_of (blocks k))
    unfolding rubles_of
    rubles_stay =
        rubles_grow (pos 0)
        (ap rubles_of here ∙ ap (λ (x : List ℤ). Σ< 9 (number x)) (moved_rubles_other (blocks j) a amount l) ∙ sym (+ℤ_idr (rubles_of (blocks j)))) ∙ +ℤ_idr _

    asset_not_lower : (joint_figures sum kind blocks tables).limit ≤ℤ (joint_figures sum kind blocks' tables).limit
    unfolding joint_figures
    asset_not_lower =
        rw rubles_stay
        (limit_of_better part part' a l
        (λ b q apart. part_stays b (ap (λ (x : List ℤ). holding_of x b) here ∙ moved_holding_other (blocks j) a amount (inl l) b apart)) own_better
        tables.groups (percent_ranges t) (sum (λ k. rubles_of (blocks k))))

  rubles_higher : blocks' j ≡ moved (blocks j) rubles amount
      → (joint_figures sum kind blocks' tables).limit ≡ (joint_figures sum kind blocks tables).limit +ℤ amount
  unfolding joint_figures
  rubles_higher here =
      (λ i. (figures_of
      (totals_of (λ a. part_stays a (ap (λ (x : List ℤ). holding_of x a) here ∙ rubles_holding (blocks j) amount a) i) 16) tables.groups
      (rubles_grow amount (ap rubles_of here ∙ rubles_rise (blocks j) sized amount) i)).limit)
      ∙ rubles_add (totals_of part 16) tables.groups (sum (λ k. rubles_of (blocks k))) amount

-- ---- of the accounts that count
pub never_lower : NeverLower
never_lower on j l here a amount from_zero blocks blocks' m kind tables t c =
    asset_not_lower 16 (Σ<on 16 on) j (on_counts 16 j on l here) kind tables blocks blocks' m.others m.sized amount a c.an_asset m.here t
    from_zero c.passes (not_equal c.not_partial)

pub rubles_raise : RublesRaise
rubles_raise on j l here amount blocks blocks' m kind tables =
    rubles_higher 16 (Σ<on 16 on) j (on_counts 16 j on l here) kind tables blocks blocks' m.others m.sized amount m.here
