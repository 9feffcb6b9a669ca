-- Document 01, "Discount" and "Single Limit": the sums over the assets, the discount over the groups, and the five figures. The assets' parts are a
-- parameter, and rubles enter as a number, so that several blocks or several readings can be added before risk is taken.
-- Assumes nothing.
use Rattle.std.specs.Prelude.{cond, List, [], ◌∷◌, ℕ, ◌+◌, eqb, ℤ, pos, nat_abs, ◌+ℤ◌, ◌-ℤ◌, ◌*ℤ◌}
use Rattle.whole.specs.Numbers.{min_ℤ, divided_down}
use Rattle.whole.specs.Sums.{Σ<}
use Rattle.whole.specs.Parts.{number, tabulated}
use Rattle.rates.specs.Units.{assets, group_count}
use Rattle.rates.specs.Lent.{Tables}
use Rattle.rates.specs.InForce.{in_force}
use Rattle.book.specs.Block.{account_kind, ruble_numbers, holding_of}
use Rattle.book.specs.Changes.{added}
use Rattle.assets.specs.Asset.{asset_of}
use Rattle.assets.specs.Part.{part_of}
use Rattle.assets.specs.declared.parts.Part.{Part}
use Rattle.figures.specs.declared.sums.Totals.{Totals}
use Rattle.figures.specs.declared.limit.Figures.{Figures}

-- x where an asset's part stands in group g
unfoldable pub in_group : ℕ → Part → ℤ → ℤ
in_group g part x = cond (eqb part.group g) x (pos 0)

-- the market risks of one side by group 0 to 8, and all the sums, over the first n assets
unfoldable pub by_group : (Part → ℤ) → (ℕ → Part) → ℕ → List ℤ
by_group side parts n = tabulated 9 (λ g. Σ< n (λ a. in_group g (parts a) (side (parts a))))

unfoldable pub totals_of : (ℕ → Part) → ℕ → Totals
totals_of parts n = record {
  valuation = Σ< n (λ a. (parts a).worth);
  market = Σ< n (λ a. (parts a).market);
  interest = Σ< n (λ a. (parts a).interest);
  long = by_group (λ part. part.long) parts n;
  short = by_group (λ part. part.short) parts n;
}

-- 7: of group g + 1, 2 × percent / 100 × the smaller side, rounded down (house); group 0 gives none
unfoldable pub discount_of : List ℤ → List ℤ → List ℤ → ℕ → ℤ
discount_of groups longs shorts g = divided_down (pos 2 *ℤ number groups g *ℤ min_ℤ (number longs (1 + g)) (number shorts (1 + g))) 100

unfoldable pub discount : List ℤ → Totals → ℤ
discount groups totals = Σ< group_count (discount_of groups totals.long totals.short)

-- Single Limit = valuation − market risk − interest risk + discount
unfoldable pub single_limit : ℤ → ℤ → ℤ → ℤ → ℤ
single_limit valuation market interest discount = valuation -ℤ market -ℤ interest +ℤ discount

unfoldable pub figures_of : Totals → List ℤ → ℤ → Figures ℤ
figures_of totals groups rubles = record {
  valuation = totals.valuation +ℤ rubles;
  market = totals.market;
  interest = totals.interest;
  discount = discount groups totals;
  limit = single_limit (totals.valuation +ℤ rubles) totals.market totals.interest (discount groups totals);
}

-- the five figures in a report's order, of whole numbers or of floats
abbrev pub five : {N : Type 0} → Figures N → List N
five f = f.valuation ∷ f.market ∷ f.interest ∷ f.discount ∷ f.limit ∷ []

-- a fact of each of the five, and what gives five of five, each of its own
pub record EachFigure {N : Type 0} (Fact : N → Type 0) (f : Figures N) : Type 0 where
  pub valuation : Fact f.valuation
  pub market : Fact f.market
  pub interest : Fact f.interest
  pub discount : Fact f.discount
  pub limit : Fact f.limit

pub record EachFigureGives {N M : Type 0} (Gives : N → M → Type 0) (f : Figures N) (g : Figures M) : Type 0 where
  pub valuation : Gives f.valuation g.valuation
  pub market : Gives f.market g.market
  pub interest : Gives f.interest g.interest
  pub discount : Gives f.discount g.discount
  pub limit : Gives f.limit g.limit

-- ---- one account's block under the lent tables
unfoldable pub rubles_of : List ℤ → ℤ
rubles_of block = Σ< 9 (number (ruble_numbers block))

unfoldable pub part_in : List ℤ → Tables → ℕ → Part
part_in block tables a =
    let row = in_force tables.clearing tables.own a in
    part_of row (asset_of (nat_abs (account_kind block)) row (holding_of block a))

unfoldable pub block_figures : List ℤ → Tables → Figures ℤ
block_figures block tables = figures_of (totals_of (part_in block tables) assets) tables.groups (rubles_of block)

-- ---- one more asset, as the loop over the assets adds it
unfoldable pub with_part : Totals → Part → Totals
with_part totals part = record {
  valuation = totals.valuation +ℤ part.worth;
  market = totals.market +ℤ part.market;
  interest = totals.interest +ℤ part.interest;
  long = added totals.long part.group part.long;
  short = added totals.short part.group part.short;
}
