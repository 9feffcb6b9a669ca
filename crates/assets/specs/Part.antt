-- One asset's part of the sums over the assets, from the row in force and the asset's record: worth, both risks, the side and the group of its market risk.
-- Assumes nothing.
use Rattle.std.specs.Prelude.{cond, List, ℕ, ℤ, pos, nat_abs}
use Rattle.std.specs.Int.Signed.{lt_z}
use Rattle.rates.specs.Row.{spread_group}
use Rattle.assets.specs.Risk.{position_sum, market_risk, interest_risk}
use Rattle.assets.specs.declared.record.Asset.{Asset}
use Rattle.assets.specs.declared.parts.Part.{Part}

-- an asset's market risk, where its position sum is positive, and where it is negative; a zero sum stands on neither side
unfoldable pub long_risk : List ℤ → Asset → ℤ
long_risk row x = cond (lt_z (pos 0) (position_sum x.positions)) (market_risk row x) (pos 0)

unfoldable pub short_risk : List ℤ → Asset → ℤ
short_risk row x = cond (lt_z (position_sum x.positions) (pos 0)) (market_risk row x) (pos 0)

-- the spread group, 0 for none
unfoldable pub group_of : List ℤ → ℕ
group_of row = nat_abs (spread_group row)

unfoldable pub part_of : List ℤ → Asset → Part
part_of row x = record {
  worth = x.worth;
  market = market_risk row x;
  interest = interest_risk row x.positions;
  long = long_risk row x;
  short = short_risk row x;
  group = group_of row;
}
