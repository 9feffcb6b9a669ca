-- How large the numbers of one asset can be, in n blocks added together; what is stated without n is wide enough for four. Assumes nothing.
use Rattle.std.specs.Prelude.{◌≡◌, List, ℕ, suc, ◌*◌, ◌<◌, ℤ, length}
use Rattle.whole.specs.Bounds.{◌within◌, ◌upto◌}
use Rattle.whole.specs.Parts.{number}
use Rattle.assets.specs.declared.collateral.Regime.{Regime}
use Rattle.assets.specs.declared.collateral.Regime.TheVariants.{Special, NotRecorded, Partial, Accepted}
use Rattle.assets.specs.declared.record.Asset.{Asset}
use Rattle.assets.specs.declared.parts.Part.{Part}

-- what a regime carries is a share
abbrev pub ShareRange : Regime → Type 0
ShareRange Special = Unit {0}
ShareRange NotRecorded = Unit {0}
ShareRange (Partial share) = share upto 10000
ShareRange (Accepted share) = share upto 10000

-- an asset's positions by date
pub record PositionRanges (positions : List ℤ) : Type 0 where
  pub size : length positions ≡ 8
  pub each : (d : ℕ) → d < 8 → number positions d within 8000000

-- an asset's record over n blocks: C' stands at date 0, so that a block has two million units there and one million at a later date
pub record AssetRanges (n : ℕ) (x : Asset) : Type 0 where
  pub worth_within : x.worth within (n * 240000000000000)
  pub size : length x.positions ≡ 8
  pub first_within : number x.positions 0 within (n * 2000000)
  pub later_within : (d : ℕ) → d < 7 → number x.positions (suc d) within (n * 1000000)

-- an asset's part of the sums
pub record PartRanges (part : Part) : Type 0 where
  pub worth_within : part.worth within 960000000000000
  pub market_upto : part.market upto 640000000000000
  pub interest_upto : part.interest upto 640000000000000
  pub long_upto : part.long upto 640000000000000
  pub short_upto : part.short upto 640000000000000
  pub group_below : part.group < 9
