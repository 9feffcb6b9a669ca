-- What the table check gives of a row in force, number by number and by name. An unlisted row, all zero, is in these ranges too, so code that
-- works on a row needs no case for it; of a listed row the price is 1 or more.
-- Assumes nothing.
use Rattle.std.specs.Prelude.{◌≡◌, false, List, ℕ, ◌<◌, ℤ, pos, ◌-ℤ◌, ◌≤ℤ◌, length}
use Rattle.whole.specs.Bounds.{◌within◌, ◌upto◌}
use Rattle.whole.specs.Parts.{number}
use Rattle.rates.specs.Units.{row_length, table_length, assets, dates, group_count}
use Rattle.rates.specs.Lent.{Tables}
use Rattle.rates.specs.InForce.{in_force}
use Rattle.rates.specs.Row.{kind, unlisted, price, acceptance_share, pool_share, covered_sales, special_delivery, base_rate, raised_rate, highest_rate, market_limit, interest_limit, spread_group, mid, low, up, outer_low, outer_up, level}

-- the numbers of date d: mid, what a unit is worth, and how far the others stand from the mid
pub record DateRanges (row : List ℤ) (d : ℕ) : Type 0 where
  pub mid_within : mid row d within 10000000
  pub low_within : low row d within 20000000
  pub up_within : up row d within 20000000
  pub outer_low_within : outer_low row d within 20000000
  pub outer_up_within : outer_up row d within 20000000
  pub level_upto : level row d upto 10000000
  pub below : (mid row d -ℤ low row d) upto 10000000
  pub above : (up row d -ℤ mid row d) upto 10000000
  pub outer_below : (mid row d -ℤ outer_low row d) upto 10000000
  pub outer_above : (outer_up row d -ℤ mid row d) upto 10000000
  pub outer_lower : outer_low row d ≤ℤ low row d
  pub outer_higher : up row d ≤ℤ outer_up row d

-- the rates of a side
pub record SideRanges (row : List ℤ) (side : ℕ) : Type 0 where
  pub base_upto : base_rate row side upto 10000
  pub raised_upto : raised_rate row side upto 10000
  pub highest_upto : highest_rate row side upto 10000
  pub base_raised : base_rate row side ≤ℤ raised_rate row side
  pub base_highest : base_rate row side ≤ℤ highest_rate row side
  pub raised_highest : raised_rate row side ≤ℤ highest_rate row side

pub record RowRanges (row : List ℤ) : Type 0 where
  pub long : length row ≡ row_length
  pub kind_upto : kind row upto 3
  pub price_upto : price row upto 10000000
  pub price_listed : unlisted row ≡ false → pos 1 ≤ℤ price row
  pub acceptance_upto : acceptance_share row upto 10000
  pub pool_upto : pool_share row upto 10000
  pub sales_upto : covered_sales row upto 2
  pub special_upto : special_delivery row upto 1
  pub side : (s : ℕ) → s < 2 → SideRanges row s
  pub market_upto : market_limit row upto 10000000
  pub interest_upto : interest_limit row upto 10000000
  pub group_upto : spread_group row upto 8
  pub date : (d : ℕ) → d < dates → DateRanges row d

-- of tables and groups that pass the check
pub record TableRanges (tables : Tables) : Type 0 where
  pub clearing_long : length tables.clearing ≡ table_length
  pub own_long : length tables.own ≡ table_length
  pub groups_long : length tables.groups ≡ group_count
  pub row : (a : ℕ) → a < assets → RowRanges (in_force tables.clearing tables.own a)
  pub percent : (g : ℕ) → g < group_count → number tables.groups g upto 50
