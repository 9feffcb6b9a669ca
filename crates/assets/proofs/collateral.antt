-- What counts of an asset's collateral: that it never falls, and never grows faster than the collateral.
pub mod Counted
pub mod Growth
