-- From collateral to an asset's part of the sums (document 01): what the contracts of `assets` cite, in the document's order; and the
-- records of several blocks, added (4.11).
pub mod Collateral
pub mod Asset
pub mod Joint
pub mod Risk
pub mod Part
pub mod Ranges
