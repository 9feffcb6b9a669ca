-- Laws of what specs/ defines: C' and the positions, the charge, the two sides of a position, sizes, an asset of which nothing is held, records of several
-- blocks, and what a deposit does to an asset's part of the sums.
pub mod Sizes
pub mod Unheld
pub mod Unlisted
pub mod Joint
pub mod Raised
pub mod AssetDeposit
pub mod JointDeposit
