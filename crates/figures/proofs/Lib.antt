-- Laws of what specs/ defines: the discount, the groups, the sums over the assets, several blocks, sizes, and what a deposit does to the limit.
pub mod Groups
pub mod SeveralBlocks
pub mod Below
pub mod Better
pub mod JointDeposit
