-- What the contracts of `book` cite: where an account's numbers stand, the block rules, what a call leaves in a block, and the list of
-- blocks that are valued together.
pub mod Block
pub mod Rules
pub mod Changes
pub mod Roll
pub mod Choices
pub mod Ranges
pub mod AtAccount
pub mod Members
pub mod Asked
