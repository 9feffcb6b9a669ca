-- The laws that callers of `book` cite, and those that its own proofs share.
pub mod Asked
pub mod Blocks
pub mod Amounts
pub mod Holdings
pub mod InBounds
pub mod Replaced
pub mod Good
pub mod Changed
pub mod Trades
pub mod Moves
pub mod Opened
pub mod Traded
pub mod Moved
pub mod MoveAndTrade
pub mod Rolled
pub mod Allowed
pub mod AtAccount
