-- What a reader wants to know of every call, demand 3, and the claims that are computed.
pub mod Sharing
pub mod Computed
pub mod JointSums
pub mod Alike
pub mod Calls
pub mod Unchanged
pub mod Kept
pub mod Codes
pub mod Admission
pub mod Judged
pub mod MoreCollateral
pub mod OrderAfterDeposit
pub mod PositiveMove
pub mod Deposit
pub mod Needed
pub mod OneFigure
pub mod OwnRows
