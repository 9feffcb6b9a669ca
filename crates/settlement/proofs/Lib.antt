-- The laws of settlement codes that callers cite, and those that the functions' proofs share.
pub mod Codes
pub mod Mates
pub mod Listing
pub mod Alone
pub mod Right
pub mod Kept
pub mod Listed
pub mod Alike
pub mod Examples
