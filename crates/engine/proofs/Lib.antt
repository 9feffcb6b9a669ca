-- The laws that the proofs of the calls share, and what a reader wants to know of every call.
pub mod Exits
pub mod Allowed
pub mod Gates
pub mod Outcomes
pub mod Grounds
pub mod Passed
pub mod Judged
pub mod Valued
pub mod Reports
