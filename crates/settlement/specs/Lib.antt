-- The blocks of a settlement code (clause 4.11): which they are, when they are right, the list of them, what holds of them,
-- and an example.
pub mod Code
pub mod Members
pub mod Laws
pub mod Examples
