-- What the contracts of `rates` cite: a row's numbers by name, its rules, what a stricter row is, the tables, the row in force, the cover test, and what
-- the check gives.
pub mod Units
pub mod Row
pub mod Rules
pub mod Stricter
pub mod Lent
pub mod Tables
pub mod InForce
pub mod Ranges
pub mod RowA
pub mod Faults
