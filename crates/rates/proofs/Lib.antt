-- Laws of a row's rules, of the tables, and of what the table check gives; and computed examples.
pub mod Counts
pub mod RowParts
pub mod Answer
pub mod DateRanges
pub mod Ranges
pub mod CoverTest
pub mod Lookup
pub mod Zeros
pub mod Sound
pub mod EachStricter
pub mod Examples
