-- What the contracts of every crate cite: whole numbers, bounds, sums, parts of lists, lines laid in a buffer, marks and refusals.
pub mod Numbers
pub mod Bounds
pub mod Sums
pub mod Parts
pub mod Laid
pub mod Marks
pub mod Refusals
pub mod Codes
