-- The law that the two functions with a buffer of five share.
pub mod Filling
