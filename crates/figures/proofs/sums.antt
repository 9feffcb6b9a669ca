-- The sums with one more part, and with a part of 0.
pub mod Steps
