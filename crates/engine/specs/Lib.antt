-- The calls of document 01: their refusals in order, their codes, and what they leave.
pub mod State
pub mod Refused
pub mod Calls
pub mod Report
pub mod Ranges
