-- An asset's positions by date.
pub mod Positions
