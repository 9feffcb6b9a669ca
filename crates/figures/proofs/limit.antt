-- The discount of a group, and by how much at most it falls.
pub mod Discount
-- How much the rubles of a block can be.
pub mod Rubles
