-- The charge of units and the risk of a side: 0 at 0, never falling, and by how much at most they grow.
pub mod Charge
pub mod Sides
