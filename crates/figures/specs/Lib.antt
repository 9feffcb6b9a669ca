-- The sums over the assets, the discount and the five figures (document 01): what the contracts of `figures` cite, in the document's order; and what
-- is shown of several blocks.
pub mod Limit
pub mod Joint
pub mod Ranges
pub mod Laws
