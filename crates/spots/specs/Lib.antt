-- The papers category by category, as the constant table has them.
pub mod Spots
pub mod Laws
