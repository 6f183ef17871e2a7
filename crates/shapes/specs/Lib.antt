-- The papers item by item, as the constant table has them.
pub mod Shapes
pub mod Laws
