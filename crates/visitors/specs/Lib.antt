-- How the copy is made, item by item.
pub mod Passing
pub mod Laws
