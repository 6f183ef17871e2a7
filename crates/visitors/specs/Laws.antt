-- What the array holds between two items.
pub mod Passing
