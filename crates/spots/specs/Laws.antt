-- What holds of every spot, and of rows of them.
pub mod Spots
pub mod Rows
