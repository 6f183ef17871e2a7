-- The papers line by line, as the constant table of lengths has them.
pub mod Lines
pub mod Laws
