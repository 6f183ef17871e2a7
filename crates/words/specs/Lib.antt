-- The words of a line, and the numbers that they write.
pub mod Lines
pub mod Numbers
pub mod Laws
