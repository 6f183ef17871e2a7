-- What holds of every line, and what its format tells of it.
pub mod Lines
pub mod Formats
