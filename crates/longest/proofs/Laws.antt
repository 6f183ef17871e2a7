-- That no sheet is longer, and that one is as long.
pub mod Ranges
pub mod Longest
