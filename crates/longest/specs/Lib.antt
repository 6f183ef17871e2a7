-- How long the lines of a number can be, and how long the longest sheet is.
pub mod Longest
