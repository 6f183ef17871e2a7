-- How far texts agree; the laws of the guess, level by level; that the answer is the right one, and the only one.
pub mod Fits
pub mod Numbers
pub mod Groups
pub mod Okay
pub mod Flags
pub mod Items
pub mod Row
pub mod Papers
pub mod Whole
pub mod Wrong
pub mod Rebuilt
