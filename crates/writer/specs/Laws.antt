-- What follows from the definitions, for the proofs of the functions.
pub mod Digits
pub mod Laying
pub mod Lines
pub mod Chains
pub mod Rows
pub mod Frames
pub mod Same
pub mod Checked
pub mod Writes
