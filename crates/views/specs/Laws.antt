-- What follows from the definitions, for the proofs of the functions.
pub mod Standing
pub mod Surveyed
pub mod Choosing
pub mod Parts
