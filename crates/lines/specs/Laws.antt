-- What follows from the definitions: for the proofs of the functions, and for any cut of the input into reads.
pub mod Joining
pub mod Lines
