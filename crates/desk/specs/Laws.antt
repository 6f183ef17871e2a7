-- What follows from the definitions, for the proofs of the functions.
pub mod Asking
pub mod Splicing
pub mod Edits
