-- What follows from the definitions, for the proofs of the functions.
pub mod Typed
pub mod Told
