-- What follows from the definition of the answer, for the proofs of the functions.
pub mod Requests
