-- What follows from the definitions, for the proofs of the functions.
pub mod Typing
pub mod Typed
pub mod Decimals
pub mod Hex
