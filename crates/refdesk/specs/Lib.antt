-- What is held of the input between two reads, and what is answered to all of them.
pub mod Turns
pub mod Session
