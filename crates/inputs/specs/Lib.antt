-- What reading the input promises.
pub mod Inputs
