-- One law for each way through the code.
pub mod Compared
