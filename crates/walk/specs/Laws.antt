-- One law for each way through the code.
pub mod Lines
pub mod Ranges
