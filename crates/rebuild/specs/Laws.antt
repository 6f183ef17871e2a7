-- What the comparison and the octets are, and one law for each way out of the code.
pub mod Rebuilds
