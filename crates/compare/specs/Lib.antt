-- Two texts beside each other.
pub mod Lines
pub mod Laws
