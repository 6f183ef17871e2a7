pub mod Angles
pub mod Kept
