-- What the code of the reader computes, level by level, and that it is what the codecs read.
pub mod Numbers
pub mod Steps
pub mod Slots
pub mod Chains
pub mod Items
pub mod Rows
pub mod Fields
pub mod Seen
pub mod Places
pub mod Taking
pub mod Laws
