-- What the code of the writer lays, level by level, that it is what the codecs write, and what reading it back tells.
pub mod Digits
pub mod Laying
pub mod Chains
pub mod Rows
pub mod Frames
pub mod Checked
pub mod Laws
