-- What the code of the views computes, and that it is what 01 defines.
pub mod Standing
pub mod Choosing
pub mod Parts
pub mod Laws
