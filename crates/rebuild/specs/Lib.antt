-- What rebuilding a field promises.
pub mod Rebuilds
pub mod Laws
