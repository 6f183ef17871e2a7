-- What each operation answers in words, and the laws for the code that types it.
pub mod Texts
pub mod Told
pub mod Laws
