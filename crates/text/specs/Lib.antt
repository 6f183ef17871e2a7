-- Words put into a buffer, what the digits of a number mean, and octets in hex digits.
pub mod Typing
pub mod Typed
pub mod Decimals
pub mod Hex
pub mod Laws
