-- What follows from the definitions: what a word tells, that every place and length has room in it, what the code's steps leave.
pub mod Packed
pub mod Fits
pub mod Copies
pub mod Octets
pub mod Arrays
pub mod Exact
