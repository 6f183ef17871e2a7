-- What follows from the definitions, for the proofs of the functions.
pub mod Keys
pub mod Marks
pub mod Numbers
pub mod Groups
pub mod Lines
pub mod Items
pub mod Rows
pub mod Whole
