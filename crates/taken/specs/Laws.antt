-- That this is the guess, and one law for each way through the code.
pub mod Tables
pub mod Numbers
pub mod Lines
pub mod Items
pub mod Rows
pub mod Names
pub mod Record
