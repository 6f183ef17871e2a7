-- The papers as data, one file a paper; which paper is a category's; the names that the papers print.
pub mod Notation
pub mod Cat048
pub mod Cat021
pub mod Cat007
pub mod Papers
pub mod Names
pub mod Specimens
