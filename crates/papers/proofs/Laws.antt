-- What follows from the definitions, a file for each of theirs.
pub mod Papers
pub mod Names
