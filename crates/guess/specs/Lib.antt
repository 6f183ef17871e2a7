-- Reading the sheet back: the lines of a text, the guess and the answer, texts computed from it; what follows from them.
pub mod Lines
pub mod Guess
pub mod Examples
