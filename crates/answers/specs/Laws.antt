-- How long the words of an answer are at most, and that every answer has room in the buffer.
pub mod Texts
pub mod Room
