-- The answer to a line, by the forms of the requests; lines and their answers computed; how long an answer is at most.
pub mod Answers
pub mod Spoken
pub mod Laws
