-- The words of a line, the forms of the requests as data, and the one parser's answer; the record that a run of words is.
pub mod Line
pub mod Forms
pub mod Requests
pub mod Record
pub mod Worked
pub mod Laws
